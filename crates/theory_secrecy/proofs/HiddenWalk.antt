-- The walk of a written body opens no cell: to hide a state and walk is to walk and hide.
use Rattle.std.specs.Prelude.{◌≡◌, ◌∷◌}
use Rattle.kit.specs.Names.{refl, ap, Bool, true, false, cond, List, [], map, ℕ, zero, suc, set, get_or_map}
use Rattle.definitions.specs.ContractFile.{Name, Field}
use Rattle.definitions.specs.Original.{position}
use Rattle.definitions.specs.Rewriting.{BodyExpression, Command}
use Rattle.definitions.specs.Ledger.{Content, plain, cell, State, plain_number, content_at, content_of, state_after}
use Rattle.theory_relations.specs.Secrecy.{hidden, all_hidden, state_hidden}

pub hidden_number : (party : ℕ) (content : Content) → plain_number (hidden party content) ≡ plain_number content
unfolding hidden
hidden_number party (plain v) = refl
hidden_number party (cell c) = refl

pub hidden_at : (party : ℕ) (contents : List Content) (i : ℕ) → content_at (all_hidden party contents) i ≡ hidden party (content_at contents i)
unfolding hidden
hidden_at party contents i = get_or_map (hidden party) contents i (plain 0)

pub map_set : {A B : Type 0} (f : A → B) (l : List A) (i : ℕ) (a : A) → map f (set l i a) ≡ set (map f l) i (f a)
map_set f [] i a = refl
map_set f (x ∷ l) zero a = refl
map_set f (x ∷ l) (suc i) a = ap (λ r. f x ∷ r) (map_set f l i a)

pub cond_map : {A B : Type 0} (f : A → B) (b : Bool) (x y : A) → f (cond b x y) ≡ cond b (f x) (f y)
cond_map f true x y = refl
cond_map f false x y = refl

module _ (address_of : Name → ℕ) (fields : List Field) (party : ℕ) (parameters : List Content) where
  pub hidden_content : (s : State) (e : BodyExpression)
      → content_of address_of fields (all_hidden party parameters) (state_hidden party s) e ≡ hidden party (content_of address_of fields parameters s e)
  unfolding content_of hidden
  hidden_content s (BodyExpression.constant t v) = refl
  hidden_content s BodyExpression.me = refl
  hidden_content s (BodyExpression.field f) = hidden_at party s.places (position fields f 0)
  hidden_content s (BodyExpression.entry f key) = simp (hidden_content s key, hidden_number, hidden_at)
  hidden_content s (BodyExpression.parameter k) = hidden_at party parameters k
  hidden_content s (BodyExpression.operator o left right) = simp (hidden_content s left, hidden_content s right, hidden_number)
  hidden_content s (BodyExpression.negation part) = simp (hidden_content s part, hidden_number)
  hidden_content s (BodyExpression.variable i) = hidden_at party s.variables i

  pub hidden_walk : (s : State) (command : Command)
      → state_after address_of fields (all_hidden party parameters) (state_hidden party s) command ≡ state_hidden party (state_after address_of fields parameters s command)
  unfolding state_after
  hidden_walk s Command.skip = refl
  hidden_walk s (Command.sequence first second) = rw (hidden_walk s first) (hidden_walk (state_after address_of fields parameters s first) second)
  hidden_walk s (Command.assign_field f value) = simp (hidden_content, map_set)
  hidden_walk s (Command.assign_entry f key value) = simp (hidden_content, hidden_number, map_set)
  hidden_walk s (Command.require condition) = refl
  hidden_walk s (Command.conditional condition then else) =
      simp (hidden_content, hidden_number, hidden_walk s then, hidden_walk s else, cond_map (state_hidden party))
  hidden_walk s (Command.set_variable i value) = simp (hidden_content, map_set)
  hidden_walk s Command.verify = refl
