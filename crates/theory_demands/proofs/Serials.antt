-- A call makes cells with its own serials, and the walk makes none: it copies.
use Rattle.std.specs.Prelude.{◌∷◌, ◌++◌, ◌+◌}
use Rattle.kit.specs.Names.{refl, Bool, true, false, cond, List, [], ℕ, zero, suc, length, set, replicate}
use Rattle.definitions.specs.Basics.{is_true}
use Rattle.definitions.specs.ContractFile.{Name, Statement, Field, Parameter, Scope}
use Rattle.definitions.specs.Owners.{owner_of}
use Rattle.definitions.specs.Rewriting.{BodyExpression, Command, Variable, supplied, read_from, guard, Guard, under, Passage, in_body, in_branch, rewrite_statement}
use Rattle.definitions.specs.Original.{value, places_after, Reader, anyone, only, reader_of, position}
use Rattle.definitions.specs.Ledger.{Content, plain, State, content_at, content_for, content_of, state_after, plain_number, honest_content, honest_contents, honest_variables, honest_parameters, public_of}
use Rattle.theory_demands.specs.Claims.{SerialOf, EveryContent}

-- Lists all of whose contents have P, where plain contents do.
module _ (P : Content → Type 0) (plainly : (v : ℕ) → P (plain v)) where
  pub every_none : EveryContent P []
  every_none = record { at = λ i. plainly 0 }

  pub every_cons : (c : Content) (cs : List Content) → P c → EveryContent P cs → EveryContent P (c ∷ cs)
  every_cons c cs h hs = record { at = at }
    where
      at : (i : ℕ) → P (content_at (c ∷ cs) i)
      at zero = h
      at (suc i) = hs.at i

  pub every_tail : (c : Content) (cs : List Content) → EveryContent P (c ∷ cs) → EveryContent P cs
  every_tail c cs h = record { at = λ i. h.at (suc i) }

  pub every_append : (cs ds : List Content) → EveryContent P cs → EveryContent P ds → EveryContent P (cs ++ ds)
  every_append [] ds h k = k
  every_append (c ∷ cs) ds h k = every_cons c (cs ++ ds) (h.at 0) (every_append cs ds (every_tail c cs h) k)

  pub every_set : (cs : List Content) (i : ℕ) (c : Content) → EveryContent P cs → P c → EveryContent P (set cs i c)
  every_set [] i c h k = h
  every_set (d ∷ cs) zero c h k = every_cons c cs k (every_tail d cs h)
  every_set (d ∷ cs) (suc i) c h k = every_cons d (set cs i c) (h.at 0) (every_set cs i c (every_tail d cs h) k)

  pub every_replicate : (n : ℕ) → EveryContent P (replicate n (plain 0))
  every_replicate zero = every_none
  every_replicate (suc n) = every_cons (plain 0) (replicate n (plain 0)) (plainly 0) (every_replicate n)

  pub every_cond : (b : Bool) (cs ds : List Content) → EveryContent P cs → EveryContent P ds → EveryContent P (cond b cs ds)
  every_cond true cs ds h k = h
  every_cond false cs ds h k = k

  -- "Copies keep serials": what the walk puts into a place or a variable is plain or was there.
  module _ (address : Name → ℕ) (fields : List Field) (parameters : List Content) (given : EveryContent P parameters) where
    walked_content : (s : State) → EveryContent P s.places → EveryContent P s.variables → (e : BodyExpression)
        → P (content_of address fields parameters s e)
    unfolding content_of
    walked_content s h k (BodyExpression.constant t v) = plainly v
    walked_content s h k BodyExpression.me = plainly (address Name.me_name)
    walked_content s h k (BodyExpression.field f) = h.at (position fields f 0)
    walked_content s h k (BodyExpression.entry f key) = h.at (position fields f (plain_number (content_of address fields parameters s key)))
    walked_content s h k (BodyExpression.parameter j) = given.at j
    walked_content s h k (BodyExpression.operator o left right) = plainly _
    walked_content s h k (BodyExpression.negation part) = plainly _
    walked_content s h k (BodyExpression.variable i) = k.at i

    pub walked_state : (s : State) → EveryContent P s.places → EveryContent P s.variables → (command : Command)
        → EveryContent P (state_after address fields parameters s command).places × EveryContent P (state_after address fields parameters s command).variables
    unfolding state_after
    walked_state s h k Command.skip = (h, k)
    walked_state s h k (Command.sequence first second) =
        let a = walked_state s h k first in walked_state (state_after address fields parameters s first) a.0 a.1 second
    walked_state s h k (Command.assign_field f value) = (every_set s.places (position fields f 0) _ h (walked_content s h k value), k)
    walked_state s h k (Command.assign_entry f key value) =
        (every_set s.places (position fields f (plain_number (content_of address fields parameters s key))) _ h (walked_content s h k value), k)
    walked_state s h k (Command.require condition) = (h, k)
    walked_state s h k (Command.conditional condition then else) =
        branch (is_true (plain_number (content_of address fields parameters s condition))) (walked_state s h k then) (walked_state s h k else)
      where
        branch : (b : Bool) {s s' : State} → EveryContent P s.places × EveryContent P s.variables → EveryContent P s'.places × EveryContent P s'.variables
            → EveryContent P (cond b s s').places × EveryContent P (cond b s s').variables
        branch true x y = x
        branch false x y = y
    walked_state s h k (Command.set_variable i value) = (h, every_set s.variables i _ k (walked_content s h k value))
    walked_state s h k Command.verify = (h, k)

  pub every_public : (ps : List Parameter) (cs : List Content) → EveryContent P cs → EveryContent P (public_of ps cs)
  unfolding public_of
  every_public [] cs h = every_none
  every_public (p ∷ ps) [] h = every_none
  every_public (p ∷ ps) (c ∷ cs) h =
      let rest = every_public ps cs (every_tail c cs h) in
      every_cond p.private (public_of ps cs) (c ∷ public_of ps cs) rest (every_cons c (public_of ps cs) (h.at 0) rest)

-- Honest parameters and supplied values are plain, or cells of the call.
made_plain : (n v : ℕ) → SerialOf n (plain v)
made_plain n v = tt

made_content : (reader : Reader) (n index v : ℕ) → SerialOf n (content_for reader n index v)
made_content anyone n index v = tt
made_content (only x) n index v = refl

pub made_parameters : (caller n k : ℕ) (ps : List Parameter) (arguments : List ℕ) → EveryContent (SerialOf n) (honest_parameters caller n k ps arguments)
unfolding honest_parameters
made_parameters caller n k [] arguments = every_none (SerialOf n) (made_plain n)
made_parameters caller n k (p ∷ ps) [] = every_none (SerialOf n) (made_plain n)
made_parameters caller n k (p ∷ ps) (v ∷ arguments) =
    every_cons (SerialOf n) (made_plain n) _ _ (made_content (cond p.private (only caller) anyone) n k v) (made_parameters caller n (suc k) ps arguments)

module _ (scope : Scope) (address : Name → ℕ) (n : ℕ) (arguments : List ℕ) where
  made_variable : (places : List ℕ) (i : ℕ) (v : Variable) → SerialOf n (honest_content scope address n arguments places i v)
  made_variable places i (supplied o e) = made_content (reader_of address o) n (8 + i) _
  made_variable places i (read_from o e) = tt
  made_variable places i guard = tt

  pub made_contents : (places : List ℕ) (i : ℕ) (vs : List Variable) → EveryContent (SerialOf n) (honest_contents scope address n arguments places i vs)
  unfolding honest_contents
  made_contents places i [] = every_none (SerialOf n) (made_plain n)
  made_contents places i (v ∷ vs) = every_cons (SerialOf n) (made_plain n) _ _ (made_variable places i v) (made_contents places (suc i) vs)

  pub made_variables : (s : Statement) (places : List ℕ) (g : Guard) (i : ℕ) → EveryContent (SerialOf n) (honest_variables scope address n arguments s places g i)
  unfolding honest_variables
  made_variables Statement.skip places g i = every_none (SerialOf n) (made_plain n)
  made_variables (Statement.sequence first second) places g i =
      every_append (SerialOf n) (made_plain n) _ _ (made_variables first places g i) (made_variables second (places_after scope.fields address arguments places first) g (i + length (rewrite_statement scope first g i).variables))
  made_variables (Statement.assign_field f e) places g i = made_contents places i _
  made_variables (Statement.assign_entry f key e) places g i = made_contents places i _
  made_variables (Statement.require condition) places g i = made_contents places i _
  made_variables (Statement.conditional condition then else) places g i =
      let c = in_body (owner_of scope) condition i in
      let j = i + length c.variables in
      let a = in_branch (rewrite_statement scope then) j in
      let k = j + length a.variables in
      let b = in_branch (rewrite_statement scope else) k in
      let first = plain 0 ∷ honest_variables scope address n arguments then places (under j) (suc j) in
      let second = plain 0 ∷ honest_variables scope address n arguments else places (under k) (suc k) in
      let none : (p : Passage) → EveryContent (SerialOf n) (replicate (length p.variables) (plain 0)) =
      λ p. every_replicate (SerialOf n) (made_plain n) (length p.variables) in
      every_append (SerialOf n) (made_plain n) _ _ (made_contents places i c.variables)
      (every_cond (SerialOf n) (made_plain n) (is_true (value scope.fields address arguments places condition)) (first ++ replicate (length b.variables) (plain 0))
      (replicate (length a.variables) (plain 0) ++ second)
      (every_append (SerialOf n) (made_plain n) first _ (every_cons (SerialOf n) (made_plain n) (plain 0) _ tt (made_variables then places (under j) (suc j))) (none b))
      (every_append (SerialOf n) (made_plain n) _ second (none a) (every_cons (SerialOf n) (made_plain n) (plain 0) _ tt (made_variables else places (under k) (suc k)))))
