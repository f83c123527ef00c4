-- Every fault of a contract is one of the numbers 8 to 15, so where none of those sentences holds there are no faults.
use Rattle.std.specs.Prelude.{◌≡◌, ◌&&◌, ◌||◌, ◌∷◌, ◌++◌}
use Rattle.kit.specs.Names.{refl, sym, Bool, true, false, not, false≢true, List, [], map, none, ℕ, suc, eqb}
use Rattle.kit.specs.Names.{leb, length, get_or, eqb-true, eq-eqb}
use Rattle.definitions.specs.Basics.{any, flat_map, is_zero}
use Rattle.definitions.specs.ContractFile.{DataType, boolean, address, Owner, Expression, constant, me, field, entry, parameter, operator, negation, reveal, Statement, skip, sequence, assign_field, assign_entry, require, conditional, Field, Contract, Scope, field_at, same_type, shape_code, is_final, is_mapping, is_division, operands_fit, type_of}
use Rattle.definitions.specs.Owners.{Links, no_links, is_reader, place_owner, name_of, owner_of, is_public, links_of_condition, links_after}
use Rattle.definitions.specs.Numbers.{fault, may_be_put, is_tagged, is_none, owner_fits, entry_faults, read_fault, expression_faults, condition_faults, value_faults, statement_faults, field_of_declared_owner, field_faults, function_faults, contract_faults, contract_sentences}
use Rattle.theory_laws.proofs.TruthValues.{or_left}
use Rattle.theory_typing.proofs.Basics.{contradiction}

abbrev pub tree_numbers : List ℕ
tree_numbers = 8 ∷ 9 ∷ 10 ∷ 11 ∷ 12 ∷ 13 ∷ 14 ∷ 15 ∷ []

pub data Known : List ℕ → Type 0 where
  nothing : Known []
  one : {n : ℕ} {ns : List ℕ} → any (eqb n) tree_numbers ≡ true → Known ns → Known (n ∷ ns)

both : {xs ys : List ℕ} → Known xs → Known ys → Known (xs ++ ys)
both nothing k = k
both (one h r) k = one h (both r k)

known_fault : (b : Bool) (n : ℕ) → any (eqb n) tree_numbers ≡ true → Known (fault b n)
known_fault true n h = one h nothing
known_fault false n h = nothing

known_flat_map : {A : Type 0} (F : A → List ℕ) → ((x : A) → Known (F x)) → (xs : List A) → Known (flat_map F xs)
unfolding flat_map
known_flat_map F h [] = nothing
known_flat_map F h (x ∷ xs) = both (h x) (known_flat_map F h xs)

-- Where no sentence of a list of numbers holds, none of those numbers is there.
not_known : (x : ℕ) (xs numbers : List ℕ) → any (eqb x) numbers ≡ true → ((j : ℕ) → get_or (map (λ n. any (eqb n) (x ∷ xs)) numbers) j false ≡ false) → ⊥
unfolding any
not_known x xs [] h off = false≢true h
not_known x xs (n ∷ numbers) h off = go (eqb x n) refl h (λ later. not_known x xs numbers later (λ j. off (suc j)))
  where
    go : (b : Bool) → eqb x n ≡ b → (b || any (eqb x) numbers) ≡ true → (any (eqb x) numbers ≡ true → ⊥) → ⊥
    go true e h later = contradiction (eqb n x) (eq-eqb n x (sym (eqb-true x n e))) (or_left (eqb n x) (any (eqb n) xs) (off 0))
    go false e h later = later h

pub none_known : (xs : List ℕ) → Known xs → ((j : ℕ) → get_or (map (λ n. any (eqb n) xs) tree_numbers) j false ≡ false) → xs ≡ []
none_known [] k off = refl
none_known (x ∷ xs) (one h r) off = absurd (not_known x xs tree_numbers h off)

eight : (b : Bool) → Known (fault b 8)
unfolding any
eight b = known_fault b 8 refl

nine : (b : Bool) → Known (fault b 9)
unfolding any
nine b = known_fault b 9 refl

module _ (scope : Scope) where
  abbrev at : ℕ → Field
  at f = field_at scope.fields f

  abbrev is_typed : Expression → DataType → Bool
  is_typed e t = same_type (type_of scope e) t

  known_entry : (f : ℕ) (key : Expression) → Known (entry_faults scope f key)
  unfolding any
  known_entry f key =
      both (both (eight (not (is_mapping (at f).shape))) (nine (not (is_typed key address))))
      (known_fault (not (is_public scope key) || (is_tagged (at f).owner && is_none (name_of scope key))) 10 refl)

  module _ (linked : Links) where
    known_read : (e : Expression) → Known (read_fault scope linked e)
    unfolding any
    known_read e = known_fault (not (is_reader linked (owner_of scope e))) 11 refl

    known_division : (b : Bool) → Known (fault b 12)
    unfolding any
    known_division b = known_fault b 12 refl

    known_reveal : (b : Bool) → Known (fault b 13)
    unfolding any
    known_reveal b = known_fault b 13 refl

    pub known_expression : (e : Expression) → Known (expression_faults scope linked e)
    unfolding expression_faults
    known_expression (constant t v) = nothing
    known_expression me = nothing
    known_expression (field f) = both (eight (is_mapping (at f).shape)) (known_read (field f))
    known_expression (entry f key) = both (both (known_expression key) (known_entry f key)) (known_read (entry f key))
    known_expression (parameter k) = both (eight (leb (length scope.parameters) k)) (known_read (parameter k))
    known_expression (operator o left right) =
        let parts = both (known_expression left) (known_expression right) in
        let typed = both parts (nine (not (operands_fit o (type_of scope left) (type_of scope right)))) in
        both (both (both typed (known_read left)) (known_read right))
        (known_division (is_division o && (not (is_public scope left) || not (is_public scope right))))
    known_expression (negation part) = both (both (known_expression part) (nine (not (is_typed part boolean)))) (known_read part)
    known_expression (reveal part o) =
        both (both (both (known_expression part) (eight (not (owner_fits scope o)))) (known_read part)) (known_reveal (is_public scope part))

    known_condition : (e : Expression) → Known (condition_faults scope linked e)
    unfolding any
    known_condition e = both (both (known_expression e) (nine (not (is_typed e boolean)))) (known_fault (not (is_public scope e)) 14 refl)

    known_value : (f : ℕ) (place : Owner) (e : Expression) → Known (value_faults scope linked f place e)
    unfolding any
    known_value f place e =
        both (both (known_expression e) (nine (not (is_typed e (at f).type)))) (known_fault (not (may_be_put linked (owner_of scope e) place)) 15 refl)

  pub known_statement : (linked : Links) (s : Statement) → Known (statement_faults scope linked s)
  unfolding statement_faults
  known_statement linked skip = nothing
  known_statement linked (sequence first second) = both (known_statement linked first) (known_statement (links_after scope first linked) second)
  known_statement linked (assign_field f e) =
      both (eight (not (is_zero (shape_code (at f).shape)))) (known_value linked f (place_owner (at f).owner none) e)
  known_statement linked (assign_entry f key e) =
      both (both (known_expression linked key) (known_entry f key)) (known_value linked f (place_owner (at f).owner (name_of scope key)) e)
  known_statement linked (require condition) = known_condition linked condition
  known_statement linked (conditional condition then else) =
      both (both (known_condition linked condition) (known_statement (links_of_condition scope condition linked) then)) (known_statement linked else)

known_field : (fields : List Field) (d : Field) → Known (field_faults fields d)
known_field fields d =
    known_flat_map (λ f. fault (not (is_final (field_at fields f).shape)) 8) (λ f. eight (not (is_final (field_at fields f).shape)))
    (field_of_declared_owner d.owner)

pub known_contract : (c : Contract) → Known (contract_faults c)
unfolding contract_faults
known_contract c =
    both (known_flat_map (field_faults c.fields) (known_field c.fields) c.fields)
    (known_flat_map (function_faults c.fields) (λ g. known_statement (record { fields = c.fields; parameters = g.parameters }) no_links g.body) c.functions)

pub contract_faultless : (c : Contract) → ((j : ℕ) → get_or (contract_sentences c) j false ≡ false) → contract_faults c ≡ []
contract_faultless c off = none_known (contract_faults c) (known_contract c) off
