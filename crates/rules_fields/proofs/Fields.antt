-- Faults of a list's elements one after another, and of a field's own owner code.
use Rattle.std.specs.Prelude.{◌≡◌, ◌∷◌, ◌+◌, ◌-◌, ◌/◌, ◌<◌, ◌≤◌}
use Rattle.kit.specs.Names.{ap, sym, ◌∙◌, true, false, not, cond, List, [], append-nil, ℕ, suc, min}
use Rattle.kit.specs.Names.{arith, add-one, eqb, length, get_or, drop, length-map, drop_of_length-le, drop-cons, ne_eqb}
use Rattle.definitions.specs.Basics.{flat_map}
use Rattle.definitions.specs.ContractFile.{field_of}
use Rattle.definitions.specs.Numbers.{fault}
use Rattle.rules_faults.specs.Faults.{least_fault}
use Rattle.rules_faults.proofs.Faults.{least_append, least_none, least_one, least_bounded, counted_8}
use Rattle.file_decoded.specs.Slices.{fields_from}
use Rattle.file_decoded.proofs.Records.{fields_length}
use Rattle.rules_scopes.specs.declared.Declared.{Declared}
use Rattle.rules_scopes.specs.Scopes.{field_on, IsField}
use Rattle.rules_fields.specs.Fields.{fields_in, owner_fault}

module _ {A : Type 0} (faults_of : A → List ℕ) where
  pub flat_cons : (x : A) (xs : List A) → least_fault (flat_map faults_of (x ∷ xs)) ≡ min (least_fault (faults_of x)) (least_fault (flat_map faults_of xs))
  unfolding flat_map
  flat_cons x xs = least_append (faults_of x) (flat_map faults_of xs)

  pub flat_none : least_fault (flat_map faults_of []) ≡ 16
  unfolding flat_map
  flat_none = least_none

  pub fault_start : (xs : List A) → min 16 (least_fault (flat_map faults_of xs)) ≡ least_fault (flat_map faults_of xs)
  fault_start xs = let h = least_bounded (flat_map faults_of xs) in omega arith

  pub fault_next : (l : List A) (i : ℕ) (other : A) (total so_far next : ℕ) → i < length l → min so_far (least_fault (flat_map faults_of (drop i l))) ≡ total
      → next ≡ min so_far (least_fault (faults_of (get_or l i other))) → min next (least_fault (flat_map faults_of (drop (i + 1) l))) ≡ total
  fault_next l i other total so_far next h inv e =
      let split : least_fault (flat_map faults_of (drop i l)) ≡ min (least_fault (faults_of (get_or l i other))) (least_fault (flat_map faults_of (drop (i + 1) l))) =
      ap (λ x. least_fault (flat_map faults_of x)) (drop-cons l i other h)
      ∙ (flat_cons (get_or l i other) (drop (suc i) l) ∙ ap (λ n. min (least_fault (faults_of (get_or l i other))) (least_fault (flat_map faults_of (drop n l)))) (sym (add-one i))) in
      omega arith

  pub fault_done : (l : List A) (i total so_far : ℕ) → length l ≤ i → so_far ≤ 16 → min so_far (least_fault (flat_map faults_of (drop i l))) ≡ total → so_far ≡ total
  fault_done l i total so_far h k inv =
      let empty : least_fault (flat_map faults_of (drop i l)) ≡ 16 = ap (λ x. least_fault (flat_map faults_of x)) (drop_of_length-le l h) ∙ flat_none in
      omega arith

pub count_fields : (fields : List ℕ) → length (fields_in fields) ≡ length fields / 3
count_fields fields = length-map (fields_from (length fields / 3) fields 0) field_of ∙ fields_length (length fields / 3) fields 0

module _ (fields : List ℕ) (f : ℕ) (d : Declared) (is : IsField (length fields / 3) (field_on fields f) d) where
  pub owner_tagged : d.tagged ≡ true → 16 ≡ owner_fault fields f
  unfolding flat_map
  owner_tagged e = rw (is.owner, e) (sym least_none)

  pub owner_everyone : d.tagged ≡ false → d.owner ≡ 0 → 16 ≡ owner_fault fields f
  unfolding flat_map
  owner_everyone e o = rw (is.owner, e, o) (sym least_none)

  pub owner_named : (named : Declared) (r : ℕ) → d.tagged ≡ false → (d.owner ≡ 0 → ⊥) → IsField (length fields / 3) (field_on fields (d.owner - 10)) named
      → r ≡ cond (not (eqb named.shape 1)) 8 16 → r ≡ owner_fault fields f
  unfolding flat_map
  owner_named named r e o there h =
      let unfit = not (eqb named.shape 1) in
      rw (is.owner, e, ne_eqb d.owner 0 o, there.shape, append-nil (fault unfit 8), least_one unfit 8 counted_8) h
