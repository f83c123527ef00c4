-- The rewritten expressions of an accepted one: its body form gives a content that stands for its value, its circuit form the value.
use Rattle.std.specs.Prelude.{◌≡◌, ◌&&◌, ◌||◌, ◌+◌}
use Rattle.kit.specs.Names.{refl, ap, sym, Bool, true, false, cond, not, and-true, List, [], ℕ, suc, length, get_or}
use Rattle.definitions.specs.ContractFile.{Name, me_name, Owner, everyone, owned_by, Operator, Expression, constant, me, field, entry, parameter, operator, negation, reveal, Field, Scope, is_everyone, is_division, is_of_type, type_of}
use Rattle.definitions.specs.Owners.{Links, owner_of_parts, owner_of}
use Rattle.definitions.specs.Numbers.{expression_faults}
use Rattle.definitions.specs.Rewriting.{BodyExpression, Circuit, Generator, kept, one_part, two_parts, operator_in_circuit, in_body, in_circuit}
use Rattle.definitions.specs.Original.{position, reader_of, operate, operates, negate, value, is_worked_out}
use Rattle.definitions.specs.Ledger.{Content, plain, plain_number, content_at, content_of, is_walked, circuit_value}
use Rattle.theory_laws.proofs.Codes.{everyone_is}
use Rattle.theory_laws.proofs.TruthValues.{and_left, and_right}
use Rattle.theory_relations.specs.Acceptance.{FieldsFit, constants_fit}
use Rattle.theory_relations.specs.Environment.{Environment}
use Rattle.theory_relations.specs.Standing.{Stands, AllStand, readers_of}
use Rattle.theory_typing.proofs.Faults.{entry_read_fits, parameter_read_fits, OperatorFits, operator_fits, negation_fits, reveal_fits}
use Rattle.theory_typing.proofs.Values.{value_typed}
use Rattle.theory_typing.proofs.Readers.{field_reader, entry_reader}
use Rattle.theory_relations.specs.Standing.{ParametersStand}
use Rattle.theory_simulation.proofs.Standing.{plain_stands, stands_for_everyone, public_parts, private_parts}
use Rattle.theory_simulation.proofs.Pieces.{Call, faithful_when, kept_faithful, one_part_faithful, two_parts_faithful}
use Rattle.theory_simulation.proofs.Variables.{original_value, BodyFaithful, CircuitFaithful, supplying_faithful, reading_faithful}

-- In a call whose original is at these numbers, the places hold contents that stand for them.
pub record CallStands (c : Call) (contents : List Content) (numbers : List ℕ) : Type 0 where
  pub fields : FieldsFit c.scope.fields
  pub environment : Environment c.scope c.address_of c.arguments numbers
  pub places : AllStand (readers_of c.address_of c.scope.fields) contents numbers
  pub parameters : ParametersStand c.scope c.address_of c.parameters c.arguments

-- A division that is not read is none: number 12 leaves no private one.
division_is_read : (left right : Owner) (division : Bool) → is_everyone (owner_of_parts left right) && division ≡ false
    → division && (not (is_everyone left) || not (is_everyone right)) ≡ false → division ≡ false
division_is_read everyone everyone division p q = p
division_is_read everyone (owned_by n) true p q = q
division_is_read everyone (owned_by n) false p q = refl
division_is_read (owned_by n) right true p q = q
division_is_read (owned_by n) right false p q = refl

operates_always : (o : Operator) (divisor : ℕ) → is_division o ≡ false → operates o divisor ≡ true
operates_always o divisor e = rw e

module _ (c : Call) (places : List Content) (numbers : List ℕ) where
  abbrev address_of : Name → ℕ
  address_of = c.address_of

  abbrev scope : Scope
  scope = c.scope

  abbrev fields : List Field
  fields = c.scope.fields

  abbrev value_of : Expression → ℕ
  value_of e = original_value c numbers e

  abbrev InBody : Owner → ℕ → Generator BodyExpression → Bool → ℕ → Type 0
  InBody = BodyFaithful c places numbers

  abbrev InCircuit : ℕ → Generator Circuit → Bool → ℕ → Type 0
  InCircuit = CircuitFaithful c places numbers

  operator_in_body : {m n : Generator BodyExpression} {s t : Bool} {a b : ℕ} (left right : Owner) (o : Operator) (i : ℕ) → is_everyone left ≡ true
      → is_everyone right ≡ true
      → (u : InBody left a m s i) (w : InBody right b n t (i + length (m i).variables))
      → InBody everyone (operate o a b) (two_parts (BodyExpression.operator o) m n) (s && t && operates o b) i
  unfolding content_of is_walked
  operator_in_body {s = s} {t} left right o i hl hr u w =
      faithful_when c places numbers (ap (λ x. s && t && operates o (plain_number x)) (stands_for_everyone address_of right hr w.good))
      (two_parts_faithful c places numbers _ _ _ (BodyExpression.operator o) (λ x y. plain (operate o (plain_number x) (plain_number y)))
      (λ x y. operates o (plain_number y)) i
      (λ variables x y. refl) (λ variables x y. refl) u w
      (plain_stands (rw (stands_for_everyone address_of left hl u.good, stands_for_everyone address_of right hr w.good))))

  negation_in_body : {m : Generator BodyExpression} {s : Bool} {a : ℕ} (o : Owner) (i : ℕ) → is_everyone o ≡ true → (u : InBody o a m s i)
      → InBody everyone (negate a) (one_part BodyExpression.negation m) s i
  unfolding content_of is_walked
  negation_in_body {s = s} o i h u =
      faithful_when c places numbers (and-true s)
      (one_part_faithful c places numbers _ _ _ BodyExpression.negation (λ x. plain (negate (plain_number x))) (λ x. true) i (λ variables x. refl)
      (λ variables x. sym (and-true _)) u
      (plain_stands (rw (stands_for_everyone address_of o h u.good))))

  -- An entry, at a public key, of a place that stands for its number.
  entry_in_body : {m : Generator BodyExpression} {s : Bool} {a : ℕ} (f : ℕ) (o owner : Owner) (i : ℕ) → is_everyone o ≡ true
      → Stands (reader_of address_of owner) (content_at places (position fields f a)) (get_or numbers (position fields f a) 0)
      → (u : InBody o a m s i)
      → InBody owner (get_or numbers (position fields f a) 0) (one_part (BodyExpression.entry f) m) s i
  unfolding content_of is_walked
  entry_in_body {s = s} f o owner i h stands u =
      faithful_when c places numbers (and-true s)
      (one_part_faithful c places numbers _ _ _ (BodyExpression.entry f) (λ x. content_at places (position fields f (plain_number x))) (λ x. true) i
      (λ variables x. refl) (λ variables x. sym (and-true _)) u (rw (stands_for_everyone address_of o h u.good) stands))

  operator_kept_in_circuit : {m n : Generator Circuit} {s t : Bool} {a b : ℕ} (o : Operator) (i : ℕ) → is_division o ≡ false
      → (u : InCircuit a m s i) (w : InCircuit b n t (i + length (m i).variables))
      → InCircuit (operate o a b) (two_parts (Circuit.operator o) m n) (s && t && operates o b) i
  unfolding circuit_value
  operator_kept_in_circuit {s = s} {t} {b = b} o i h u w =
      faithful_when c places numbers (ap (λ x. s && t && x) (sym (operates_always o b h)))
      (two_parts_faithful c places numbers _ _ _ (Circuit.operator o) (operate o) (λ x y. true) i (λ variables x y. refl) (λ variables x y. refl) u w
      (rw (u.good, w.good)))

  negation_in_circuit : {m : Generator Circuit} {s : Bool} {a : ℕ} (i : ℕ) → (u : InCircuit a m s i)
      → InCircuit (negate a) (one_part Circuit.negation m) s i
  unfolding circuit_value
  negation_in_circuit {s = s} i u =
      faithful_when c places numbers (and-true s)
      (one_part_faithful c places numbers _ _ _ Circuit.negation negate (λ x. true) i (λ variables x. refl) (λ variables x. refl) u (rw u.good))

  -- An operator or a negation that is public, or else supplied.
  public_or_supplied : {m n : Generator BodyExpression} {s : Bool} (public : Bool) (left right : Owner) (a i : ℕ)
      → is_everyone (owner_of_parts left right) ≡ public
      → (is_everyone left ≡ true → is_everyone right ≡ true → InBody everyone a m s i) → InBody (owned_by me_name) a n s i
      → InBody (owner_of_parts left right) a (cond public m n) s i
  public_or_supplied true left right a i e f g =
      let h = public_parts left right e in
      rw (everyone_is (owner_of_parts left right) e) (f h.0 h.1)
  public_or_supplied false left right a i e f g = rw (private_parts left right e) g

  -- A public division is read, another operator kept.
  read_or_kept : {m n : Generator Circuit} {s : Bool} (read : Bool) (left right : Owner) (division : Bool) (a i : ℕ)
      → is_everyone (owner_of_parts left right) && division ≡ read
      → division && (not (is_everyone left) || not (is_everyone right)) ≡ false
      → (is_everyone left ≡ true → is_everyone right ≡ true → InCircuit a m s i) → (division ≡ false → InCircuit a n s i)
      → InCircuit a (cond read m n) s i
  read_or_kept true left right division a i e q f g =
      let h = public_parts left right (and_left (is_everyone (owner_of_parts left right)) division e) in
      f h.0 h.1
  read_or_kept false left right division a i e q f g = g (division_is_read left right division e q)

  module _ (linked : Links) (stand : CallStands c places numbers) where
    typed : (e : Expression) → expression_faults scope linked e ≡ [] → constants_fit e ≡ true → is_of_type (type_of scope e) (value_of e) ≡ true
    typed e h k = value_typed scope address_of c.arguments numbers stand.environment linked e h k

    field_faithful : (f i : ℕ) → expression_faults scope linked (field f) ≡ []
        → InBody (owner_of scope (field f)) (get_or numbers (position fields f 0) 0) (kept (BodyExpression.field f)) true i
    unfolding content_of is_walked
    field_faithful f i h =
        kept_faithful c places numbers (BodyExpression.field f) (content_at places (position fields f 0)) i
        (rw (field_reader scope address_of stand.fields linked f h) at (stand.places.each (position fields f 0))) (λ variables. refl)
        (λ variables. refl)

    parameter_faithful : (k i : ℕ) → expression_faults scope linked (parameter k) ≡ []
        → InBody (owner_of scope (parameter k)) (get_or c.arguments k 0) (kept (BodyExpression.parameter k)) true i
    unfolding content_of is_walked owner_of
    parameter_faithful k i h =
        kept_faithful c places numbers (BodyExpression.parameter k) (content_at c.parameters k) i
        (stand.parameters.each k (parameter_read_fits scope linked k h).there) (λ variables. refl) (λ variables. refl)

    entry_faithful : (f : ℕ) (key : Expression) {s : Bool} (i : ℕ) → expression_faults scope linked (entry f key) ≡ [] → constants_fit key ≡ true
        → InBody (owner_of scope key) (value_of key) (in_body (owner_of scope) key) s i
        → InBody (owner_of scope (entry f key)) (get_or numbers (position fields f (value_of key)) 0)
        (one_part (BodyExpression.entry f) (in_body (owner_of scope) key)) s i
    unfolding constants_fit
    entry_faithful f key i h k u =
        let fits = entry_read_fits scope linked f key h in
        entry_in_body f (owner_of scope key) (owner_of scope (entry f key)) i fits.fits.public
        (rw (entry_reader scope address_of c.arguments numbers stand.environment linked f key h k) at
        (stand.places.each (position fields f (value_of key)))) u

    -- An operator's circuit form, by the body and circuit forms of its operands.
    operator_in_circuit_law : (o : Operator) (left right : Expression) {s t : Bool} (i : ℕ) → OperatorFits scope linked o left right
        → is_of_type (type_of scope (operator o left right)) (value_of (operator o left right)) ≡ true
        → ((j : ℕ) → InBody (owner_of scope left) (value_of left) (in_body (owner_of scope) left) s j)
        → ((j : ℕ) → InBody (owner_of scope right) (value_of right) (in_body (owner_of scope) right) t j)
        → ((j : ℕ) → InCircuit (value_of left) (in_circuit (owner_of scope) left) s j)
        → ((j : ℕ) → InCircuit (value_of right) (in_circuit (owner_of scope) right) t j)
        → InCircuit (value_of (operator o left right))
        (operator_in_circuit (owner_of scope) o left right (in_body (owner_of scope) left) (in_body (owner_of scope) right) (in_circuit (owner_of scope) left) (in_circuit (owner_of scope) right))
        (s && t && operates o (value_of right)) i
    unfolding value owner_of
    operator_in_circuit_law o left right i fits k left_body right_body left_circuit right_circuit =
        let l = owner_of scope left in
        let r = owner_of scope right in
        read_or_kept (is_everyone (owner_of_parts l r) && is_division o) l r (is_division o) (value_of (operator o left right)) i refl fits.division
        (λ hl hr. reading_faithful c places numbers everyone (operator o left right) i k (operator_in_body l r o i hl hr (left_body i) (right_body _)))
        (λ h. operator_kept_in_circuit o i h (left_circuit i) (right_circuit _))

    mutual
      unfolding value is_worked_out owner_of in_body content_of is_walked circuit_value constants_fit

      pub body_faithful : (e : Expression) → expression_faults scope linked e ≡ [] → constants_fit e ≡ true → (i : ℕ)
          → InBody (owner_of scope e) (value_of e) (in_body (owner_of scope) e) (is_worked_out fields address_of c.arguments numbers e) i
      body_faithful (constant t v) h k i = kept_faithful c places numbers (BodyExpression.constant t v) (plain v) i (plain_stands refl)
          (λ variables. refl) (λ variables. refl)
      body_faithful me h k i = kept_faithful c places numbers BodyExpression.me (plain (address_of me_name)) i (plain_stands refl) (λ variables. refl)
          (λ variables. refl)
      body_faithful (field f) h k i = field_faithful f i h
      body_faithful (entry f key) h k i = entry_faithful f key i h k (body_faithful key (entry_read_fits scope linked f key h).key_faults k i)
      body_faithful (parameter j) h k i = parameter_faithful j i h
      body_faithful (operator o left right) h k i =
          let fits = operator_fits scope linked o left right h in
          let kl = and_left (constants_fit left) (constants_fit right) k in
          let kr = and_right (constants_fit left) (constants_fit right) k in
          let l = owner_of scope left in
          let r = owner_of scope right in
          public_or_supplied (is_everyone (owner_of_parts l r)) l r (value_of (operator o left right)) i refl
          (λ hl hr. operator_in_body l r o i hl hr (body_faithful left fits.left_faults kl i) (body_faithful right fits.right_faults kr _))
          (supplying_faithful c places numbers (owned_by me_name) (operator o left right) i (typed (operator o left right) h k)
          (operator_in_circuit_law o left right (suc i) fits (typed (operator o left right) h k) (λ j. body_faithful left fits.left_faults kl j)
          (λ j. body_faithful right fits.right_faults kr j)
          (λ j. circuit_faithful left fits.left_faults kl j) (λ j. circuit_faithful right fits.right_faults kr j)))
      body_faithful (negation part) h k i =
          let faultless = (negation_fits scope linked part h).part_faults in
          let o = owner_of scope part in
          public_or_supplied (is_everyone (owner_of_parts o everyone)) o everyone (value_of (negation part)) i refl
          (λ ho _. negation_in_body o i ho (body_faithful part faultless k i))
          (supplying_faithful c places numbers (owned_by me_name) (negation part) i (typed (negation part) h k)
          (negation_in_circuit (suc i) (circuit_faithful part faultless k (suc i))))
      body_faithful (reveal part o) h k i =
          supplying_faithful c places numbers o (reveal part o) i (typed (reveal part o) h k)
          (circuit_faithful part (reveal_fits scope linked part o h).part_faults k (suc i))

      pub circuit_faithful : (e : Expression) → expression_faults scope linked e ≡ [] → constants_fit e ≡ true → (i : ℕ)
          → InCircuit (value_of e) (in_circuit (owner_of scope) e) (is_worked_out fields address_of c.arguments numbers e) i
      circuit_faithful (constant t v) h k i = kept_faithful c places numbers (Circuit.constant t v) v i refl (λ variables. refl) (λ variables. refl)
      circuit_faithful me h k i = kept_faithful c places numbers Circuit.me (address_of me_name) i refl (λ variables. refl) (λ variables. refl)
      circuit_faithful (field f) h k i = reading_faithful c places numbers (owner_of scope (field f)) (field f) i (typed (field f) h k)
          (field_faithful f i h)
      circuit_faithful (entry f key) h k i =
          reading_faithful c places numbers (owner_of scope (entry f key)) (entry f key) i (typed (entry f key) h k)
          (entry_faithful f key i h k (body_faithful key (entry_read_fits scope linked f key h).key_faults k i))
      circuit_faithful (parameter j) h k i = reading_faithful c places numbers (owner_of scope (parameter j)) (parameter j) i (typed (parameter j) h k)
          (parameter_faithful j i h)
      circuit_faithful (operator o left right) h k i =
          let fits = operator_fits scope linked o left right h in
          let kl = and_left (constants_fit left) (constants_fit right) k in
          let kr = and_right (constants_fit left) (constants_fit right) k in
          operator_in_circuit_law o left right i fits (typed (operator o left right) h k) (λ j. body_faithful left fits.left_faults kl j)
          (λ j. body_faithful right fits.right_faults kr j)
          (λ j. circuit_faithful left fits.left_faults kl j) (λ j. circuit_faithful right fits.right_faults kr j)
      circuit_faithful (negation part) h k i = negation_in_circuit i (circuit_faithful part (negation_fits scope linked part h).part_faults k i)
      circuit_faithful (reveal part o) h k i = circuit_faithful part (reveal_fits scope linked part o h).part_faults k i
