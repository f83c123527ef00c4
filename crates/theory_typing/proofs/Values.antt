-- Type soundness of the original: values have their types, keys are in range, and the places stay typed.
use Rattle.std.specs.Prelude.{◌≡◌, ◌&&◌, ◌||◌, ◌+◌, ◌*◌, ◌-◌, ◌/◌, ◌%◌, ◌<◌, ◌≤◌}
use Rattle.kit.specs.Names.{refl, ap, ◌∙◌, Bool, true, false, cond, not, List, [], none, some, none_ne_some}
use Rattle.kit.specs.Names.{some_injective, ℕ, arith, mod-lt, mod-le, div-le_self, ltb, leb, eqb}
use Rattle.kit.specs.Names.{get_or, ltb-true, lt-ltb}
use Rattle.definitions.specs.Basics.{bit}
use Rattle.definitions.specs.ContractFile.{DataType, boolean, uint, Name, me_name, final_name, parameter_name, Operator, plus, minus, times, divide, remainder, less, less_or_equal, equal, unequal, conjunction, disjunction, Expression, constant, me, field, entry, parameter, operator, negation, reveal, assign_entry, Scope, field_at, parameter_at, same_type, is_final, is_of_type, operands_fit, result_type, type_of}
use Rattle.definitions.specs.Owners.{Links, name_of, is_public_address}
use Rattle.definitions.specs.Numbers.{expression_faults, statement_faults}
use Rattle.definitions.specs.Original.{place_count, position, operate, value}
use Rattle.theory_laws.proofs.TruthValues.{and_left}
use Rattle.theory_relations.specs.Environment.{Environment}
use Rattle.theory_relations.specs.Acceptance.{constants_fit, constants_fit_in}
use Rattle.theory_typing.proofs.Basics.{address_below}
use Rattle.theory_typing.proofs.Places.{at_place, first_place, mapping_place}
use Rattle.theory_typing.proofs.Faults.{same_type_law, EntryFits, entry_read_fits, operator_fits, reveal_fits, assign_entry_fits}

pub bit_typed : (b : Bool) → is_of_type boolean (bit b) ≡ true
bit_typed true = refl
bit_typed false = refl

pub remainder_typed : (n : ℕ) → is_of_type uint (n % 4294967296) ≡ true
remainder_typed n = lt-ltb (n % 4294967296) 4294967296 (mod-lt n (omega arith))

below_uint : (m n : ℕ) → m ≤ n → is_of_type uint n ≡ true → is_of_type uint m ≡ true
below_uint m n h t = let b : n < 4294967296 = ltb-true n 4294967296 t in lt-ltb m 4294967296 (omega arith)

-- An operator's result has the operator's type, where its left operand is a uint if it is arithmetic.
pub operate_typed : (o : Operator) (a b : ℕ) (left right : DataType) → operands_fit o left right ≡ true → is_of_type left a ≡ true
    → is_of_type (result_type o) (operate o a b) ≡ true
operate_typed plus a b left right h t = remainder_typed (a + b)
operate_typed minus a b left right h t = remainder_typed (a + 4294967296 - b)
operate_typed times a b left right h t = remainder_typed (a * b)
operate_typed divide a b left right h t =
    let u : left ≡ uint = same_type_law left uint (and_left (same_type left uint) (same_type right uint) h) in
    below_uint (a / b) a (div-le_self a b) (rw u at t)
operate_typed remainder a b left right h t =
    let u : left ≡ uint = same_type_law left uint (and_left (same_type left uint) (same_type right uint) h) in
    below_uint (a % b) a (mod-le a b) (rw u at t)
operate_typed less a b left right h t = bit_typed (ltb a b)
operate_typed less_or_equal a b left right h t = bit_typed (leb a b)
operate_typed equal a b left right h t = bit_typed (eqb a b)
operate_typed unequal a b left right h t = bit_typed (not (eqb a b))
operate_typed conjunction a b left right h t = bit_typed (not (eqb a 0) && not (eqb b 0))
operate_typed disjunction a b left right h t = bit_typed (not (eqb a 0) || not (eqb b 0))

module _ (scope : Scope) (address_of : Name → ℕ) (values numbers : List ℕ) where
  -- A place's number has its field's type.
  pub place_typed : Environment scope address_of values numbers → (f key : ℕ) → key < place_count (field_at scope.fields f)
      → is_of_type (field_at scope.fields f).type (get_or numbers (position scope.fields f key) 0) ≡ true
  place_typed env f key h = rw (at_place (λ d _. d.type) scope.fields f key h) at (env.places (position scope.fields f key))

  -- A key that is an address by its type and value names a place of its mapping.
  key_below : (f : ℕ) (key : Expression) → EntryFits scope f key
      → is_of_type (type_of scope key) (value scope.fields address_of values numbers key) ≡ true
      → value scope.fields address_of values numbers key < place_count (field_at scope.fields f)
  key_below f key fits typed =
      mapping_place (field_at scope.fields f) (value scope.fields address_of values numbers key) fits.mapping
      (address_below (value scope.fields address_of values numbers key) (rw fits.address at typed))

  pub value_typed : Environment scope address_of values numbers → (linked : Links) (e : Expression) → expression_faults scope linked e ≡ [] → constants_fit e ≡ true
      → is_of_type (type_of scope e) (value scope.fields address_of values numbers e) ≡ true
  unfolding value type_of constants_fit
  value_typed env linked (constant t v) h c = c
  value_typed env linked me h c = env.caller
  value_typed env linked (field f) h c = place_typed env f 0 (first_place (field_at scope.fields f))
  value_typed env linked (entry f key) h c =
      let fits = entry_read_fits scope linked f key h in
      place_typed env f _ (key_below f key fits.fits (value_typed env linked key fits.key_faults c))
  value_typed env linked (parameter k) h c = env.arguments k
  value_typed env linked (operator o left right) h c =
      let fits = operator_fits scope linked o left right h in
      operate_typed o _ _ (type_of scope left) (type_of scope right) fits.operands
      (value_typed env linked left fits.left_faults (and_left (constants_fit left) (constants_fit right) c))
  value_typed env linked (negation part) h c = bit_typed (eqb (value scope.fields address_of values numbers part) 0)
  value_typed env linked (reveal part o) h c = value_typed env linked part (reveal_fits scope linked part o h).part_faults c

  pub key_in_range : Environment scope address_of values numbers → (linked : Links) (f : ℕ) (key : Expression) → EntryFits scope f key
      → expression_faults scope linked key ≡ [] → constants_fit key ≡ true
      → value scope.fields address_of values numbers key < place_count (field_at scope.fields f)
  key_in_range env linked f key fits h c = key_below f key fits (value_typed env linked key h c)

  pub entry_key_in_range : Environment scope address_of values numbers → (linked : Links) (f : ℕ) (key : Expression)
      → expression_faults scope linked (entry f key) ≡ [] → constants_fit (entry f key) ≡ true
      → value scope.fields address_of values numbers key < place_count (field_at scope.fields f)
  unfolding constants_fit
  entry_key_in_range env linked f key h c =
      let fits = entry_read_fits scope linked f key h in
      key_in_range env linked f key fits.fits fits.key_faults c

  pub assigned_key_in_range : Environment scope address_of values numbers → (linked : Links) (f : ℕ) (key e : Expression)
      → statement_faults scope linked (assign_entry f key e) ≡ [] → constants_fit_in (assign_entry f key e) ≡ true
      → value scope.fields address_of values numbers key < place_count (field_at scope.fields f)
  unfolding constants_fit_in
  assigned_key_in_range env linked f key e h c =
      let fits = assign_entry_fits scope linked f key e h in
      key_in_range env linked f key fits.fits fits.key_faults (and_left (constants_fit key) (constants_fit e) c)

  pub name_address : Environment scope address_of values numbers → (e : Expression) (n : Name) → name_of scope e ≡ some n
      → value scope.fields address_of values numbers e ≡ address_of n
  unfolding value name_of
  name_address env (constant t v) n h = absurd (none_ne_some n h)
  name_address env me n h = ap address_of (some_injective me_name n h)
  name_address env (field f) n h = go (is_final (field_at scope.fields f).shape) refl h
    where
      go : (b : Bool) → is_final (field_at scope.fields f).shape ≡ b → cond b (some (final_name f)) none ≡ some n
          → get_or numbers (position scope.fields f 0) 0 ≡ address_of n
      go true b q = env.finals f b ∙ ap address_of (some_injective (final_name f) n q)
      go false b q = absurd (none_ne_some n q)
  name_address env (entry f key) n h = absurd (none_ne_some n h)
  name_address env (parameter k) n h = go (is_public_address (parameter_at scope.parameters k)) refl h
    where
      go : (b : Bool) → is_public_address (parameter_at scope.parameters k) ≡ b → cond b (some (parameter_name k)) none ≡ some n → get_or values k 0 ≡ address_of n
      go true b q = env.parameters k b ∙ ap address_of (some_injective (parameter_name k) n q)
      go false b q = absurd (none_ne_some n q)
  name_address env (operator o left right) n h = absurd (none_ne_some n h)
  name_address env (negation part) n h = absurd (none_ne_some n h)
  name_address env (reveal part o) n h = absurd (none_ne_some n h)
