-- The type of an expression by its kind, and of fields, parameters and operators by their codes.
use Rattle.std.specs.Prelude.{◌≡◌, ◌∷◌, ◌+◌, ◌*◌, ◌<◌, ◌≤◌}
use Rattle.kit.specs.Names.{refl, ap, sym, ◌∙◌, List, [], ℕ, zero, suc, arith, get_or_eq_default}
use Rattle.definitions.specs.ContractFile.{DataType, boolean, address, Owner, Operator, plus, minus, times, divide, remainder, less, less_or_equal, equal, unequal, conjunction, disjunction, Expression, Scope, Field, Parameter, field_at, parameter_at, byte_at, field_count, data_type_of, field_of, parameter_of, operator_of, result_type, type_of}
use Rattle.file_accepted.specs.Context.{fields_in, parameters_in}
use Rattle.file_accepted.proofs.Declarations.{field_declared, field_missing, parameter_declared, parameter_missing}

pub uint_operator : (code : ℕ) → code < 5 → data_type_of 1 ≡ result_type (operator_of code)
uint_operator zero h = refl
uint_operator (suc zero) h = refl
uint_operator (suc (suc zero)) h = refl
uint_operator (suc (suc (suc zero))) h = refl
uint_operator (suc (suc (suc (suc zero)))) h = refl
uint_operator (suc (suc (suc (suc (suc n))))) h = absurd (omega arith)

pub bool_operator : (code : ℕ) → 5 ≤ code → code < 11 → data_type_of 0 ≡ result_type (operator_of code)
bool_operator zero l h = absurd (omega arith)
bool_operator (suc zero) l h = absurd (omega arith)
bool_operator (suc (suc zero)) l h = absurd (omega arith)
bool_operator (suc (suc (suc zero))) l h = absurd (omega arith)
bool_operator (suc (suc (suc (suc zero)))) l h = absurd (omega arith)
bool_operator (suc (suc (suc (suc (suc zero))))) l h = refl
bool_operator (suc (suc (suc (suc (suc (suc zero)))))) l h = refl
bool_operator (suc (suc (suc (suc (suc (suc (suc zero))))))) l h = refl
bool_operator (suc (suc (suc (suc (suc (suc (suc (suc zero)))))))) l h = refl
bool_operator (suc (suc (suc (suc (suc (suc (suc (suc (suc zero))))))))) l h = refl
bool_operator (suc (suc (suc (suc (suc (suc (suc (suc (suc (suc zero)))))))))) l h = refl
bool_operator (suc (suc (suc (suc (suc (suc (suc (suc (suc (suc (suc n))))))))))) l h = absurd (omega arith)

-- A code above the table reads as plus.
pub other_operator : (code : ℕ) → 11 ≤ code → data_type_of 1 ≡ result_type (operator_of code)
other_operator code h = ap (λ (o : Operator). result_type o) (sym (get_or_eq_default (plus ∷ minus ∷ times ∷ divide ∷ remainder ∷ less ∷ less_or_equal ∷ equal ∷ unequal ∷ conjunction ∷ disjunction ∷ []) plus h))

module _ (file : List ℕ) (f r : ℕ) where
  pub field_typed : f < field_count file → r ≡ byte_at file (1 + 3 * f + 1) → data_type_of r ≡ (field_at (fields_in file) f).type
  unfolding field_of
  field_typed h e = ap data_type_of e ∙ sym (ap (λ (d : Field). d.type) (field_declared file f h))

  pub field_untyped : field_count file ≤ f → data_type_of 0 ≡ (field_at (fields_in file) f).type
  field_untyped h = sym (ap (λ (d : Field). d.type) (field_missing file f h))

module _ (file : List ℕ) (at k r : ℕ) where
  pub parameter_typed : k < byte_at file at → r ≡ byte_at file (at + 1 + 2 * k) → data_type_of r ≡ (parameter_at (parameters_in file at) k).type
  unfolding parameter_of
  parameter_typed h e = ap data_type_of e ∙ sym (ap (λ (p : Parameter). p.type) (parameter_declared file at k h))

  pub parameter_untyped : byte_at file at ≤ k → data_type_of 0 ≡ (parameter_at (parameters_in file at) k).type
  parameter_untyped h = sym (ap (λ (p : Parameter). p.type) (parameter_missing file at k h))

module _ (scope : Scope) (e : Expression) where
  pub constant_typed : (t : DataType) (v : ℕ) → e ≡ Expression.constant t v → t ≡ type_of scope e
  unfolding type_of
  constant_typed t v h = rw h

  pub me_typed : e ≡ Expression.me → address ≡ type_of scope e
  unfolding type_of
  me_typed h = rw h

  pub place_typed : (f : ℕ) (t : DataType) → e ≡ Expression.field f → t ≡ (field_at scope.fields f).type → t ≡ type_of scope e
  unfolding type_of
  place_typed f t h k = rw h k

  pub entry_typed : (f : ℕ) (key : Expression) (t : DataType) → e ≡ Expression.entry f key → t ≡ (field_at scope.fields f).type → t ≡ type_of scope e
  unfolding type_of
  entry_typed f key t h k = rw h k

  pub argument_typed : (k : ℕ) (t : DataType) → e ≡ Expression.parameter k → t ≡ (parameter_at scope.parameters k).type → t ≡ type_of scope e
  unfolding type_of
  argument_typed k t h g = rw h g

  pub operator_typed : (o : Operator) (left right : Expression) (t : DataType) → e ≡ Expression.operator o left right → t ≡ result_type o → t ≡ type_of scope e
  unfolding type_of
  operator_typed o left right t h k = rw h k

  pub negation_typed : (part : Expression) → e ≡ Expression.negation part → boolean ≡ type_of scope e
  unfolding type_of
  negation_typed part h = rw h

  pub reveal_typed : (part : Expression) (o : Owner) (t : DataType) → e ≡ Expression.reveal part o → t ≡ type_of scope part → t ≡ type_of scope e
  unfolding type_of
  reveal_typed part o t h k = rw h k
