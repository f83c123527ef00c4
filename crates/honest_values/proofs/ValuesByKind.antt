-- The value of an expression by its kind, as code learns it.
use Rattle.std.specs.Prelude.{◌≡◌}
use Rattle.kit.specs.Names.{ap, ◌∙◌, List, ℕ, get_or}
use Rattle.definitions.specs.ContractFile.{DataType, Owner, Operator, Expression, NodeRecord}
use Rattle.definitions.specs.Original.{position, value, operate, negate}
use Rattle.file_accepted.specs.Context.{fields_in}
use Rattle.honest_values.specs.Values.{value_of}

-- A node as it is read has the kind that its record in the file has.
pub kind_as : (r s : NodeRecord) (k : ℕ) → r ≡ s → s.kind ≡ k → r.kind ≡ k
kind_as r s k e h = ap (λ (q : NodeRecord). q.kind) e ∙ h

module _ (file arguments : List ℕ) (caller : ℕ) (numbers : List ℕ) (e : Expression) (r : ℕ) where
  pub constant_value_law : (t : DataType) (v : ℕ) → e ≡ Expression.constant t v → r ≡ v → r ≡ value_of file arguments caller numbers e
  unfolding value_of value
  constant_value_law t v h k = rw h k

  pub me_value : e ≡ Expression.me → r ≡ caller → r ≡ value_of file arguments caller numbers e
  unfolding value_of value
  me_value h k = rw h k

  pub field_value : (f p : ℕ) → e ≡ Expression.field f → p ≡ position (fields_in file) f 0 → r ≡ get_or numbers p 0 → r ≡ value_of file arguments caller numbers e
  unfolding value_of value
  field_value f p h k l = rw (h, ← k) l

  pub entry_value : (f p key : ℕ) (a : Expression) → e ≡ Expression.entry f a → key ≡ value_of file arguments caller numbers a → p ≡ position (fields_in file) f key
      → r ≡ get_or numbers p 0 → r ≡ value_of file arguments caller numbers e
  unfolding value_of value
  entry_value f p key a h k l m = rw (h, ← k, ← l) m

  pub parameter_value : (k : ℕ) → e ≡ Expression.parameter k → r ≡ get_or arguments k 0 → r ≡ value_of file arguments caller numbers e
  unfolding value_of value
  parameter_value k h l = rw h l

  pub operator_value : (o : Operator) (a b : Expression) (left right : ℕ) → e ≡ Expression.operator o a b → left ≡ value_of file arguments caller numbers a
      → right ≡ value_of file arguments caller numbers b → r ≡ operate o left right → r ≡ value_of file arguments caller numbers e
  unfolding value_of value
  operator_value o a b left right h k l m = rw (h, ← k, ← l) m

  pub negation_value : (a : Expression) (part : ℕ) → e ≡ Expression.negation a → part ≡ value_of file arguments caller numbers a → r ≡ negate part
      → r ≡ value_of file arguments caller numbers e
  unfolding value_of value
  negation_value a part h k l = rw (h, ← k) l

  pub reveal_value : (a : Expression) (o : Owner) → e ≡ Expression.reveal a o → r ≡ value_of file arguments caller numbers a → r ≡ value_of file arguments caller numbers e
  unfolding value_of value
  reveal_value a o h k = rw h k
