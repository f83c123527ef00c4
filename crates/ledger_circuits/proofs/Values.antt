-- The value of a circuit by its kind, as code learns it.
use Rattle.std.specs.Prelude.{◌≡◌}
use Rattle.kit.specs.Names.{List, ℕ, get_or}
use Rattle.definitions.specs.ContractFile.{DataType, Operator}
use Rattle.definitions.specs.Original.{operate, negate}
use Rattle.definitions.specs.Rewriting.{Circuit}
use Rattle.definitions.specs.Ledger.{circuit_value, content_at, plain_number, opened_number}
use Rattle.ledger_contents.specs.Contents.{contents_of}
use Rattle.ledger_circuits.specs.Circuits.{value_from}

module _ (addresses variables : List ℕ) (e : Circuit) (r : ℕ) where
  pub constant_value_law : (t : DataType) (v : ℕ) → e ≡ Circuit.constant t v → r ≡ v → r ≡ value_from addresses variables e
  unfolding value_from circuit_value
  constant_value_law t v h k = rw h k

  pub me_value : e ≡ Circuit.me → r ≡ get_or addresses 1 0 → r ≡ value_from addresses variables e
  unfolding value_from circuit_value
  me_value h k = rw h k

  pub operator_value : (o : Operator) (a b : Circuit) (left right : ℕ) → e ≡ Circuit.operator o a b → left ≡ value_from addresses variables a
      → right ≡ value_from addresses variables b → r ≡ operate o left right → r ≡ value_from addresses variables e
  unfolding value_from circuit_value
  operator_value o a b left right h k l m = rw (h, ← k, ← l) m

  pub negation_value : (a : Circuit) (part : ℕ) → e ≡ Circuit.negation a → part ≡ value_from addresses variables a → r ≡ negate part
      → r ≡ value_from addresses variables e
  unfolding value_from circuit_value
  negation_value a part h k l = rw (h, ← k) l

  pub variable_value : (i : ℕ) → e ≡ Circuit.variable i → r ≡ plain_number (content_at (contents_of variables) i) → r ≡ value_from addresses variables e
  unfolding value_from circuit_value
  variable_value i h k = rw h k

  pub opened_value : (i : ℕ) → e ≡ Circuit.opened i → r ≡ opened_number (content_at (contents_of variables) i) → r ≡ value_from addresses variables e
  unfolding value_from circuit_value
  opened_value i h k = rw h k
