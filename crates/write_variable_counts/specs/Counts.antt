-- How many variables rewriting an expression makes, in a body and in a circuit.
use Rattle.std.specs.Prelude.{◌&&◌, ◌+◌}
use Rattle.kit.specs.Names.{Bool, cond, ℕ, suc}
use Rattle.definitions.specs.ContractFile.{Operator, Expression, Scope, is_division}
use Rattle.definitions.specs.Owners.{is_public}

module _ (scope : Scope) where
  -- Of an operator in a circuit, from the counts of its parts.
  abbrev pub operator_count : Bool → Operator → ℕ → ℕ → ℕ → ℕ → ℕ
  operator_count public o left_body right_body left_circuit right_circuit =
      cond (public && is_division o) (left_body + right_body + 1) (left_circuit + right_circuit)

  unfoldable mutual
    pub body_count : Expression → ℕ
    body_count (Expression.constant t v) = 0
    body_count Expression.me = 0
    body_count (Expression.field f) = 0
    body_count (Expression.entry f key) = body_count key
    body_count (Expression.parameter k) = 0
    body_count (Expression.operator o left right) =
        cond (is_public scope (Expression.operator o left right))
        (body_count left + body_count right)
        (suc (operator_count (is_public scope (Expression.operator o left right)) o
        (body_count left) (body_count right) (circuit_count left) (circuit_count right)))
    body_count (Expression.negation part) = cond (is_public scope (Expression.negation part)) (body_count part) (suc (circuit_count part))
    body_count (Expression.reveal part o) = suc (circuit_count part)

    pub circuit_count : Expression → ℕ
    circuit_count (Expression.constant t v) = 0
    circuit_count Expression.me = 0
    circuit_count (Expression.field f) = 1
    circuit_count (Expression.entry f key) = body_count key + 1
    circuit_count (Expression.parameter k) = 1
    circuit_count (Expression.operator o left right) =
        operator_count (is_public scope (Expression.operator o left right)) o
        (body_count left) (body_count right) (circuit_count left) (circuit_count right)
    circuit_count (Expression.negation part) = circuit_count part
    circuit_count (Expression.reveal part o) = circuit_count part
