-- How many nodes the bodies of the original have, and how many bytes the parts of a rewritten function take.
use Rattle.std.specs.Prelude.{◌∷◌, ◌+◌, ◌*◌}
use Rattle.kit.specs.Names.{List, [], ℕ, length}
use Rattle.definitions.specs.ContractFile.{Function}
use Rattle.definitions.specs.Rewriting.{BodyExpression, Circuit, Command, Claim, equals, opens_for_caller, Constraint, Step, Piece, Passage}
use Rattle.definitions.specs.Rewriting.{size, body_tree, circuit_tree, command_tree}
use Rattle.theory_trees.specs.Sizes.{statement_size}

-- The nodes of the bodies of some functions together.
unfoldable pub bodies_size : List Function → ℕ
bodies_size [] = 0
bodies_size (g ∷ gs) = statement_size g.body + bodies_size gs

-- Their parameters together.
unfoldable pub parameters_size : List Function → ℕ
parameters_size [] = 0
parameters_size (g ∷ gs) = length g.parameters + parameters_size gs

-- The nodes that a form of the rewritten function has.
abbrev pub body_size : BodyExpression → ℕ
body_size e = size (body_tree e)

abbrev pub circuit_size : Circuit → ℕ
circuit_size c = size (circuit_tree c)

abbrev pub command_size : Command → ℕ
command_size c = size (command_tree c)

-- The nodes that steps add to a body: a sequence, the setting, and the value's own.
unfoldable pub steps_size : List Step → ℕ
steps_size [] = 0
steps_size (s ∷ steps) = body_size s.value + 2 + steps_size steps

-- The bytes of a claim: six in the heading, and eight for each node of its circuit.
unfoldable pub claim_weight : Claim → ℕ
claim_weight (equals i o circuit) = 6 + 8 * circuit_size circuit
claim_weight (opens_for_caller i) = 6

unfoldable pub claims_weight : List Claim → ℕ
claims_weight [] = 0
claims_weight (c ∷ cs) = claim_weight c + claims_weight cs

unfoldable pub constraints_weight : List Constraint → ℕ
constraints_weight [] = 0
constraints_weight (c ∷ cs) = claim_weight c.claim + constraints_weight cs

-- The bytes that all a piece makes can take: three for a variable (origin, owner code, a key), eight for a node.
unfoldable pub piece_weight : {A : Type 0} → (A → ℕ) → Piece A → ℕ
piece_weight form_size p = 3 * length p.variables + 8 * steps_size p.steps + claims_weight p.claims + 8 * form_size p.form

unfoldable pub passage_weight : Passage → ℕ
passage_weight p = 3 * length p.variables + constraints_weight p.constraints + 8 * command_size p.command
