-- Circuits and constraints as code finds them: nodes in bytes, variables and addresses in flat numbers.
use Rattle.std.specs.Prelude.{◌∷◌, ◌+◌, ◌-◌, ◌/◌}
use Rattle.kit.specs.Names.{Bool, cond, List, [], ℕ, zero, suc, eqb, ltb, length, get_or}
use Rattle.definitions.specs.Basics.{all}
use Rattle.definitions.specs.ContractFile.{Name, me_name, final_name, parameter_name, NodeRecord, owner_of_code}
use Rattle.definitions.specs.Rewriting.{Circuit, Claim, equals, opens_for_caller, Guard, always, under, Constraint}
use Rattle.definitions.specs.Ledger.{circuit_value, constraint_holds}
use Rattle.ledger_contents.specs.Contents.{contents_of}
use Rattle.write_trees.specs.Trees.{circuit_in}

-- Addresses stand at their owner codes: the caller's at 1, final f's at 16 + f for f to 63, parameter k's at 128 + k.
abbrev pub address_from : List ℕ → Name → ℕ
address_from addresses me_name = get_or addresses 1 0
address_from addresses (final_name f) = cond (ltb f 64) (get_or addresses (16 + f) 0) 0
address_from addresses (parameter_name k) = get_or addresses (128 + k) 0

-- The value of a circuit on flat variables.
unfoldable pub value_from : List ℕ → List ℕ → Circuit → ℕ
value_from addresses variables circuit = circuit_value (address_from addresses) (contents_of variables) circuit

-- "each guard (0, or 1 + variable), variable, root (65,535 for "opens")", with the variable's owner code before the root.
abbrev pub guard_from : ℕ → Guard
guard_from g = cond (eqb g 0) always (under (g - 1))

abbrev pub claim_from : List NodeRecord → ℕ → ℕ → ℕ → Claim
claim_from nodes i owner root = cond (eqb root 65535) (opens_for_caller i) (equals i (owner_of_code owner) (circuit_in nodes root))

abbrev pub constraint_from : List NodeRecord → List ℕ → ℕ → Constraint
constraint_from nodes numbers at =
    record {
      guard = guard_from (get_or numbers at 0);
      claim = claim_from nodes (get_or numbers (at + 1) 0) (get_or numbers (at + 2) 0) (get_or numbers (at + 3) 0);
    }

unfoldable pub constraints_at : List NodeRecord → ℕ → List ℕ → ℕ → List Constraint
constraints_at nodes zero numbers at = []
constraints_at nodes (suc count) numbers at = constraint_from nodes numbers at ∷ constraints_at nodes count numbers (at + 4)

unfoldable pub constraints_from : List NodeRecord → List ℕ → List Constraint
constraints_from nodes numbers = constraints_at nodes (length numbers / 4) numbers 0

abbrev pub holds_from : List ℕ → List ℕ → Constraint → Bool
holds_from addresses variables c = constraint_holds (address_from addresses) (contents_of variables) c

unfoldable pub all_hold : List ℕ → List ℕ → List Constraint → Bool
all_hold addresses variables constraints = all (holds_from addresses variables) constraints
