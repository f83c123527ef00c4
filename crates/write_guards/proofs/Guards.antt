-- A variable set to true, as two nodes: the constant, and the setting above it.
use Rattle.std.specs.Prelude.{◌≡◌, ◌+◌, ◌*◌, ◌-◌, ◌≤◌}
use Rattle.kit.specs.Names.{refl, List, ℕ, arith, length}
use Rattle.definitions.specs.ContractFile.{boolean, node}
use Rattle.definitions.specs.Rewriting.{BodyExpression, Command, leaf, setting, size, node_bytes, body_tree, command_tree}
use Rattle.memory_buffer.specs.Buffer.{stored}
use Rattle.write_nodes.specs.Numbering.{Room, Numbered}
use Rattle.write_nodes.proofs.TreeNodes.{numbered_leaf, numbered_as}
use Rattle.write_nodes.proofs.Parents.{numbered_setting}

module _ (variable : ℕ) (out : List ℕ) (at base : ℕ) (numbers : base + 2 ≤ 65535) (bytes : at + 16 ≤ length out) where
  room : Room out at base (setting variable (leaf 1 0 1 0))
  unfolding size
  room = record { bytes = omega arith; numbers = omega arith }

  pub guard_put : (first second : List ℕ) (r : ℕ) → first ≡ stored out at (node_bytes (node 1 0 1 0 0))
      → second ≡ stored first (at + 8 * 1) (node_bytes (node 22 0 variable (base + 1 - 1) 0)) → r ≡ 1 + 1
      → Numbered out second at base (command_tree (Command.set_variable variable (BodyExpression.constant boolean 1))) r
  unfolding command_tree body_tree
  guard_put first second r constant set two =
      numbered_as out at base second _ _ _ r refl two
      (numbered_setting out at base variable (leaf 1 0 1 0) room first 1 (numbered_leaf out at base first 1 0 1 0 constant) second set)
