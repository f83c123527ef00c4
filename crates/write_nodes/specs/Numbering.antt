-- The nodes of a tree in a lent buffer, numbered from a first number on.
use Rattle.std.specs.Prelude.{◌≡◌, ◌+◌, ◌*◌, ◌≤◌}
use Rattle.kit.specs.Names.{List, ℕ, length}
use Rattle.definitions.specs.Basics.{flat_map}
use Rattle.definitions.specs.Rewriting.{Tree, size, numbered, node_bytes}
use Rattle.memory_buffer.specs.Buffer.{stored}

unfoldable pub tree_bytes : ℕ → Tree → List ℕ
tree_bytes base tree = flat_map node_bytes (numbered base tree)

-- The buffer has room from a place on, and the numbers fit two bytes.
pub record Room (held : List ℕ) (at base : ℕ) (tree : Tree) : Type 0 where
  pub bytes : at + 8 * size tree ≤ length held
  pub numbers : base + size tree ≤ 65535

-- The tree's nodes are stored from a place on, and they are so many.
pub record Numbered (held after : List ℕ) (at base : ℕ) (tree : Tree) (count : ℕ) : Type 0 where
  pub contents : after ≡ stored held at (tree_bytes base tree)
  pub nodes : count ≡ size tree
