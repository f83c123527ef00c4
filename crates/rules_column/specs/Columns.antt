-- What the column of owners holds, and why no function overwrites what another marked: number 5 lets no node be under two roots.
use Rattle.std.specs.Prelude.{◌≡◌, ◌<◌, ◌≤◌}
use Rattle.kit.specs.Names.{List, Member, ℕ, eqb, length, get_or}
use Rattle.definitions.specs.Basics.{count_if}
use Rattle.definitions.specs.ContractFile.{Sections, Node, node_at, children}
use Rattle.definitions.specs.Numbers.{uses_of}

-- A column that holds the owners of some nodes.
pub record Holds (owner : ℕ → ℕ) (numbers column : List ℕ) : Type 0 where
  pub at : (m : ℕ) → Member m numbers → get_or column m 0 ≡ owner m

-- Number 5, of a node used more than once: there is none.
pub record NoneTwice (s : Sections) : Type 0 where
  pub uses : (m : ℕ) → m < length s.nodes → count_if (eqb m) (uses_of s) ≤ 1

-- A node under a root: the root, or a child of a node under it.
pub data Under (nodes : List Node) (root : ℕ) : ℕ → Type 0 where
  top : {m : ℕ} → m ≡ root → Under nodes root m
  child : {m n : ℕ} → Under nodes root n → Member m (children (node_at nodes n)) → Under nodes root m
