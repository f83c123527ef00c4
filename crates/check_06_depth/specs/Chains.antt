-- 01, number 6: the depths of nodes, one for each node that there can be.
use Rattle.std.specs.Prelude.{◌≡◌, ◌<◌, ◌≤◌}
use Rattle.kit.specs.Names.{Bool, false, List, ℕ, suc, leb, ltb, length, get_or}
use Rattle.definitions.specs.Basics.{any}
use Rattle.definitions.specs.ContractFile.{FunctionRecord, Node, node_at, children, chain_length}

-- What number 4 has settled: children are below their parents.
pub record ChildrenBelow (nodes : List Node) : Type 0 where
  pub each : (n : ℕ) → any (leb n) (children (node_at nodes n)) ≡ false

abbrev pub depth_in : List ℕ → ℕ → ℕ
depth_in depths n = get_or depths n 0

pub record Bounded (depths : List ℕ) : Type 0 where
  pub each : (n : ℕ) → depth_in depths n ≤ 512
  pub long : length depths ≡ 512

-- The depths of the first nodes are the lengths of their longest chains; no other depth is noted.
pub record Chains (nodes : List Node) (count : ℕ) (depths : List ℕ) : Type 0 where
  pub each : (n : ℕ) → n < count → depth_in depths n ≡ chain_length (suc n) nodes n
  pub later : (n : ℕ) → count ≤ n → depth_in depths n ≡ 0
  pub bounded : Bounded depths

abbrev pub root_too_deep : List ℕ → FunctionRecord → Bool
root_too_deep depths r = ltb 64 (depth_in depths r.root)
