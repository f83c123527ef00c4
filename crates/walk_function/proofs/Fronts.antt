-- The last node of those that stand at the front of lent memory.
use Rattle.std.specs.Prelude.{◌*◌, ◌-◌, ◌<◌, ◌≤◌}
use Rattle.kit.specs.Names.{List, ℕ, arith, length, take, length-take-le}
use Rattle.write_trees.specs.Table.{count_of}

pub last_below : (nodes : List ℕ) (count : ℕ) → 0 < count → 8 * count ≤ length nodes → count - 1 < count_of (take (8 * count) nodes)
last_below nodes count some bytes = let l = length-take-le (8 * count) nodes bytes in omega arith
