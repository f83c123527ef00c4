-- Numbers of two bytes are below 65,536.
use Rattle.std.specs.Prelude.{◌∷◌, ◌≤◌}
use Rattle.kit.specs.Names.{List, []}
use Rattle.definitions.specs.Reading.{FunctionRecord, NodeRecord}

unfoldable pub RootsFit : List FunctionRecord → Type 0
RootsFit [] = Unit
RootsFit (r ∷ rs) = (r.root ≤ 65535) × RootsFit rs

pub record NodeFits (r : NodeRecord) : Type 0 where
  pub arg : r.arg ≤ 65535
  pub first : r.first ≤ 65535
  pub second : r.second ≤ 65535
  pub third : r.third ≤ 65535

unfoldable pub NodesFit : List NodeRecord → Type 0
NodesFit [] = Unit
NodesFit (r ∷ rs) = NodeFits r × NodesFit rs
