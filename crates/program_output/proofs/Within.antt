-- All of so many bytes, or none, are not more than those.
use Rattle.std.specs.Prelude.{◌≤◌}
use Rattle.kit.specs.Names.{Bool, true, false, ℕ, arith}
use Rattle.program_output.specs.Counts.{all_or_none}

pub kept_within : (whole : Bool) (long : ℕ) → all_or_none whole long ≤ long
kept_within true long = omega arith
kept_within false long = omega arith
