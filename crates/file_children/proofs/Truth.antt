-- Truth values: what a conjunction that holds and a disjunction that fails tell.
use Rattle.std.specs.Prelude.{◌≡◌, ◌&&◌, ◌||◌}
pub use Rattle.kit.specs.Names.{or-false}
use Rattle.kit.specs.Names.{Bool, true, false}
use Rattle.theory_laws.proofs.TruthValues.{and_parts, or_left, or_right}

pub both_true : (a b : Bool) → a && b ≡ true → (a ≡ true) × (b ≡ true)
both_true = and_parts

pub either_false : (a b : Bool) → a || b ≡ false → (a ≡ false) × (b ≡ false)
either_false a b h = (or_left a b h, or_right a b h)
