-- How many bytes an input has with what is read behind its beginning.
use Rattle.std.specs.Prelude.{◌≡◌, ◌≤◌}
use Rattle.kit.specs.Names.{refl, Bool, true, false, ℕ, arith}
use Rattle.program_reading.specs.Inputs.{where_ready}

pub counts_ready : (ready : Bool) (count n : ℕ) → ready ≡ true → count ≤ n → (n ≡ where_ready ready n) × (where_ready ready count ≤ n)
counts_ready ready count n e h = rw e (refl, h)

pub counts_none : (ready : Bool) (count : ℕ) → ready ≡ false → (0 ≡ where_ready ready 0) × (where_ready ready count ≤ 0)
counts_none ready count e = rw e (refl, omega arith)
