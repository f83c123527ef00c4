-- A product of two numbers of so many bits fits twice as many.
use Rattle.std.specs.Prelude.{◌+◌, ◌*◌, ◌^◌, ◌<◌}
use Rattle.kit.specs.Names.{subst⁻¹, ℕ, le_of_lt, lt_of_le_of_lt, mul-le-mul_left, mul-lt-mul_of_pos_right}
use Rattle.std.proofs.Common.{pow_pos, pow-add}

pub product_fits : (bits : ℕ) {left right : ℕ} → left < 2 ^ bits → right < 2 ^ bits → left * right < 2 ^ (bits + bits)
product_fits bits {left} {right} l r =
    subst⁻¹ (λ (bound : ℕ). left * right < bound) (pow-add 2 bits bits)
    (lt_of_le_of_lt (mul-le-mul_left left (le_of_lt r)) (mul-lt-mul_of_pos_right l (pow_pos bits)))
