-- An empty argument is no option.
use Rattle.std.specs.Prelude.{◌≡◌, ◌∷◌}
use Rattle.kit.specs.Names.{refl, false, List, [], ℕ, arith, length}
use Rattle.program_arguments.specs.Options.{is_option}

pub empty_is_none : (argument : List ℕ) → length argument ≡ 0 → false ≡ is_option argument
empty_is_none [] e = refl
empty_is_none (byte ∷ bytes) e = absurd (omega arith)
