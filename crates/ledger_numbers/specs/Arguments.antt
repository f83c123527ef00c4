-- 01, Numbers: "19. Arguments differ in number from the parameters, or one is outside its type."
use Rattle.std.specs.Prelude.{◌||◌}
use Rattle.kit.specs.Names.{Bool, not, List, zip_with, ℕ, eqb, length}
use Rattle.definitions.specs.Basics.{any}
use Rattle.definitions.specs.ContractFile.{Parameter, is_of_type}

abbrev pub any_outside : List Parameter → List ℕ → Bool
any_outside parameters arguments = any not (zip_with (λ p v. is_of_type p.type v) parameters arguments)

abbrev pub arguments_off_for : List Parameter → List ℕ → Bool
arguments_off_for parameters arguments = not (eqb (length arguments) (length parameters)) || any_outside parameters arguments
