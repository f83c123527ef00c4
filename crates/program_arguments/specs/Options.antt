-- What tells an option from a file's name.
use Rattle.kit.specs.Names.{Bool, List, ℕ, eqb, get_or}

-- An option begins with `-`; an empty argument is none.
abbrev pub is_option : List ℕ → Bool
is_option argument = eqb (get_or argument 0 0) 45
