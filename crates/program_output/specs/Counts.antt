-- What can be said of bytes that a program hands to the system: how many of them, never which.
use Rattle.kit.specs.Names.{Bool, cond, ℕ}

-- All of so many bytes, or none.
abbrev pub all_or_none : Bool → ℕ → ℕ
all_or_none whole long = cond whole long 0
