-- Whether two lists of bytes are the same.
use Rattle.std.specs.Prelude.{◌&&◌, ◌∷◌}
use Rattle.kit.specs.Names.{Bool, true, false, List, [], ℕ, eqb}

-- As many bytes on both sides, and each equal to the one at its place.
unfoldable pub same_bytes : List ℕ → List ℕ → Bool
same_bytes [] [] = true
same_bytes [] (n ∷ ns) = false
same_bytes (m ∷ ms) [] = false
same_bytes (m ∷ ms) (n ∷ ns) = eqb m n && same_bytes ms ns
