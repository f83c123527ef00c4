-- Parts of recorded bytes.
use Rattle.kit.specs.Names.{cond, List, [], ℕ, leb, length}
use Rattle.rehearse_scripts.specs.Scripts.{part}

-- The bytes from one place up to another; none where they are not all there.
abbrev pub part_in : ℕ → ℕ → List ℕ → List ℕ
part_in start end s = cond (leb end (length s)) (part start end s) []
