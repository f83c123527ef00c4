-- Records that stand one behind another.
use Rattle.std.specs.Prelude.{◌∷◌}
use Rattle.kit.specs.Names.{cond, List, [], ℕ, zero, suc, ltb}

-- Where the records begin, from a place on: each begins where the one before it ends. As many levels as there can be records.
unfoldable pub starts_from : (ℕ → ℕ) → ℕ → ℕ → ℕ → List ℕ
starts_from end long zero at = []
starts_from end long (suc levels) at = cond (ltb at long) (at ∷ starts_from end long levels (end at)) []

-- Those of so many bytes.
abbrev pub starts : (ℕ → ℕ) → ℕ → List ℕ
starts end long = starts_from end long long 0
