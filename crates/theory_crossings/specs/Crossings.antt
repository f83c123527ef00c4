-- 02, Note 2: a function's crossings where they come from, among the variables that rewriting makes. Note 3: the sum of counts.
use Rattle.std.specs.Prelude.{◌∷◌, ◌+◌}
use Rattle.kit.specs.Names.{List, [], ℕ, leb}
use Rattle.definitions.specs.Basics.{count_if}
use Rattle.definitions.specs.Rewriting.{origin, WrittenFunction}

-- "count of variables with origins 0 to 3"
abbrev pub crossings : WrittenFunction → ℕ
crossings g = count_if (λ v. leb (origin v) 3) g.variables

-- "the sum of the lines above"
unfoldable pub sum : List ℕ → ℕ
sum [] = 0
sum (count ∷ counts) = count + sum counts
