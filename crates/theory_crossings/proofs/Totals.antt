-- 02, Note 3: the count over a whole written file is the sum of its functions' counts.
use Rattle.std.specs.Prelude.{◌≡◌, ◌∷◌, ◌+◌}
use Rattle.kit.specs.Names.{refl, ap, ◌∙◌, List, [], map, ℕ, leb}
use Rattle.definitions.specs.Basics.{count_if, flat_map}
use Rattle.definitions.specs.Crossings.{up_to_three, origins_in, crossings_in, total_in}
use Rattle.theory_laws.proofs.Lists.{count_append}
use Rattle.theory_crossings.specs.Crossings.{sum}

sum_of_each : (lists : List (List ℕ)) → up_to_three (flat_map (λ origins. origins) lists) ≡ sum (map up_to_three lists)
unfolding flat_map count_if sum
sum_of_each [] = refl
sum_of_each (origins ∷ later) =
    count_append (λ origin. leb origin 3) origins (flat_map (λ origins. origins) later) ∙ ap (λ (k : ℕ). up_to_three origins + k) (sum_of_each later)

-- Of any bytes, a written file or not.
pub total_is_sum : (written : List ℕ) → total_in written ≡ sum (crossings_in written)
unfolding total_in crossings_in
total_is_sum written = sum_of_each (origins_in written)
