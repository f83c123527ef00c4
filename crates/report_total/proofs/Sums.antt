-- Sums of counts: one line more, and whatever their order.
use Rattle.std.specs.Prelude.{◌≡◌, ◌∷◌, ◌++◌, ◌+◌, ◌<◌}
use Rattle.kit.specs.Names.{refl, ap, ◌∙◌, Bool, true, false, cond, List, [], map, ℕ, suc, arith, add-one, length}
use Rattle.kit.specs.Names.{get_or, take, take-suc}
use Rattle.definitions.specs.Report.{Tally, comes_before, insert, sorted, tallies}
use Rattle.theory_crossings.specs.Crossings.{sum}
use Rattle.report_order.specs.Counts.{tally_of, ordered_tallies}
use Rattle.report_total.specs.Totals.{total_of}

-- One line more: the tally of the next function in the order.
next_total : (counts ns : List ℕ) (n : ℕ) → total_of (map (tally_of counts) (ns ++ (n ∷ []))) ≡ total_of (map (tally_of counts) ns) + get_or counts n 0
unfolding sum
next_total counts [] n = omega arith
next_total counts (m ∷ ns) n = omega (arith, next_total counts ns n)

module _ (counts order : List ℕ) where
  pub none_added : 0 ≡ total_of (ordered_tallies counts 0 order)
  unfolding ordered_tallies sum
  none_added = refl

  pub line_added : (i : ℕ) → i < length order → total_of (ordered_tallies counts (i + 1) order) ≡ total_of (ordered_tallies counts i order) + get_or counts (get_or order i 0) 0
  unfolding ordered_tallies
  line_added i h =
      ap (λ (k : ℕ). total_of (map (tally_of counts) (take k order))) (add-one i)
      ∙ ap (λ (ns : List ℕ). total_of (map (tally_of counts) ns)) (take-suc order i 0 h) ∙ next_total counts (take i order) (get_or order i 0)

-- The order of the lines does not matter, whatever is added up of each.
module _ (of : Tally → ℕ) where
  insert_sum : (a : Tally) (bs : List Tally) → sum (map of (insert a bs)) ≡ of a + sum (map of bs)
  unfolding insert sum
  insert_sum a [] = refl
  insert_sum a (b ∷ bs) = go (comes_before a b) (insert_sum a bs)
    where
      go : (before : Bool) → sum (map of (insert a bs)) ≡ of a + sum (map of bs) → sum (map of (cond before (a ∷ b ∷ bs) (b ∷ insert a bs))) ≡ of a + (of b + sum (map of bs))
      go true h = refl
      go false h = omega arith

  pub sorted_sum : (ts : List Tally) → sum (map of (sorted ts)) ≡ sum (map of ts)
  unfolding sorted sum
  sorted_sum [] = refl
  sorted_sum (t ∷ ts) = insert_sum t (sorted ts) ∙ ap (λ (k : ℕ). of t + k) (sorted_sum ts)

tallies_total : (n : ℕ) (counts : List ℕ) → total_of (tallies n counts) ≡ sum counts
unfolding tallies sum
tallies_total n [] = refl
tallies_total n (count ∷ counts) = ap (λ (k : ℕ). count + k) (tallies_total (suc n) counts)

-- The sum of the lines in sorted order is that of the functions' counts.
pub lines_total : (counts : List ℕ) → total_of (sorted (tallies 0 counts)) ≡ sum counts
lines_total counts = sorted_sum (λ t. t.count) (tallies 0 counts) ∙ tallies_total 0 counts
