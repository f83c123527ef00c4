-- The first of the sentences 5 to 7 that holds.
use Rattle.std.specs.Prelude.{◌≡◌, ◌||◌, ◌∷◌, ◌/◌, ◌≤◌}
use Rattle.kit.specs.Names.{◌∙◌, Bool, cond, or_comm, List, [], map, ℕ, arith, length}
use Rattle.definitions.specs.Basics.{any, flat_map, first_that_holds}
use Rattle.definitions.specs.ContractFile.{FunctionRecord, Sections}
use Rattle.definitions.specs.Numbers.{used_other_than_once, too_deep, wrong_sort}
use Rattle.file_decoded.specs.Slices.{functions_from, nodes_from, sections_from}
use Rattle.file_decoded.proofs.Records.{nodes_length}
use Rattle.check_05_uses.specs.Counting.{Counted, root_of, children_of, other_than_one, any_from}
use Rattle.check_05_uses.proofs.Loops.{no_uses, uses_counted}
use Rattle.check_06_depth.specs.Chains.{Chains, root_too_deep}
use Rattle.check_06_depth.proofs.Loops.{depths_noted}
use Rattle.check_07_sorts.specs.Sorts.{nodes_in, root_wrong, parts_wrong}
use Rattle.check_07_sorts.proofs.SortLoops.{sorts_wrong}

module _ (fields functions parameters nodes : List ℕ) where
  abbrev records : List FunctionRecord
  records = functions_from parameters (length functions / 3) functions 0

  abbrev all : Sections
  all = sections_from fields functions parameters nodes

  module _ (few : length nodes ≤ 2560) (parts counts depths : List ℕ) (wrong : Bool)
      (counted : Counted no_uses parts (flat_map children_of (nodes_from (length nodes / 5) nodes 0))) (chains : Chains (nodes_in nodes) (length nodes / 5) depths)
      (sorts : wrong ≡ any (parts_wrong (nodes_in nodes)) (nodes_in nodes)) (rooted : Counted parts counts (map root_of records)) where
    pub all_numbers : (number : ℕ) → number ≡ first_that_holds 6 (any (root_too_deep depths) records ∷ (wrong || any (root_wrong (nodes_in nodes)) records) ∷ [])
        → (other : Bool) → other ≡ any_from (other_than_one counts) 0 (length nodes / 5)
        → cond {A = ℕ} other 5 number ≡ first_that_holds 5 (used_other_than_once all ∷ too_deep all ∷ wrong_sort all ∷ [])
    unfolding first_that_holds
    all_numbers number e other a =
        rw (
          a ∙ uses_counted all _ (nodes_length _ nodes 0) (omega arith) parts counts counted rooted,
          e,
          depths_noted all _ (nodes_length _ nodes 0) depths chains,
          sorts,
          or_comm (any (parts_wrong (nodes_in nodes)) (nodes_in nodes)) (any (root_wrong (nodes_in nodes)) records),
          ← sorts_wrong fields functions parameters nodes,
        )
