use Rattle.std.specs.Prelude.{◌≡◌, ◌||◌, ◌-◌, ◌*◌, ◌/◌}
use Rattle.kit.specs.Names.{List, map, ℕ, length}
use Rattle.definitions.specs.Basics.{any}
use Rattle.file_decoded.specs.Slices.{functions_from}
use Rattle.check_05_uses.specs.Counting.{Room, root_of}
use Rattle.check_05_uses.proofs.Loops.{Leads}
use Rattle.check_06_depth.specs.Chains.{root_too_deep}
use Rattle.check_07_sorts.specs.Sorts.{nodes_in, root_wrong}
use Rattle.check_05_to_07_roots.proofs.look_at_roots.Given as goal

abbrev pub invariant-loop-i : goal.invariant-loop-i
invariant-loop-i l =
    ((parameters : List ℕ)
    → (Leads l.initial.counts l.counts (map root_of (functions_from parameters (length l.functions / 3 - l.i) l.functions (3 * l.i)))
    (map root_of (functions_from parameters (length l.functions / 3) l.functions 0)))
    × (l.deep || any (root_too_deep l.depths) (functions_from parameters (length l.functions / 3 - l.i) l.functions (3 * l.i))
    ≡ any (root_too_deep l.depths) (functions_from parameters (length l.functions / 3) l.functions 0))
    × (l.wrong || any (root_wrong (nodes_in l.nodes)) (functions_from parameters (length l.functions / 3 - l.i) l.functions (3 * l.i))
    ≡ l.noted || any (root_wrong (nodes_in l.nodes)) (functions_from parameters (length l.functions / 3) l.functions 0)))
    × (Room l.counts (length l.functions / 3 - l.i))
