-- An owner code as code asks of it, and the first of the sentences 3 and 4 that holds.
use Rattle.std.specs.Prelude.{◌≡◌, ◌&&◌, ◌||◌, ◌∷◌, ◌-◌, ◌/◌}
use Rattle.kit.specs.Names.{Bool, true, false, cond, not, List, [], ℕ, eqb, leb, length}
use Rattle.definitions.specs.Basics.{any, any_numbered, first_that_holds}
use Rattle.definitions.specs.ContractFile.{field_owner_of_code}
use Rattle.definitions.specs.Numbers.{field_of_declared_owner, outside_tables, names_nothing}
use Rattle.file_children.proofs.Truth.{or-false}
use Rattle.file_decoded.specs.Slices.{fields_from, functions_from, nodes_from, sections_from}
use Rattle.file_decoded.proofs.Records.{fields_length, nodes_length}
use Rattle.check_03_declarations.specs.Outside.{field_outside, function_outside, node_outside}
use Rattle.check_04_nodes.specs.Naming.{owner_names_nothing, root_names_nothing, node_names_nothing}

pub owner_asked : (count owner : ℕ) (a b : Bool) → eqb owner 0 ≡ a → eqb owner 2 ≡ b
    → (not (eqb owner 0) && not (eqb owner 2) && leb count (owner - 16)) ≡ any (leb count) (field_of_declared_owner (field_owner_of_code owner))
unfolding any
owner_asked count owner true b e f = rw e
owner_asked count owner false true e f = rw (e, f)
owner_asked count owner false false e f = rw (e, f, or-false (leb count (owner - 16)))

pub first_of_two : (fields functions parameters nodes : List ℕ) (a b c d e f : Bool)
    → (a ≡ any field_outside (fields_from (length fields / 3) fields 0))
    × (d ≡ any (owner_names_nothing (length fields / 3)) (fields_from (length fields / 3) fields 0))
    → (b ≡ any function_outside (functions_from parameters (length functions / 3) functions 0))
    × (e ≡ any (root_names_nothing (length nodes / 5)) (functions_from parameters (length functions / 3) functions 0))
    → (c ≡ any node_outside (nodes_from (length nodes / 5) nodes 0))
    × (f ≡ any_numbered (node_names_nothing (length fields / 3)) 0 (nodes_from (length nodes / 5) nodes 0))
    → cond {A = ℕ} (a || b || c) 3 (cond (d || e || f) 4 0)
    ≡ first_that_holds 3 (outside_tables (sections_from fields functions parameters nodes) ∷ names_nothing (sections_from fields functions parameters nodes) ∷ [])
unfolding outside_tables names_nothing first_that_holds
first_of_two fields functions parameters nodes a b c d e f p q r =
    rw (p.0, q.0, r.0, p.1, q.1, r.1, fields_length (length fields / 3) fields 0, nodes_length (length nodes / 5) nodes 0)
