-- 01, Numbers, 16: "49,152 bytes always suffice."
use Rattle.std.specs.Prelude.{◌≡◌, ◌∷◌, ◌+◌, ◌*◌, ◌≤◌}
use Rattle.kit.specs.Names.{refl, ap, cond, List, [], map, ℕ, zero, suc, arith, ltb, length, length-map, le-ltb}
use Rattle.definitions.specs.Basics.{first_that_holds}
use Rattle.definitions.specs.ContractFile.{FunctionRecord, node_count, sections_of, field_of, Node, node_of, function_of, contract_of}
use Rattle.definitions.specs.Numbers.{check_number, or_else}
use Rattle.definitions.specs.Rewriting.{written_file, write_number}
use Rattle.theory_trees.specs.Trees.{Falling}
use Rattle.write_room.specs.Sizes.{bodies_size}
use Rattle.write_room.specs.Rooms.{most_bytes, most_headings, Suffices}
use Rattle.write_room.specs.Counting.{sum_of}
use Rattle.write_room.proofs.Functions.{contract_length}
use Rattle.write_room.proofs.Counting.{tree_size, trees_covered}
use Rattle.write_room.proofs.Acceptance.{fields_counted_law, functions_counted_law, nodes_counted_law, counts, file_length, roots_inside, falling, used_once}

bodies_within : (nodes : List Node) (falling : Falling nodes) (rs : List FunctionRecord)
    → bodies_size (map (function_of nodes) rs) ≤ sum_of (tree_size nodes falling) (map (λ r. r.root) rs)
unfolding bodies_size sum_of
bodies_within nodes falling [] = omega arith
bodies_within nodes falling (r ∷ rs) = let h = bodies_within nodes falling rs in omega arith

-- The bodies of an accepted file have together no more nodes than the file.
pub nodes_suffice : (file : List ℕ) → check_number file ≡ 0 → bodies_size (contract_of (sections_of file)).functions ≤ length (sections_of file).nodes
unfolding contract_of
nodes_suffice file accepted =
    let nodes = map node_of (sections_of file).nodes in
    let falling = falling file accepted in
    let m = length-map (sections_of file).nodes node_of in
    let roots = map (λ r. r.root) (sections_of file).functions in
    let within = bodies_within nodes falling (sections_of file).functions in
    let covered = trees_covered nodes falling roots (rw m (roots_inside file accepted)) (λ n l. used_once file accepted n (omega arith)) in
    omega arith

pub room_by_parts : (file : List ℕ) → check_number file ≡ 0 → length (written_file file) ≤ most_bytes file
unfolding written_file contract_of
room_by_parts file accepted =
    let s = sections_of file in
    let f = length-map s.fields field_of in
    let g = length-map s.functions (function_of (map node_of s.nodes)) in
    omega (
      arith,
      contract_length (contract_of s),
      nodes_suffice file accepted,
      fields_counted_law file accepted,
      functions_counted_law file accepted,
      nodes_counted_law file accepted,
    )

-- 64 bytes for each node, and 5,076 for the limits of fields, functions and parameters; the headings alone, likewise.
pub bytes_by_nodes : (file : List ℕ) → check_number file ≡ 0 → most_bytes file ≤ 5076 + 64 * node_count file
bytes_by_nodes file accepted =
    let few = counts file accepted in
    omega (arith, few.fields, few.functions, few.parameters, fields_counted_law file accepted, functions_counted_law file accepted)

pub headings_by_nodes : (file : List ℕ) → check_number file ≡ 0 → most_headings file ≤ 1746 + 6 * node_count file
headings_by_nodes file accepted =
    let few = counts file accepted in
    omega (arith, few.fields, few.functions, few.parameters, fields_counted_law file accepted, functions_counted_law file accepted)

-- 18 bytes for each byte of the file.
pub bytes_by_length : (file : List ℕ) → check_number file ≡ 0 → most_bytes file ≤ 18 * length file
bytes_by_length file accepted = omega (arith, file_length file accepted)

pub headings_by_length : (file : List ℕ) → check_number file ≡ 0 → most_headings file ≤ 18 * length file
headings_by_length file accepted = omega (arith, file_length file accepted)

few_nodes_law : (file : List ℕ) → check_number file ≡ 0 → node_count file ≤ 512
few_nodes_law file accepted = omega (arith, (counts file accepted).nodes, nodes_counted_law file accepted)

pub room_suffices : (file : List ℕ) → check_number file ≡ 0 → length (written_file file) ≤ 49152
room_suffices file accepted = omega (arith, room_by_parts file accepted, bytes_by_nodes file accepted, few_nodes_law file accepted)

-- In a room that suffices number 16 is never given: the number of writing is the file's own.
pub own_number_where_enough : (file : List ℕ) (room : ℕ) → Suffices file room → write_number file room ≡ check_number file
unfolding write_number first_that_holds
own_number_where_enough file room enough = go (check_number file) refl
  where
    go : (n : ℕ) → check_number file ≡ n → or_else n (first_that_holds 16 (ltb room (length (written_file file)) ∷ [])) ≡ n
    go zero e = ap (λ b. cond {A = ℕ} b 16 0) (le-ltb room (length (written_file file)) (enough.fits e))
    go (suc n) e = refl

pub room_is_never_short : (file : List ℕ) → write_number file 49152 ≡ check_number file
room_is_never_short file = own_number_where_enough file 49152 (record { fits = room_suffices file })

-- Of the nodes that number 2 lets pass, of those that a short file has room for, and of a file of a few nodes.
pub any_file_fits : (file : List ℕ) → Suffices file 37844
any_file_fits file = record { fits = λ accepted. omega (arith, room_by_parts file accepted, bytes_by_nodes file accepted, few_nodes_law file accepted) }

pub short_file_fits : (file : List ℕ) → length file ≤ 512 → Suffices file 9172
short_file_fits file short = record { fits = λ accepted. omega (arith, room_by_parts file accepted, bytes_by_nodes file accepted, file_length file accepted) }

pub tiny_file_fits : (file : List ℕ) → length file ≤ 112 → Suffices file 2016
tiny_file_fits file tiny = record { fits = λ accepted. omega (arith, room_by_parts file accepted, bytes_by_length file accepted) }
