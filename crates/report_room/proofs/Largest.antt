-- 02, Note 3: the largest total. Sixteen functions share 512 nodes; two nodes make at most three variables, and a function opens at most eight
-- private parameters.
use Rattle.std.specs.Prelude.{◌≡◌, ◌∷◌, ◌+◌, ◌*◌, ◌≤◌}
use Rattle.kit.specs.Names.{ap, List, [], map, ℕ, arith, leb, length, length-append}
use Rattle.definitions.specs.ContractFile.{Field, Function, contract_in, contract_of}
use Rattle.definitions.specs.Crossings.{crossings_in, total_in}
use Rattle.definitions.specs.Numbers.{check_number}
use Rattle.definitions.specs.Rewriting.{origin, always, private_parameters, rewrite_function, rewrite, written_file}
use Rattle.theory_crossings.specs.Crossings.{crossings, sum}
use Rattle.theory_crossings.proofs.Headings.{counts_are_read}
use Rattle.theory_crossings.proofs.Totals.{total_is_sum}
use Rattle.theory_laws.proofs.Lists.{count_length}
use Rattle.theory_laws.proofs.Written.{opening_count}
use Rattle.theory_trees.specs.Sizes.{statement_size}
use Rattle.rewrite_events.specs.Events.{variables_of}
use Rattle.rewrite_events.proofs.Functions.{opening, function_scope, function_events, function_variables}
use Rattle.write_room.specs.Sizes.{bodies_size, parameters_size}
use Rattle.write_room.proofs.Acceptance.{counts}
use Rattle.write_room.proofs.Functions.{private_length}
use Rattle.write_room.proofs.Room.{nodes_suffice, room_suffices}
use Rattle.write_function_room.proofs.Sparse.{variables_sparse}

module _ (fields : List Field) where
  few_crossings : (g : Function) → 2 * crossings (rewrite_function fields g) ≤ 2 * length g.parameters + 3 * statement_size g.body
  few_crossings g =
      let written = rewrite_function fields g in
      let opened = (opening fields g).variables in
      let parts = ap length (function_variables fields g) in
      let both = length-append opened (variables_of (function_events fields g)) in
      let private = opening_count (private_parameters 0 g.parameters) 0 in
      omega (arith, count_length (λ v. leb (origin v) 3) written.variables, private_length 0 g.parameters, variables_sparse (function_scope fields g) g.body always (length opened))

  crossings_few : (gs : List Function) → 2 * sum (map crossings (map (rewrite_function fields) gs)) ≤ 2 * parameters_size gs + 3 * bodies_size gs
  unfolding sum parameters_size bodies_size
  crossings_few [] = omega arith
  crossings_few (g ∷ gs) = omega (arith, few_crossings g, crossings_few gs)

module _ (file : List ℕ) (accepted : check_number file ≡ 0) where
  pub counts_few : sum (crossings_in (written_file file)) ≤ 896
  unfolding written_file rewrite contract_of
  counts_few =
      let few = counts file accepted in
      let read = ap sum (counts_are_read (rewrite (contract_in file)) (omega (arith, room_suffices file accepted))) in
      omega (arith, crossings_few (contract_in file).fields (contract_in file).functions, few.parameters, few.nodes, nodes_suffice file accepted)

  pub largest_total : total_in (written_file file) ≤ 896
  largest_total = omega (arith, total_is_sum (written_file file), counts_few)
