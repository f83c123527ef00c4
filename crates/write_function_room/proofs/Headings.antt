-- The headings alone: 9 bytes for a function, 11 for each parameter, and 6 for each node of its body.
use Rattle.std.specs.Prelude.{◌∷◌, ◌+◌, ◌*◌, ◌≤◌}
use Rattle.kit.specs.Names.{ap, List, [], map, ℕ, arith, length, length-append}
use Rattle.definitions.specs.ContractFile.{Field, Function}
use Rattle.definitions.specs.Rewriting.{Constraint, Variable, always, held_under, private_parameters, rewrite_function, sizes, function_trees, function_bytes, functions_bytes, functions_written}
use Rattle.theory_trees.specs.Sizes.{statement_size}
use Rattle.rewrite_events.specs.Events.{variables_of, constraints_of}
use Rattle.rewrite_events.proofs.Functions.{opening, function_scope, function_events, function_variables, function_constraints}
use Rattle.write_room.specs.Sizes.{bodies_size, parameters_size}
use Rattle.write_room.proofs.Functions.{heading_length, openings_variables, openings_constraints, private_length}
use Rattle.write_function_room.proofs.Weights.{statement_weight}

module _ (fields : List Field) where
  pub function_heading : (n : ℕ) (g : Function)
      → length (function_bytes n (rewrite_function fields g)) ≤ 9 + 11 * length g.parameters + 6 * statement_size g.body
  unfolding rewrite_function
  function_heading n g =
      let w = rewrite_function fields g in
      let ks = private_parameters 0 g.parameters in
      let events = function_events fields g in
      let made = ap (λ (vs : List Variable). length vs) (function_variables fields g) in
      let held = ap (λ (cs : List Constraint). length cs) (function_constraints fields g) in
      let a = length-append (opening fields g).variables (variables_of events) in
      let b = length-append (held_under always (opening fields g).claims) (constraints_of (function_scope fields g) events) in
      omega (
        arith,
        heading_length n w,
        openings_variables ks 0,
        openings_constraints ks 0,
        private_length 0 g.parameters,
        statement_weight (function_scope fields g) g.body always (length (opening fields g).variables),
      )

  pub functions_headings : (n : ℕ) (gs : List Function)
      → length (functions_bytes n (map (rewrite_function fields) gs)) ≤ 9 * length gs + 11 * parameters_size gs + 6 * bodies_size gs
  unfolding functions_written bodies_size parameters_size
  functions_headings n [] = omega arith
  functions_headings n (g ∷ gs) =
      let w = rewrite_function fields g in
      let m = n + sizes (function_trees w) in
      let rest = length-append (function_bytes n w) (functions_bytes m (map (rewrite_function fields) gs)) in
      omega (arith, functions_headings m gs, function_heading n g)
