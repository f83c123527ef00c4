-- Each function of an accepted file can be written, behind those before it and alone.
use Rattle.std.specs.Prelude.{◌≡◌, ◌∷◌, ◌+◌, ◌*◌, ◌-◌, ◌<◌, ◌≤◌}
use Rattle.kit.specs.Names.{ap, sym, ◌∙◌, List, [], ℕ, zero, suc, arith, length, take, take-length}
use Rattle.definitions.specs.ContractFile.{Statement, Function, function_at, byte_at, function_count, node_count, sections_of, contract_of}
use Rattle.definitions.specs.Numbers.{check_number}
use Rattle.definitions.specs.Rewriting.{always, WrittenFunction, rewrite, functions_bytes}
use Rattle.file_accepted.proofs.Declarations.{parameters_count}
use Rattle.file_bytes.proofs.Sections.{count_of_nodes}
use Rattle.theory_accepted.specs.Settled.{Settled}
use Rattle.theory_accepted.proofs.Sentences.{accepted_settled}
use Rattle.theory_trees.specs.Trees.{statement_in}
use Rattle.file_accepted.specs.Context.{nodes_in, fields_in, parameters_in, scope_in, Known}
use Rattle.file_accepted.specs.Functions.{function_start, root_at}
use Rattle.file_accepted.proofs.Accepted.{few_functions_law, known_of}
use Rattle.file_accepted.proofs.Functions.{functions_count, function_in_law, root_below}
use Rattle.rewrite_events.specs.Events.{variable_count, steps_of, constraints_of}
use Rattle.theory_trees.specs.Sizes.{statement_size}
use Rattle.rewrite_events.proofs.Lengths.{statement_length, steps_few}
use Rattle.write_variables.specs.Variables.{owners_fit}
use Rattle.write_parameters.specs.Parameters.{private_count}
use Rattle.write_room.specs.Sizes.{bodies_size, parameters_size}
use Rattle.write_room.specs.Rooms.{parameter_count, most_bytes, most_headings}
use Rattle.write_room.proofs.Functions.{private_length, rewritten_weight}
use Rattle.write_room.proofs.Room.{nodes_suffice, room_suffices, room_by_parts, bytes_by_nodes}
use Rattle.write_function_room.specs.Functions.{function_in, private_in, events_in, headings_before, nodes_before, written_functions, FunctionRoom}
use Rattle.write_function_room.proofs.Sparse.{variables_sparse}
use Rattle.write_function_room.proofs.Weights.{statement_weight}
use Rattle.rewrite_event_owners.proofs.Files.{owners_listed_law}
use Rattle.write_function_room.proofs.Owners.{owners_fit_law}
use Rattle.write_function_room.proofs.Written.{before_step, headings_before_step, written_length_law, functions_counted_law}
use Rattle.write_function_room.proofs.Headings.{function_heading, functions_headings}

body_within : (gs : List Function) (f : ℕ) → f < length gs → statement_size (function_at gs f).body ≤ bodies_size gs
unfolding bodies_size
body_within [] f h = absurd (omega arith)
body_within (g ∷ gs) zero h = omega arith
body_within (g ∷ gs) (suc f) h = omega (arith, body_within gs f (omega arith))

own_parameters : (gs : List Function) (f : ℕ) → f < length gs → length (function_at gs f).parameters ≤ parameters_size gs
unfolding parameters_size
own_parameters [] f h = absurd (omega arith)
own_parameters (g ∷ gs) zero h = omega arith
own_parameters (g ∷ gs) (suc f) h = omega (arith, own_parameters gs f (omega arith))

private_within : (file : List ℕ) (at : ℕ) → private_in file at ≤ byte_at file at
unfolding private_count parameters_in
private_within file at = omega (arith, private_length 0 (parameters_in file at), parameters_count file at)

-- What stands before a later function is no less than what stands before and in an earlier one.
module _ (file : List ℕ) where
  before_grows : (f more : ℕ) → f + more ≤ function_count file → nodes_before file f ≤ nodes_before file (f + more)
  before_grows f zero h = let e : f + 0 ≡ f = omega arith in rw e (omega arith)
  before_grows f (suc more) h =
      let e : f + suc more ≡ suc (f + more) = omega arith in
      rw e (omega (arith, before_grows f more (omega arith), before_step file (f + more) (omega arith)))

  headings_grow : (f more : ℕ) → f + more ≤ function_count file → headings_before file f ≤ headings_before file (f + more)
  headings_grow f zero h = let e : f + 0 ≡ f = omega arith in rw e (omega arith)
  headings_grow f (suc more) h =
      let e : f + suc more ≡ suc (f + more) = omega arith in
      rw e (omega (arith, headings_grow f more (omega arith), headings_before_step file (f + more) (omega arith)))

module _ (file : List ℕ) (accepted : check_number file ≡ 0) where
  settled : Settled file
  settled = accepted_settled file accepted

  pub functions_few : function_count file ≤ 16
  functions_few = few_functions_law file settled.counts

  pub file_fits : headings_before file (function_count file) + 2 + 8 * nodes_before file (function_count file) ≤ 49152
  file_fits = omega (arith, room_suffices file accepted, written_length_law file)

  pub file_fits_by_parts : headings_before file (function_count file) + 2 + 8 * nodes_before file (function_count file) ≤ most_bytes file
  file_fits_by_parts = omega (arith, room_by_parts file accepted, written_length_law file)

  pub headings_fit_by_parts : headings_before file (function_count file) ≤ most_headings file
  unfolding contract_of nodes_in rewrite
  headings_fit_by_parts =
      let c = contract_of (sections_of file) in
      let all : take (function_count file) (written_functions file) ≡ written_functions file = ap (λ (n : ℕ). take n (written_functions file)) (sym (functions_counted_law file)) ∙ take-length (written_functions file) in
      let long = ap (λ (ws : List WrittenFunction). length (functions_bytes 0 ws)) all in
      let own : length (functions_bytes 0 (written_functions file)) ≤ 9 * length c.functions + 11 * parameter_count file + 6 * bodies_size c.functions =
      functions_headings c.fields 0 c.functions in
      omega (arith, functions_count file, nodes_suffice file accepted, count_of_nodes file)

  module _ (f : ℕ) (inside : f < function_count file) where
    abbrev start : ℕ
    start = function_start file f

    pub function_context : Known file start
    function_context = known_of file f settled.counts settled.tables settled.numbers settled.sorts inside

    pub function_root : root_at file start < node_count file
    function_root = root_below file f settled.numbers inside

    abbrev body : Statement
    body = statement_in (nodes_in file) (root_at file start)

    -- The nodes of the body are nodes of the file.
    body_within_nodes : statement_size body ≤ node_count file
    body_within_nodes =
        let same = ap (λ (g : Function). statement_size g.body) (function_in_law file f inside) in
        let counted = functions_count file in
        let one = body_within (contract_of (sections_of file)).functions f (omega arith) in
        omega (arith, nodes_suffice file accepted, count_of_nodes file)

    -- So are its parameters.
    parameters_within : length (parameters_in file start) ≤ parameter_count file
    parameters_within =
        let same = ap (λ (g : Function). length g.parameters) (function_in_law file f inside) in
        let counted = functions_count file in
        omega (arith, own_parameters (contract_of (sections_of file)).functions f (omega arith))

    body_small : statement_size body ≤ 512
    body_small = omega (arith, body_within_nodes, function_context.few_nodes)

    events_by_nodes_law : length (events_in file start) ≤ 2 * node_count file
    events_by_nodes_law = omega (arith, statement_length (scope_in file start) body always (private_in file start), body_within_nodes)

    events_few : length (events_in file start) ≤ 1024
    events_few = omega (arith, events_by_nodes_law, function_context.few_nodes)

    claims_by_nodes : length (constraints_of (scope_in file start) (events_in file start)) ≤ node_count file
    claims_by_nodes = omega (arith, statement_weight (scope_in file start) body always (private_in file start), body_within_nodes)

    steps_by_nodes : 2 * length (steps_of (scope_in file start) (events_in file start)) ≤ 3 * node_count file
    steps_by_nodes =
        omega (arith, steps_few (scope_in file start) (events_in file start), variables_sparse (scope_in file start) body always (private_in file start), body_within_nodes)

    variables_few : private_in file start + variable_count (events_in file start) ≤ 1024
    variables_few =
        omega (arith, variables_sparse (scope_in file start) body always (private_in file start), body_small, private_within file start, function_context.few_parameters)

    owners_small : owners_fit (events_in file start)
    owners_small =
        owners_fit_law (events_in file start) (owners_listed_law file start function_context (root_at file start) always (private_in file start))

    pub function_room : FunctionRoom file start (headings_before file f) (nodes_before file f)
    function_room =
        let more : suc f + (function_count file - suc f) ≡ function_count file = omega arith in
        let nodes = rw more at (before_grows file (suc f) (function_count file - suc f) (omega arith)) in
        let headings = rw more at (headings_grow file (suc f) (function_count file - suc f) (omega arith)) in
        record {
          context = function_context;
          root = function_root;
          events = events_few;
          events_by_nodes = events_by_nodes_law;
          steps = steps_by_nodes;
          claims = claims_by_nodes;
          variables = variables_few;
          owners = owners_small;
          heading = omega (arith, file_fits, headings_before_step file f inside);
          nodes = omega (arith, file_fits, before_step file f inside);
          heading_by_parts = omega (arith, headings_fit_by_parts, headings_before_step file f inside);
          nodes_by_parts = omega (arith, file_fits_by_parts, before_step file f inside);
          parts_by_nodes = bytes_by_nodes file accepted;
        }

    pub function_room_alone : FunctionRoom file start 0 0
    function_room_alone =
        let few = parameters_count file start in
        let weight = rewritten_weight (fields_in file) 0 (function_in file start) in
        let own = function_heading (fields_in file) 0 (function_in file start) in
        record {
          context = function_context;
          root = function_root;
          events = events_few;
          events_by_nodes = events_by_nodes_law;
          steps = steps_by_nodes;
          claims = claims_by_nodes;
          variables = variables_few;
          owners = owners_small;
          heading = omega (arith, body_small, function_context.few_parameters);
          nodes = omega (arith, body_small, function_context.few_parameters);
          heading_by_parts = omega (arith, body_within_nodes, few, parameters_within);
          nodes_by_parts = omega (arith, body_within_nodes, few, parameters_within);
          parts_by_nodes = bytes_by_nodes file accepted;
        }

-- The count that code makes of the private parameters.
pub private_counted : (file : List ℕ) (at count private : ℕ) → count ≡ byte_at file at → private ≡ private_count count file (at + 1) → private ≡ private_in file at
private_counted file at count private e h = h ∙ ap (λ (n : ℕ). private_count n file (at + 1)) e
