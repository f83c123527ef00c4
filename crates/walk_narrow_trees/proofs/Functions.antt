-- A function of a file as it is written: its trees are narrow, its owners have codes, and what is written of it reads back.
use Rattle.std.specs.Prelude.{◌≡◌, ◌∷◌, ◌++◌, ◌+◌, ◌-◌, ◌<◌, ◌≤◌}
use Rattle.kit.specs.Names.{ap, ◌∙◌, Bool, true, false, cond, List, [], append-nil, ℕ, suc, arith}
use Rattle.kit.specs.Names.{length, length-append}
use Rattle.definitions.specs.Basics.{flat_map}
use Rattle.definitions.specs.ContractFile.{Field, Parameter, Function, Scope}
use Rattle.definitions.specs.Rewriting.{BodyExpression, Command, Claim, equals, opens_for_caller, always, Constraint, WrittenFunction, private_parameters, openings, held_under, with_verify, rewrite_statement, rewrite_function, Tree, sizes, numbered_all, node_bytes, command_tree, claim_trees, function_trees}
use Rattle.theory_laws.proofs.Written.{nodes_length, opening_count, sizes_append}
use Rattle.theory_trees.specs.Trees.{statement_in}
use Rattle.file_accepted.specs.Context.{Known, nodes_in, fields_in, parameters_in, scope_in}
use Rattle.file_accepted.specs.Functions.{root_at}
use Rattle.rewrite_events.specs.Events.{variables_of, variable_count, statement_events}
use Rattle.rewrite_events.proofs.Functions.{function_variables}
use Rattle.write_parameters.specs.Parameters.{private_count}
use Rattle.write_function_room.specs.Functions.{function_in, written_in, private_in, events_in, FunctionRoom}
use Rattle.write_trees.specs.Trees.{command_in}
use Rattle.write_trees.specs.Table.{count_of, table_of}
use Rattle.write_trees.proofs.Tables.{table_back}
use Rattle.write_trees.proofs.Narrowness.{AllNarrowTrees, no_tree, more_trees, all_numbered_narrow}
use Rattle.write_trees.specs.Trees.{Falling}
use Rattle.write_trees.proofs.Falls.{AllShaped, all_numbered_falls, falling_whole}
use Rattle.write_trees.proofs.RoundTrip.{functions_shaped}
use Rattle.write_trees.proofs.Functions.{numbered_append, all_length, function_body_back}
use Rattle.ledger_circuits.specs.Circuits.{constraints_from}
use Rattle.walk_constraints.specs.Numbers as numbers
use Rattle.write_trees.specs.Numbers.{constraint_numbers}
use Rattle.walk_constraints.specs.Numbers.{ClaimHasCode, AllHaveCodes}
use Rattle.walk_constraints.proofs.Numbers.{constraints_back}
use Rattle.walk_narrow_trees.specs.Narrow.{Bytes, NarrowStatement, CodedScope, WrittenBack}
use Rattle.walk_narrow_trees.proofs.Pieces as pieces
use Rattle.walk_narrow_trees.proofs.Pieces.{Each, each_append, NarrowCommand, NarrowStep, NarrowClaim}
use Rattle.walk_narrow_trees.proofs.Rewritten as rewritten
use Rattle.walk_narrow_trees.proofs.Rewritten.{parameter_body, steps_command, verified_command, NarrowConstraint, held_narrow}
use Rattle.walk_narrow_trees.proofs.Nodes as files
use Rattle.file_accepted.proofs.Declarations.{parameters_count}

-- Private parameters are among the first 256, so that one byte holds their numbers.
private_small : (k : ℕ) (ps : List Parameter) → k + length ps ≤ 256 → Each (λ (j : ℕ). j < 256) (private_parameters k ps)
unfolding private_parameters
private_small k [] h = pieces.none
private_small k (p ∷ ps) h = either p.private (private_small (suc k) ps (omega arith))
  where
    either : (t : Bool) → Each (λ (j : ℕ). j < 256) (private_parameters (suc k) ps)
        → Each (λ (j : ℕ). j < 256) (cond t (k ∷ private_parameters (suc k) ps) (private_parameters (suc k) ps))
    either true g = pieces.more k _ (omega arith) g
    either false g = g

opening_steps_law : (ks : List ℕ) (i : ℕ) → i + length ks ≤ 65536 → Each (λ (j : ℕ). j < 256) ks → Each NarrowStep (openings ks i).steps
unfolding openings
opening_steps_law [] i few h = pieces.none
opening_steps_law (k ∷ ks) i few (pieces.more _ _ n h) = pieces.more (record { variable = i; value = BodyExpression.parameter k }) _ (omega arith, parameter_body k n) (opening_steps_law ks (suc i) (omega arith) h)

opening_claims_law : (ks : List ℕ) (i : ℕ) → Each NarrowClaim (openings ks i).claims
unfolding openings
opening_claims_law [] i = pieces.none
opening_claims_law (k ∷ ks) i = pieces.more _ _ tt (opening_claims_law ks (suc i))

verify_narrow : (cs : List Constraint) (body : Command) → NarrowCommand body → NarrowCommand (with_verify cs body)
verify_narrow [] body h = h
verify_narrow (c ∷ cs) body h = verified_command body h

pub record NarrowFunction (w : WrittenFunction) : Type 0 where
  pub body : NarrowCommand w.body
  pub constraints : Each NarrowConstraint w.constraints

module _ (fields : List Field) (g : Function) where
  abbrev scope : Scope
  scope = record { fields = fields; parameters = g.parameters }

  pub function_narrow : CodedScope scope → NarrowStatement g.body → length g.parameters ≤ 256 → length (rewrite_function fields g).variables ≤ 65536
      → NarrowFunction (rewrite_function fields g)
  unfolding rewrite_function
  function_narrow coded narrow short few =
      let ks = private_parameters 0 g.parameters in
      let opening = openings ks 0 in
      let first = length opening.variables in
      let passage = rewrite_statement scope g.body always first in
      let all = held_under always opening.claims ++ passage.constraints in
      let whole = length-append opening.variables passage.variables in
      let counted = opening_count ks 0 in
      let p = (rewritten.statement_narrow scope coded g.body narrow).from always first (omega arith) in
      record {
        body = steps_command opening.steps (with_verify all passage.command) (opening_steps_law ks 0 (omega arith) (private_small 0 g.parameters (omega arith)))
            (verify_narrow all passage.command p.command);
        constraints =
            each_append NarrowConstraint (held_under always opening.claims) passage.constraints (held_narrow always opening.claims (opening_claims_law ks 0))
            p.constraints;
      }

-- What follows for any narrow function that is not too large.
trees_append : (ts us : List Tree) → AllNarrowTrees ts → AllNarrowTrees us → AllNarrowTrees (ts ++ us)
trees_append [] us h k = k
trees_append (t ∷ ts) us (more_trees _ _ n h) k = more_trees t (ts ++ us) n (trees_append ts us h k)

claim_trees_law : (claim : Claim) → NarrowClaim claim → AllNarrowTrees (claim_trees claim)
claim_trees_law (equals i o circuit) h = more_trees _ _ h.1 no_tree
claim_trees_law (opens_for_caller i) h = no_tree

claims_trees : (cs : List Constraint) → Each NarrowConstraint cs → AllNarrowTrees (flat_map (λ c. claim_trees c.claim) cs)
unfolding flat_map
claims_trees [] h = no_tree
claims_trees (c ∷ cs) (pieces.more _ _ n h) = trees_append _ _ (claim_trees_law c.claim n) (claims_trees cs h)

claim_coded : (claim : Claim) → NarrowClaim claim → ClaimHasCode claim
claim_coded (equals i o circuit) h = h.0
claim_coded (opens_for_caller i) h = tt

pub codes_of_law : (cs : List Constraint) → Each NarrowConstraint cs → AllHaveCodes cs
codes_of_law [] h = numbers.none
codes_of_law (c ∷ cs) (pieces.more _ _ n h) = numbers.more c cs (claim_coded c.claim n) (codes_of_law cs h)

module _ (w : WrittenFunction) (narrow : NarrowFunction w) (few : sizes (function_trees w) ≤ 65535) where
  abbrev trees : List Tree
  trees = function_trees w

  abbrev circuits : List Tree
  circuits = flat_map (λ c. claim_trees c.claim) w.constraints

  abbrev bytes : List ℕ
  bytes = flat_map node_bytes (numbered_all 0 trees)

  pub trees_narrow : AllNarrowTrees trees
  trees_narrow = trees_append circuits (command_tree w.body ∷ []) (claims_trees w.constraints narrow.constraints) (more_trees _ _ narrow.body no_tree)

  pub table_is_back : table_of bytes ≡ numbered_all 0 trees
  table_is_back = table_back (numbered_all 0 trees) (all_numbered_narrow trees trees_narrow 0 (omega arith))

  trees_fall : Falling (numbered_all 0 trees)
  unfolding flat_map
  trees_fall =
      let shaped : AllShaped trees = rw append-nil at (functions_shaped (w ∷ [])) in
      falling_whole (numbered_all 0 trees) (all_numbered_falls trees shaped 0)

  count : count_of bytes ≡ sizes trees
  count = let l = nodes_length (numbered_all 0 trees) in let k = all_length trees 0 in omega arith

  body_back : command_in (numbered_all 0 trees) (sizes trees - 1) ≡ w.body
  body_back =
      let e : 0 + sizes trees - 1 ≡ sizes trees - 1 = omega arith in
      let h = function_body_back w [] [] in
      rw (append-nil (numbered_all 0 trees), e) at h

  circuits_back : constraints_from (numbered_all 0 trees) (constraint_numbers 0 w.constraints) ≡ w.constraints
  circuits_back =
      let last = command_tree w.body ∷ [] in
      let whole = sizes_append circuits last in
      rw (numbered_append circuits last 0)
      (constraints_back w.constraints (codes_of_law w.constraints narrow.constraints) [] (numbered_all (0 + sizes circuits) last) (omega arith))

  pub written_back : WrittenBack w
  written_back =
      record {
        count = count;
        readable = record { few = omega (arith, count); falling = rw table_is_back trees_fall };
        body = rw table_is_back body_back;
        constraints = rw table_is_back circuits_back;
      }

-- The function at a place of an accepted file.
module _ (file : List ℕ) (at : ℕ) where
  opening_variables_law : length (openings (private_parameters 0 (parameters_in file at)) 0).variables ≡ private_in file at
  unfolding parameters_in private_count
  opening_variables_law = opening_count (private_parameters 0 (parameters_in file at)) 0

  pub variables_are : length (written_in file at).variables ≡ private_in file at + variable_count (events_in file at)
  variables_are =
      let opening = openings (private_parameters 0 (parameters_in file at)) 0 in
      let events = statement_events (scope_in file at) (statement_in (nodes_in file) (root_at file at)) always in
      ap length (function_variables (fields_in file) (function_in file at)) ∙ length-append opening.variables (variables_of (events (length opening.variables)))
      ∙ ap (λ (i : ℕ). i + variable_count (events i)) opening_variables_law

  pub function_is_narrow : Known file at → Bytes file → private_in file at + variable_count (events_in file at) ≤ 65536 → NarrowFunction (written_in file at)
  function_is_narrow context bytes few =
      let counted = variables_are in
      function_narrow (fields_in file) (function_in file at) (files.scope_coded file at context)
      (files.statement_narrow file at context bytes (suc (root_at file at)) (root_at file at)) (omega (arith, parameters_count file at, context.few_parameters)) (omega arith)

-- "A call walks the function's written body": what is written of a function reads back.
pub function_back : (file : List ℕ) (at from base : ℕ) → Bytes file → FunctionRoom file at from base → WrittenBack (written_in file at)
function_back file at from base bytes room =
    written_back (written_in file at) (function_is_narrow file at room.context bytes (omega (arith, room.variables))) (omega (arith, room.nodes))
