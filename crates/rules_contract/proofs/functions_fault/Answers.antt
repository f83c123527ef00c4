use Rattle.std.specs.Prelude.{◌≡◌, ◌+◌, ◌*◌, ◌/◌, ◌<◌, ◌≤◌}
use Rattle.kit.specs.Names.{refl, ◌∙◌, List, ℕ, arith, length}
use Rattle.file_decoded.specs.Slices.{number_at, parameters_from}
use Rattle.rules_contract.specs.Sections.{Passed}
use Rattle.rules_contract.proofs.Functions.{functions_start_law, functions_more, functions_done, own_parameters, own_ready}
use Rattle.rules_contract.proofs.Passing.{fields_ready, nodes_ready, few_parameters_law, parameters_listed, root_there}
use Rattle.rules_contract.proofs.functions_fault.Goals as goal

-- Function f's parameters lie inside the slice of all, from number `from` on, `own` of them.
inside : {fields functions parameters nodes : List ℕ} → Passed fields functions parameters nodes
    → (f from own : ℕ) → f < length functions / 3 → from ≡ number_at functions (3 * f) → own ≡ number_at functions (3 * f + 1)
    → from + 2 * own ≤ length parameters
inside passed f from own here first its = let within = passed.inside.each f (omega (arith, here)) in omega (arith, within, first, its)

pub loop-f-init : goal.loop-f-init
loop-f-init c = functions_start_law _ _ _ _ c.args.owners.now

pub slice_bounds-slices-end : goal.slice_bounds-slices-end
slice_bounds-slices-end c =
    inside c.requires.0 c.loop-f.f _ _ c.loop-f-test.true c.number_from-from.ensures.value c.number_from.ensures.value

pub invariant_of-slices : goal.invariant_of-slices
invariant_of-slices c =
    let passed = c.requires.0 in let here = c.loop-f-test.true in let first = c.number_from-from.ensures.value in let its = c.number_from.ensures.value in
    let fits = inside passed c.loop-f.f _ _ here first its in let few = few_parameters_law _ _ _ _ passed c.loop-f.f here in record {
      ready = record {
        declared = fields_ready _ _ _ _ passed;
        given = own_ready c.args.sections.now.parameters.now _ _ fits (omega (arith, few, its)) (rw (its, first) (parameters_listed _ _ _ _ passed c.loop-f.f here));
        bodies = nodes_ready _ _ _ _ passed;
        numbered = refl;
      };
    }

pub function_fault-requires : goal.function_fault-requires
function_fault-requires c =
    (rw c.number_from-root.ensures.value (root_there _ _ _ _ c.requires.0 c.loop-f.f c.loop-f-test.true), omega (arith, c.requires.1, c.loop-f.invariant.long))

pub loop-f-preserved : goal.loop-f-preserved
loop-f-preserved c =
    let here = c.loop-f-test.true in let first = c.number_from-from.ensures.value in let its = c.number_from.ensures.value in
    let fits = inside c.requires.0 c.loop-f.f _ _ here first its in
    functions_more _ _ _ _ _ _ _ _ c.loop-f.invariant _ _ _ _ here
    (own_parameters c.args.sections.now.parameters.now _ _ fits ∙ λ i. parameters_from (its i) c.args.sections.now.parameters.now (first i))
    (rw c.number_from-root.ensures.value at c.function_fault.ensures) c.min-fault.ensures

pub returns : goal.returns
returns c = let done = c.loop-f-test.false in functions_done _ _ _ _ _ _ _ _ c.loop-f.invariant (omega (arith, done))
