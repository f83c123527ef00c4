use Rattle.kit.specs.Names.{refl, arith}
use Rattle.honest_parameters.proofs.Honest.{parameter_more, parameters_done}
use Rattle.honest_parameters.proofs.put_parameters.Goals as goal

pub parameter_reader-reader-requires : goal.parameter_reader-reader-requires
parameter_reader-reader-requires c = let pre = c.requires in (pre.place, omega (arith, pre.count))

pub overflow_cast-k : goal.overflow_cast-k
overflow_cast-k c = let pre = c.requires in omega (arith, pre.count, pre.place.few)

pub loop-k-preserved : goal.loop-k-preserved
loop-k-preserved c = let args = c.args in
    parameter_more args.caller args.call args.file.now args.function_at args.arguments.now args.flat.now c.requires _ _ c.loop-k.k _ _ _ c.loop-k-test.true
    c.loop-k.auto.flat c.loop-k.invariant c.parameter_reader-reader.ensures.result_value refl c.content_for-content.ensures c.put_content.ensures

pub returns : goal.returns
returns c = let args = c.args in
    parameters_done args.caller args.call args.file.now args.function_at args.arguments.now args.flat.now c.requires _ c.loop-k.k c.loop-k-test.false
    c.loop-k.auto.flat c.loop-k.invariant
