-- The call is read, made, and its number compared.
use Rattle.kit.specs.Names.{arith, length-take}
use Rattle.test_ledgers.proofs.Reading.{called_is}
use Rattle.test_ledgers.proofs.recorded.called.Goals as goal

pub slice_bounds-call-end : goal.slice_bounds-call-end
slice_bounds-call-end c = let recorded = c.read_call-recorded.ensures in simp length-take (omega (arith, recorded.room, recorded.few))

pub returns : goal.returns
returns c = called_is _ _ c.args.run c.read_call-recorded.result c.call-made.result _ _
    c.part-rest.ensures c.read_call-recorded.ensures
    c.call-made.ensures c.byte_at-number.ensures.value c.both.ensures
