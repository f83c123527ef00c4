-- As many arguments are lent as the call has.
use Rattle.kit.specs.Names.{arith, length-take}
use Rattle.test_programs.proofs.Rehearsals.{called_at}
use Rattle.test_programs.proofs.programs.call_at.Goals as goal

pub slice_bounds-call-end : goal.slice_bounds-call-end
slice_bounds-call-end c = simp length-take (omega arith)

pub returns : goal.returns
returns c = called_at _ _ _ _ _ _ c.read_call-parts.ensures c.arguments-arguments.ensures c.call.ensures
