-- The loops' invariant: the contents put and those left are all; first the reads of private parameters, then the log's entries.
use Rattle.std.specs.Prelude.{◌*◌, ◌-◌}
use Rattle.honest_variables.proofs.Contents.{Opening, Entering}
use Rattle.honest_variables.proofs.put_variables.Given as goal

abbrev pub invariant-loop : goal.invariant-loop
invariant-loop l = Opening l.log l.private l.slots l.addresses l.fn.flat l.call (l.private - l.counter) l.flat l.n

abbrev pub invariant-loop-e : goal.invariant-loop-e
invariant-loop-e l = Entering l.log l.private l.slots l.addresses l.fn.flat l.call (5 * l.e) l.flat l.n
