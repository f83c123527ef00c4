-- The loop's invariant: the public parameters picked and those left are all.
use Rattle.honest_parameters.proofs.Public.{Picking}
use Rattle.honest_parameters.proofs.put_public.Given as goal

abbrev pub invariant-loop-k : goal.invariant-loop-k
invariant-loop-k l = Picking l.file l.function_at l.parameters l.initial.flat l.flat l.k l.r
