-- The loop's invariant: the functions before this one stand in the buffers.
use Rattle.std.specs.Prelude.{◌≡◌}
use Rattle.kit.specs.Names.{length}
use Rattle.file_accepted.specs.Functions.{function_start}
use Rattle.write_parts.specs.Parts.{FunctionsPut}
use Rattle.write_parts.proofs.write_functions.Given as goal

abbrev pub invariant-loop-f : goal.invariant-loop-f
invariant-loop-f l =
    (FunctionsPut l.file l.f l.from l.initial.headings l.headings l.initial.nodes l.nodes l.all.end l.all.nodes l.counts.crossings)
    × (l.function_at ≡ function_start l.file l.f)
    × (length l.log ≡ length l.initial.log) × (length l.roots ≡ length l.initial.roots) × (length l.numbers ≡ length l.initial.numbers)
    × (length l.headings ≡ length l.initial.headings) × (length l.nodes ≡ length l.initial.nodes)
