-- The loop's invariant: with the functions left, those stored are all.
use Rattle.std.specs.Prelude.{◌-◌, ◌*◌, ◌/◌}
use Rattle.kit.specs.Names.{length}
use Rattle.file_decoder.proofs.Loops.{FunctionsLeft}
use Rattle.file_decoder.proofs.decode_functions.Given as goal

abbrev pub invariant-loop-i : goal.invariant-loop-i
invariant-loop-i l =
    FunctionsLeft l.file l.from l.initial.functions l.initial.parameters (length l.initial.functions / 3 - l.i)
    l.place (3 * l.i) l.first l.functions l.parameters
