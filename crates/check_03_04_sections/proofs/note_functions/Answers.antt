use Rattle.std.specs.Prelude.{◌≡◌, ◌+◌, ◌-◌, ◌*◌, ◌/◌}
use Rattle.kit.specs.Names.{refl, arith, length}
use Rattle.file_decoded.proofs.Records.{functions_step, functions_end_law}
use Rattle.file_children.proofs.Loops.{noted_next, noted_done}
use Rattle.check_03_declarations.specs.Outside.{function_outside}
use Rattle.check_04_nodes.specs.Naming.{root_names_nothing}
use Rattle.check_03_04_sections.proofs.note_functions.Goals as goal

pub loop-i-init : goal.loop-i-init
loop-i-init c =
    let count = length c.args.functions.now / 3 in
    let all : count - 0 ≡ count = omega arith in
    (rw all refl, rw all refl)

pub parameters_outside-outside-requires : goal.parameters_outside-outside-requires
parameters_outside-outside-requires c =
    omega (arith, c.requires.each c.loop-i.i (omega arith), c.number_from-first.ensures.value, c.number_from-own.ensures.value)

pub loop-i-preserved : goal.loop-i-preserved
loop-i-preserved c =
    let loop = c.loop-i in
    let functions = c.args.functions.now in
    let count = length functions / 3 in
    let one_less : count - (loop.i + 1) ≡ (count - loop.i) - 1 = omega arith in
    let next_place : 3 * (loop.i + 1) ≡ 3 * loop.i + 3 = omega arith in
    let step = functions_step c.args.parameters.now functions (3 * loop.i) (count - loop.i) (omega arith) in
    let (outside, nothing) = loop.invariant in (
      rw (one_less, next_place, c.parameters_outside-outside.ensures, c.number_from-first.ensures.value, c.number_from-own.ensures.value)
          (noted_next function_outside loop.outside _ _ _ _ step outside _ refl),
      rw (one_less, next_place, c.number_from-root.ensures.value) (noted_next (root_names_nothing _) loop.nothing _ _ _ _ step nothing _ refl),
    )

pub returns : goal.returns
returns c =
    let loop = c.loop-i in
    let functions = c.args.functions.now in
    let end = functions_end_law c.args.parameters.now functions (3 * loop.i) (length functions / 3 - loop.i) (omega arith) in
    (noted_done function_outside loop.outside _ _ end loop.invariant.0, noted_done (root_names_nothing _) loop.nothing _ _ end loop.invariant.1)
