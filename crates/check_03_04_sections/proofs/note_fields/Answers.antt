use Rattle.std.specs.Prelude.{◌≡◌, ◌+◌, ◌-◌, ◌*◌, ◌/◌}
use Rattle.kit.specs.Names.{refl, arith, length}
use Rattle.definitions.specs.ContractFile.{field_of}
use Rattle.file_decoded.proofs.Records.{fields_step, fields_end}
use Rattle.file_children.proofs.Loops.{noted_next, noted_done}
use Rattle.check_03_declarations.specs.Outside.{field_outside}
use Rattle.check_04_nodes.specs.Naming.{owner_names_nothing}
use Rattle.check_03_04_sections.proofs.Order.{owner_asked}
use Rattle.check_03_04_sections.proofs.note_fields.Goals as goal

pub loop-i-init : goal.loop-i-init
loop-i-init c =
    let count = length c.args.fields.now / 3 in
    let all : count - 0 ≡ count = omega arith in
    (rw all refl, rw all refl)

pub loop-i-preserved : goal.loop-i-preserved
unfolding field_of
loop-i-preserved c =
    let loop = c.loop-i in
    let count = length c.args.fields.now / 3 in
    let one_less : count - (loop.i + 1) ≡ (count - loop.i) - 1 = omega arith in
    let next_place : 3 * (loop.i + 1) ≡ 3 * loop.i + 3 = omega arith in
    let step = fields_step c.args.fields.now (3 * loop.i) (count - loop.i) (omega arith) in
    let (outside, nothing) = loop.invariant in (
      rw (one_less, next_place, c.field_in_tables.ensures, c.number_from-shape.ensures.value, c.number_from-data_type.ensures.value, c.number_from-owner.ensures.value)
          (noted_next field_outside loop.outside _ _ _ _ step outside _ refl),
      rw (one_less, next_place, c.final_number.ensures, owner_asked _ _ _ _ refl refl, c.number_from-owner.ensures.value)
          (noted_next (owner_names_nothing _) loop.nothing _ _ _ _ step nothing _ refl),
    )

pub returns : goal.returns
returns c =
    let loop = c.loop-i in
    let end = fields_end c.args.fields.now (3 * loop.i) (length c.args.fields.now / 3 - loop.i) (omega arith) in
    (noted_done field_outside loop.outside _ _ end loop.invariant.0, noted_done (owner_names_nothing _) loop.nothing _ _ end loop.invariant.1)
