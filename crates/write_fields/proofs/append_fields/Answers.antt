use Rattle.std.specs.Prelude.{◌≡◌, ◌+◌, ◌*◌, ◌-◌}
use Rattle.kit.specs.Names.{refl, arith, rules}
use Rattle.memory_append.proofs.Appending.{appending_start}
use Rattle.write_fields.proofs.Fields.{field_listed_law, fields_room, fields_appended, fields_done}
use Rattle.write_fields.proofs.append_fields.Goals as goal

pub loop-i-init : goal.loop-i-init
loop-i-init c = let all : c.args.count - 0 ≡ c.args.count = omega arith in rw all (appending_start _ _ _, refl)

pub append_field-at-requires : goal.append_field-at-requires
append_field-at-requires c = let args = c.args in
    let (fields_listed, out-room) = c.requires in let loop = c.loop-i in
    let listed = field_listed_law args.file.now args.count loop.i _ _ _ fields_listed (omega arith)
    c.byte_at.ensures.value c.byte_at-in-loop-i.ensures.value c.byte_at-in-loop-i-2.ensures.value in
    let room = fields_room args.file.now args.out.now args.from args.count out-room loop.out loop.at (args.count - loop.i) (1 + 3 * loop.i) (omega arith)
    loop.invariant.0 in
    (listed, (omega arith, (omega arith, (omega arith, room))))

pub loop-i-preserved : goal.loop-i-preserved
loop-i-preserved c = let args = c.args in let (_, out-room) = c.requires in let loop = c.loop-i in
    let left : args.count - (loop.i + 1) ≡ (args.count - loop.i) - 1 = omega arith in
    let next : 1 + 3 * (loop.i + 1) ≡ 1 + 3 * loop.i + 3 = omega arith in
    rw (left, next) (
      fields_appended args.file.now args.out.now args.from args.count out-room _ _ _ (args.count - loop.i) (1 + 3 * loop.i) _ _ _ _ (omega arith)
          c.byte_at.ensures.value c.byte_at-in-loop-i.ensures.value c.byte_at-in-loop-i-2.ensures.value loop.invariant.0 c.append_field-at.ensures,
      search rules,
    )

pub returns : goal.returns
returns c = let args = c.args in let (_, out-room) = c.requires in let loop = c.loop-i in
    fields_done args.file.now args.out.now args.from args.count out-room _ _ (args.count - loop.i) (1 + 3 * loop.i) (omega arith) loop.invariant.0
