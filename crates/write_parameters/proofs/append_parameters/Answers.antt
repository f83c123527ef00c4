use Rattle.std.specs.Prelude.{◌≡◌, ◌+◌, ◌*◌, ◌-◌}
use Rattle.kit.specs.Names.{refl, arith, rules}
use Rattle.memory_append.proofs.Appending.{appending_start}
use Rattle.write_parameters.proofs.Parameters.{parameter_room, parameter_appended, parameters_done}
use Rattle.write_parameters.proofs.append_parameters.Goals as goal

pub loop-i-init : goal.loop-i-init
loop-i-init c = let args = c.args in
    let all : args.count - 0 ≡ args.count = omega arith in
    let first : args.start + 2 * 0 ≡ args.start = omega arith in
    rw (all, first) (appending_start _ _ _, refl)

pub append_parameter-at-requires : goal.append_parameter-at-requires
append_parameter-at-requires c = let args = c.args in let (_, out-room) = c.requires in let loop = c.loop-i in
    parameter_room args.file.now args.out.now args.from args.count args.start out-room _ _ (args.count - loop.i)
    (args.start + 2 * loop.i) _ _ (omega arith)
    c.byte_at.ensures.value c.byte_at-in-loop-i.ensures.value loop.invariant.0

pub loop-i-preserved : goal.loop-i-preserved
loop-i-preserved c = let args = c.args in let (_, out-room) = c.requires in let loop = c.loop-i in
    let left : args.count - (loop.i + 1) ≡ (args.count - loop.i) - 1 = omega arith in
    let next : args.start + 2 * (loop.i + 1) ≡ args.start + 2 * loop.i + 2 = omega arith in
    rw (left, next) (
      parameter_appended args.file.now args.out.now args.from args.count args.start out-room _ _ (args.count - loop.i)
          (args.start + 2 * loop.i) _ _ (omega arith)
          c.byte_at.ensures.value c.byte_at-in-loop-i.ensures.value loop.invariant.0 _ _ c.append_parameter-at.ensures,
      search rules,
    )

pub returns : goal.returns
returns c = let args = c.args in let (_, out-room) = c.requires in let loop = c.loop-i in
    parameters_done args.file.now args.out.now args.from args.count args.start out-room _ _ (args.count - loop.i)
    (args.start + 2 * loop.i) (omega arith) loop.invariant.0
