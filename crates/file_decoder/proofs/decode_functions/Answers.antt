use Rattle.std.specs.Prelude.{◌≡◌, ◌+◌, ◌-◌, ◌*◌, ◌/◌}
use Rattle.kit.specs.Names.{refl, arith, length}
use Rattle.file_decoder.proofs.Loops.{next_room, functions_more, functions_done}
use Rattle.file_decoder.proofs.decode_functions.Goals as goal

pub loop-i-init : goal.loop-i-init
loop-i-init c =
    let count = length c.args.functions.now / 3 in
    let all : count - 0 ≡ count = omega arith in
    record {
      numbers = rw all refl;
      own = rw all refl;
      end = rw all refl;
      together = omega arith;
      inside = omega arith;
      long_functions = refl;
      long_parameters = refl;
    }

pub decode_function-own-requires : goal.decode_function-own-requires
decode_function-own-requires c = next_room _ _ _ _ _ _ _ _ _ c.requires _ (omega arith) c.loop-i.invariant

pub overflow_add-place-in-loop-i-2 : goal.overflow_add-place-in-loop-i-2
overflow_add-place-in-loop-i-2 c =
    let room = next_room _ _ _ _ _ _ _ _ _ c.requires _ (omega arith) c.loop-i.invariant in
    omega (arith, room.there, c.decode_function-own.ensures.value.0)

pub overflow_add-first : goal.overflow_add-first
overflow_add-first c =
    let room = next_room _ _ _ _ _ _ _ _ _ c.requires _ (omega arith) c.loop-i.invariant in
    omega (arith, room.for_parameters, c.decode_function-own.ensures.value.0, c.loop-i.invariant.long_parameters, c.requires.small)

pub loop-i-preserved : goal.loop-i-preserved
loop-i-preserved c =
    let i = c.loop-i.i in
    let count = length c.args.functions.now / 3 in
    let one_less : count - (i + 1) ≡ (count - i) - 1 = omega arith in
    let next_function : 3 * (i + 1) ≡ 3 * i + 3 = omega arith in
    let (own_is, _) = c.decode_function-own.ensures.value in
    let (put, copied) = c.decode_function-own.ensures.functions_after in
    rw (one_less, next_function) (functions_more _ _ _ _ _ _ _ _ _ c.requires _ _ _ _ (omega arith) own_is c.loop-i.invariant put copied)

pub returns : goal.returns
returns c = functions_done _ _ _ _ _ _ _ _ _ c.requires _ (omega arith) c.loop-i.invariant
