use Rattle.std.specs.Prelude.{◌-◌}
use Rattle.kit.specs.Names.{◌∙◌, arith}
use Rattle.write_steps.proofs.Closing.{closed_none, closed_next}
use Rattle.write_steps.proofs.+close_steps.Goals as goal

pub offset_bounds-roots-count : goal.offset_bounds-roots-count
offset_bounds-roots-count t c = let (count-bound, _) = c.requires in omega (arith, count-bound)

pub bounds-roots-count : goal.bounds-roots-count
bounds-roots-count t c = let (count-bound, _) = c.requires in omega (arith, count-bound)

pub overflow_cast-root : goal.overflow_cast-root
overflow_cast-root t c = omega (arith, c.shared_slice_known-then-count-gt0-1.given (c.args.count - 1))

pub put_node-requires : goal.put_node-requires
put_node-requires t c = let (_, (_, out-room)) = c.requires in omega (arith, out-room)

pub overflow_add-top : goal.overflow_add-top
overflow_add-top t c = let (_, (top-bound, _)) = c.requires in omega (arith, top-bound)

pub overflow_add-at : goal.overflow_add-at
overflow_add-at t c = let (_, (_, out-room)) = c.requires in
    omega (arith, out-room)

pub close_steps-requires : goal.close_steps-requires
close_steps-requires t c = let (count-bound, (top-bound, out-room)) = c.requires in
    (omega arith, (omega (arith, count-bound), (omega (arith, top-bound), omega (arith, out-room, c.put_node.auto.out))))

pub shape_of-out : goal.shape_of-out
shape_of-out t c = c.close_steps.auto.out ∙ c.put_node.auto.out

pub returns-then-count-gt0 : goal.returns-then-count-gt0
returns-then-count-gt0 t c = let (count-bound, (_, out-room)) = c.requires in
    let if1-taken = c.if-count-gt0.true in
    let put-node = c.put_node.ensures in
    closed_next _ _ _ if1-taken count-bound _ _ _ _ out-room put-node c.close_steps.ensures

pub returns-else-count-gt0 : goal.returns-else-count-gt0
returns-else-count-gt0 t c = closed_none _ _ _ c.if-count-gt0.false _ _
