use Rattle.kit.specs.Names.{refl, arith}
use Rattle.write_nodes.proofs.TreeNodes.{room_as, room_any, numbered_as, numbered_leaf}
use Rattle.write_simple_statements.proofs.Places.{placed_supplied, placed_private, counted_private}
use Rattle.write_simple_statements.proofs.write_placed_form.Goals as goal

pub is_public-requires : goal.is_public-requires
is_public-requires c = let (n-bound, _) = c.requires in n-bound

pub put_leaf-requires : goal.put_leaf-requires
put_leaf-requires c = let (_, (_, room)) = c.requires in room_any _ _ _ _ room

pub write_body_form-requires : goal.write_body_form-requires
write_body_form-requires c = let args = c.args in
    let (n-bound, (i-bound, room)) = c.requires in let is_public_law = c.is_public.ensures in
    let if2-left = c.if-is_public.false in let h = counted_private _ _ 0 args.private _ is_public_law if2-left in
    (n-bound, (omega (arith, i-bound), room_as _ _ _ _ _ (placed_private _ _ args.next.variable args.private _ is_public_law if2-left) room))

pub write_body_form-requires-else-private : goal.write_body_form-requires-else-private
write_body_form-requires-else-private c = let (n-bound, room) = c.requires in
    (n-bound, rw c.if-private.false at room)

pub shape_of-out-then-is_public : goal.shape_of-out-then-is_public
shape_of-out-then-is_public c = c.put_leaf.auto.out

pub returns-then-is_public : goal.returns-then-is_public
returns-then-is_public c = let args = c.args in
    let if1-taken = c.if-private.true in
    let is_public_law = c.is_public.ensures in let put-leaf = c.put_leaf.ensures in
    numbered_as _ _ _ _ _ _ _ _ (placed_supplied _ _ args.next.variable args.private _ is_public_law if1-taken c.if-is_public.true) put-leaf.1 (numbered_leaf _ _ _ _ _ _ _ _ put-leaf.0)

pub shape_of-out-else-is_public : goal.shape_of-out-else-is_public
shape_of-out-else-is_public c = c.write_body_form.auto.out

pub returns-else-is_public : goal.returns-else-is_public
returns-else-is_public c = let args = c.args in
    let is_public_law = c.is_public.ensures in
    numbered_as _ _ _ _ _ _ _ _ (placed_private _ _ args.next.variable args.private _ is_public_law c.if-is_public.false) refl c.write_body_form.ensures

pub shape_of-out-else-private : goal.shape_of-out-else-private
shape_of-out-else-private c = c.write_body_form-else-private.auto.out

pub returns-else-private : goal.returns-else-private
returns-else-private c = rw c.if-private.false c.write_body_form-else-private.ensures
