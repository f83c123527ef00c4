use Rattle.kit.specs.Names.{refl, ◌∙◌, arith}
use Rattle.view_items.proofs.Shown.{items_start, items_next, items_done}
use Rattle.view_items.proofs.put_items.Goals as goal

pub loop-i-init : goal.loop-i-init
loop-i-init c = (refl, items_start _ _ _ _)

pub loop-i-preserved : goal.loop-i-preserved
loop-i-preserved c = let put = c.put_content in let (kept, left) = c.loop-i.invariant in
    (put.auto.out ∙ kept, items_next _ _ _ _ _ _ _ _ (omega arith) (omega arith) c.content_at-content.ensures put.ensures left)

pub shape_of-out : goal.shape_of-out
shape_of-out c = c.loop-i.invariant.0

pub returns : goal.returns
returns c = items_done _ _ _ _ _ _ (omega arith) c.loop-i.invariant.1
