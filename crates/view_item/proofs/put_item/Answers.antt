-- Ten bytes are stored.
use Rattle.kit.specs.Names.{arith, length-set}
use Rattle.definitions.specs.View.{item_bytes}
use Rattle.view_item.proofs.Bytes.{ten_set}
use Rattle.view_item.proofs.put_item.Goals as goal

pub bounds-out-at-2 : goal.bounds-out-at-2
bounds-out-at-2 c = simp length-set (omega arith)

pub bounds-out-at-3 : goal.bounds-out-at-3
bounds-out-at-3 c = simp length-set (omega arith)

pub bounds-out-at-4 : goal.bounds-out-at-4
bounds-out-at-4 c = simp length-set (omega arith)

pub bounds-out-at-5 : goal.bounds-out-at-5
bounds-out-at-5 c = simp length-set (omega arith)

pub bounds-out-at-6 : goal.bounds-out-at-6
bounds-out-at-6 c = simp length-set (omega arith)

pub bounds-out-at-7 : goal.bounds-out-at-7
bounds-out-at-7 c = simp length-set (omega arith)

pub bounds-out-at-8 : goal.bounds-out-at-8
bounds-out-at-8 c = simp length-set (omega arith)

pub bounds-out-at-9 : goal.bounds-out-at-9
bounds-out-at-9 c = simp length-set (omega arith)

pub bounds-out-at-10 : goal.bounds-out-at-10
bounds-out-at-10 c = simp length-set (omega arith)

pub shape_of-out : goal.shape_of-out
shape_of-out c = simp length-set

pub returns : goal.returns
unfolding item_bytes
returns c = ten_set _ _ _ _ _ _ _ _ _ _ _ _ c.requires
