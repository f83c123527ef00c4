use Rattle.kit.specs.Names.{leb, eq-eqb, ne_eqb}
use Rattle.file_bytes.specs.Node.{record_of}
use Rattle.check_04_nodes.proofs.Naming.{some_child}
use Rattle.check_04_nodes.proofs.child_not_below.Goals as goal

pub returns-then-count-eq0 : goal.returns-then-count-eq0
returns-then-count-eq0 c = let args = c.args in
    rw (eq-eqb _ _ c.if-count-eq0.true) at (some_child (leb args.n) (record_of args.node) _ c.child_count-count.ensures)

pub returns : goal.returns
returns c = let args = c.args in
    rw (ne_eqb _ _ c.if-count-eq0.false) at (some_child (leb args.n) (record_of args.node) _ c.child_count-count.ensures)
