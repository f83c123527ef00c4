use Rattle.write_reads.proofs.put_read.Goals as goal

pub returns-then-public : goal.returns-then-public
returns-then-public c = rw c.if-public.true c.put_leaf.ensures

pub returns-else-public : goal.returns-else-public
returns-else-public c = rw c.if-public.false c.put_leaf-else-public.ensures
