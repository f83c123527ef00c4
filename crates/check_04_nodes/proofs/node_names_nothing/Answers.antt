use Rattle.check_04_nodes.proofs.node_names_nothing.Goals as goal

pub returns : goal.returns
returns c = rw (← c.arg_names_nothing.ensures, ← c.child_not_below.ensures)
