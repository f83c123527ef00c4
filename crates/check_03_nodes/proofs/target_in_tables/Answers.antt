use Rattle.check_03_nodes.proofs.target_in_tables.Goals as goal

pub returns : goal.returns
returns c = rw (← c.is_final_code.ensures)
