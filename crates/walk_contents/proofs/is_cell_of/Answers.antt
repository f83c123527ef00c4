use Rattle.walk_contents.proofs.is_cell_of.Goals as goal

pub returns-in-Cell : goal.returns-in-Cell
returns-in-Cell c = rw c.in-Cell.is c.cell_matches.ensures
