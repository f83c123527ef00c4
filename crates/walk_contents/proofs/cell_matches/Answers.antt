use Rattle.kit.specs.Names.{refl}
use Rattle.walk_contents.proofs.ConstraintParts.{cell_same, cell_differs}
use Rattle.walk_contents.proofs.cell_matches.Goals as goal

pub returns-then-cell-address : goal.returns-then-cell-address
returns-then-cell-address c = let args = c.args in
    cell_same args.cell.owner args.address args.cell.value args.value _ c.if-cell-address.true refl

pub returns-else-cell-address : goal.returns-else-cell-address
returns-else-cell-address c = let args = c.args in cell_differs args.cell.owner args.address args.cell.value args.value c.if-cell-address.false
