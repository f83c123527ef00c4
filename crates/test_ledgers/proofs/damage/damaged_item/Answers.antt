-- Each kind changes one item.
use Rattle.kit.specs.Names.{refl, rules}
use Rattle.test_ledgers.specs.Damage.{plain_place, cell_place, damaged_item}
use Rattle.test_ledgers.proofs.Damages.{parameter_of_law, variable_of_law, place_of, other_item}
use Rattle.test_ledgers.proofs.damage.damaged_item.Goals as goal

pub returns-in-12 : goal.returns-in-12
unfolding damaged_item
returns-in-12 c = parameter_of_law c.args.l c.args.kind 12 _ _ (plain_place 7)
    c.in-12.is c.plain.ensures c.with_parameter.ensures refl

pub returns-in-13 : goal.returns-in-13
unfolding damaged_item
returns-in-13 c = parameter_of_law c.args.l c.args.kind 13 _ _ (cell_place 4 7)
    c.in-13.is c.cell.ensures c.with_parameter-in-13.ensures refl

pub returns-in-14 : goal.returns-in-14
unfolding damaged_item
returns-in-14 c = variable_of_law c.args.l c.args.kind 14 _ _ (plain_place 7)
    c.in-14.is c.plain-in-14.ensures 1 c.with_variable.ensures refl

pub returns-in-15 : goal.returns-in-15
unfolding damaged_item
returns-in-15 c = variable_of_law c.args.l c.args.kind 15 _ _ (cell_place 3 7)
    c.in-15.is c.cell-in-15.ensures 1 c.with_variable-in-15.ensures refl

pub returns-in-16 : goal.returns-in-16
unfolding damaged_item
returns-in-16 c = variable_of_law c.args.l c.args.kind 16 _ _ (cell_place 5 7)
    c.in-16.is c.cell-in-16.ensures 2 c.with_variable-in-16.ensures refl

pub returns-in-17 : goal.returns-in-17
unfolding damaged_item
returns-in-17 c = place_of c.args.l c.args.kind 17 _ _ (plain_place 16)
    c.in-17.is c.plain-in-17.ensures 0 c.with_place.ensures refl

pub returns-in-18 : goal.returns-in-18
unfolding damaged_item
returns-in-18 c = place_of c.args.l c.args.kind 18 _ _ (cell_place 5 5)
    c.in-18.is c.cell-in-18.ensures 0 c.with_place-in-18.ensures refl

pub returns-in-19 : goal.returns-in-19
unfolding damaged_item
returns-in-19 c = place_of c.args.l c.args.kind 19 _ _ (plain_place 6)
    c.in-19.is c.plain-in-19.ensures 0 c.with_place-in-19.ensures refl

pub returns-in-20 : goal.returns-in-20
unfolding damaged_item
returns-in-20 c = place_of c.args.l c.args.kind 20 _ _ (plain_place 7)
    c.in-20.is c.plain-in-20.ensures 1 c.with_place-in-20.ensures refl

pub returns-in_default : goal.returns-in_default
returns-in_default c = other_item c.args.l c.args.kind
    (search rules) (search rules) (search rules) (search rules) (search rules) (search rules) (search rules) (search rules) (search rules) _ _
    c.cell-in_default.ensures c.with_place-in_default.ensures
