-- The first two of the five sentences, then the other three.
use Rattle.file_decoded.specs.Sections.{sections_held}
use Rattle.check_06_depth.proofs.Loops.{children_below}
use Rattle.check_03_to_07.proofs.Shape.{first_two, names_settled, last_three}
use Rattle.check_03_to_07.proofs.sections_number.Goals as goal

pub tables_and_names-number-requires : goal.tables_and_names-number-requires
tables_and_names-number-requires c = c.requires.inside

pub returns-then-number-ne0 : goal.returns-then-number-ne0
returns-then-number-ne0 c = let args = c.args in
    first_two (sections_held c.args.sections.now) _ c.tables_and_names-number.ensures c.if-number-ne0.true

pub uses_depth_sorts-requires : goal.uses_depth_sorts-requires
uses_depth_sorts-requires c = let args = c.args in
    let all = sections_held c.args.sections.now in
    (c.requires.shaped, children_below all (names_settled all _ c.tables_and_names-number.ensures c.if-number-ne0.false))

pub returns : goal.returns
returns c = let args = c.args in
    last_three (sections_held c.args.sections.now) _ c.tables_and_names-number.ensures
    c.if-number-ne0.false _ (c.uses_depth_sorts.ensures args.sections.now.fields.now args.sections.now.parameters.now)
