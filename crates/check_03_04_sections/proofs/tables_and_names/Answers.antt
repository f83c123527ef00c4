use Rattle.check_03_04_sections.proofs.Order.{first_of_two}
use Rattle.check_03_04_sections.proofs.tables_and_names.Goals as goal

pub returns-then-of_fields-of_functions : goal.returns-then-of_fields-of_functions
returns-then-of_fields-of_functions c = let args = c.args in rw c.if-of_fields-of_functions.true at
    (first_of_two args.sections.now.fields.now args.sections.now.functions.now args.sections.now.parameters.now args.sections.now.nodes.now _ _ _ _ _ _
    c.note_fields-of_fields.ensures c.note_functions-of_functions.ensures c.note_nodes-of_nodes.ensures)

pub returns-then-of_fields-of_functions-2 : goal.returns-then-of_fields-of_functions-2
returns-then-of_fields-of_functions-2 c = let args = c.args in rw (c.if-of_fields-of_functions.false, c.if-of_fields-of_functions-2.true) at
    (first_of_two args.sections.now.fields.now args.sections.now.functions.now args.sections.now.parameters.now args.sections.now.nodes.now _ _ _ _ _ _
    c.note_fields-of_fields.ensures c.note_functions-of_functions.ensures c.note_nodes-of_nodes.ensures)

pub returns : goal.returns
returns c = let args = c.args in rw (c.if-of_fields-of_functions.false, c.if-of_fields-of_functions-2.false) at
    (first_of_two args.sections.now.fields.now args.sections.now.functions.now args.sections.now.parameters.now args.sections.now.nodes.now _ _ _ _ _ _
    c.note_fields-of_fields.ensures c.note_functions-of_functions.ensures c.note_nodes-of_nodes.ensures)
