use Rattle.kit.specs.Names.{refl, arith, rules}
use Rattle.write_trees.specs.Trees.{command_in}
use Rattle.write_trees.specs.Table.{table_of}
use Rattle.write_trees.proofs.Read.{read_here}
use Rattle.write_trees.proofs.ByKind.{command_assign_field, command_assign_entry, command_require, command_set_variable, command_verify, command_rest, one_falls, two_fall, set_falls, form_assign_field, form_assign_entry, form_require, form_set_variable}
use Rattle.ledger_circuits.specs.Circuits.{constraints_from}
use Rattle.walk_steps.proofs.Steps.{handed, no_sequence, no_conditional, field_ran, entry_ran, require_ran, variable_ran, verify_ran, skip_ran}
use Rattle.walk_steps.proofs.step.Goals as goal

pub read_node-node-requires : goal.read_node-node-requires
read_node-node-requires c = let (n-bound, (readable, _)) = c.requires in omega (arith, readable.few, n-bound)

pub evaluate-value-requires : goal.evaluate-value-requires
evaluate-value-requires c = let (n-bound, (readable, (field-count-bound, _))) = c.requires in
    let less = one_falls _ readable.falling _ _ (read_here _ _ n-bound _ c.read_node-node.ensures) (form_assign_field _ c.in-18.is) in
    (omega (arith, n-bound), (readable, field-count-bound))

pub assign-requires : goal.assign-requires
assign-requires c = let (_, (_, (field-count-bound, _))) = c.requires in
    field-count-bound

pub evaluate-key-requires : goal.evaluate-key-requires
evaluate-key-requires c = let (n-bound, (readable, (field-count-bound, _))) = c.requires in
    let less = two_fall _ readable.falling _ _ (read_here _ _ n-bound _ c.read_node-node.ensures) (form_assign_entry _ c.in-19.is) in
    (omega (arith, n-bound), (readable, field-count-bound))

pub evaluate-value-requires-in-19 : goal.evaluate-value-requires-in-19
evaluate-value-requires-in-19 c = let (n-bound, (readable, (field-count-bound, _))) = c.requires in
    let read-node = c.read_node-node.ensures in
    let match-keys2 = c.in-19.is in
    let less = two_fall _ readable.falling _ _ (read_here _ _ n-bound _ read-node) (form_assign_entry _ match-keys2) in
    (omega (arith, n-bound), (readable, field-count-bound))

pub assign-requires-in-19 : goal.assign-requires-in-19
assign-requires-in-19 c = let (_, (_, (field-count-bound, _))) = c.requires in
    field-count-bound

pub evaluate-condition-requires : goal.evaluate-condition-requires
evaluate-condition-requires c = let (n-bound, (readable, (field-count-bound, _))) = c.requires in
    let less = one_falls _ readable.falling _ _ (read_here _ _ n-bound _ c.read_node-node.ensures) (form_require _ c.in-20.is) in
    (omega (arith, n-bound), (readable, field-count-bound))

pub evaluate-value-requires-in-22 : goal.evaluate-value-requires-in-22
evaluate-value-requires-in-22 c = let (n-bound, (readable, (field-count-bound, _))) = c.requires in
    let less = set_falls _ readable.falling _ _ (read_here _ _ n-bound _ c.read_node-node.ensures) (form_set_variable _ c.in-22.is) in
    (omega (arith, n-bound), (readable, field-count-bound))

pub verify-requires : goal.verify-requires
verify-requires c = let (_, (readable, _)) = c.requires in readable

pub returns-in-18 : goal.returns-in-18
returns-in-18 c = let args = c.args in let (n-bound, (readable, _)) = c.requires in
    let read-node = c.read_node-node.ensures in
    let match-keys1 = c.in-18.is in
    let evaluate = c.evaluate-value in let assign = c.assign in
    field_ran args.file.now args.addresses.now args.parameters.now (constraints_from (table_of args.nodes.now) args.constraints.now) args.places.now args.variables.now (command_in (table_of args.nodes.now) args.n) _ _ _ evaluate.result assign.new.places (command_assign_field _ readable.falling _ _ (read_here _ _ n-bound _ read-node) match-keys1) evaluate.ensures assign.ensures refl

pub returns-in-19 : goal.returns-in-19
returns-in-19 c = let args = c.args in let (n-bound, (readable, _)) = c.requires in
    let read-node = c.read_node-node.ensures in
    let match-keys2 = c.in-19.is in
    let evaluate2 = c.evaluate-key in
    let evaluate3 = c.evaluate-value-in-19 in
    let number_of = c.number_of in let assign2 = c.assign-in-19 in
    entry_ran args.file.now args.addresses.now args.parameters.now (constraints_from (table_of args.nodes.now) args.constraints.now) args.places.now args.variables.now (command_in (table_of args.nodes.now) args.n) _ _ number_of.result _ _ evaluate2.result evaluate3.result assign2.new.places (command_assign_entry _ readable.falling _ _ (read_here _ _ n-bound _ read-node) match-keys2) evaluate2.ensures evaluate3.ensures number_of.ensures assign2.ensures c.both_walked.ensures

pub returns-in-20 : goal.returns-in-20
returns-in-20 c = let args = c.args in let (n-bound, (readable, _)) = c.requires in
    let read-node = c.read_node-node.ensures in let evaluate4 = c.evaluate-condition in
    require_ran args.file.now args.addresses.now args.parameters.now (constraints_from (table_of args.nodes.now) args.constraints.now) args.places.now args.variables.now (command_in (table_of args.nodes.now) args.n) _ _ evaluate4.result (command_require _ readable.falling _ _ (read_here _ _ n-bound _ read-node) c.in-20.is) evaluate4.ensures c.is_walked_true.ensures

pub returns-in-22 : goal.returns-in-22
returns-in-22 c = let args = c.args in let (n-bound, (readable, _)) = c.requires in
    let read-node = c.read_node-node.ensures in
    let match-keys4 = c.in-22.is in
    let evaluate5 = c.evaluate-value-in-22 in let put-content = c.put_content in
    variable_ran args.file.now args.addresses.now args.parameters.now (constraints_from (table_of args.nodes.now) args.constraints.now) args.places.now args.variables.now (command_in (table_of args.nodes.now) args.n) _ _ _ evaluate5.result put-content.new.flat (command_set_variable _ readable.falling _ _ (read_here _ _ n-bound _ read-node) match-keys4) evaluate5.ensures put-content.ensures refl

pub returns-in-23 : goal.returns-in-23
returns-in-23 c = let args = c.args in
    let (n-bound, (readable, _)) = c.requires in
    verify_ran args.file.now args.addresses.now args.parameters.now (constraints_from (table_of args.nodes.now) args.constraints.now) args.places.now args.variables.now (command_in (table_of args.nodes.now) args.n) _ (command_verify _ readable.falling _ _ (read_here _ _ n-bound _ c.read_node-node.ensures) c.in-23.is) c.verify.ensures

pub returns-in_default : goal.returns-in_default
returns-in_default c = let args = c.args in
    let (n-bound, (readable, (_, hands-on-is))) = c.requires in let read-node = c.read_node-node.ensures in let h = handed _ _ _ _ (read_here _ _ n-bound _ read-node) refl hands-on-is in
    skip_ran args.file.now args.addresses.now args.parameters.now (constraints_from (table_of args.nodes.now) args.constraints.now) args.places.now args.variables.now (command_in (table_of args.nodes.now) args.n) _ (command_rest _ readable.falling _ _ (read_here _ _ n-bound _ read-node) (record { sequence = no_sequence _ h; assign_field = (search rules); assign_entry = (search rules); require = (search rules); conditional = no_conditional _ h; set_variable = (search rules); verify = (search rules) })) refl
