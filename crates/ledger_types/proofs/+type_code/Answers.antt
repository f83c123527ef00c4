use Rattle.kit.specs.Names.{arith, rules}
use Rattle.theory_trees.proofs.ByKind.{constant_is, field_is, entry_is, parameter_is, operator_is, negation_is, reveal_is, other_is, revealed_below}
use Rattle.file_accepted.proofs.Nodes.{node_reads}
use Rattle.ledger_types.proofs.TypesByKind.{constant_typed, me_typed, place_typed, entry_typed, argument_typed, operator_typed, negation_typed, reveal_typed}
use Rattle.ledger_types.proofs.+type_code.Goals as goal

pub node_at-node-requires : goal.node_at-node-requires
node_at-node-requires t c = let context = c.args.function.now.context in (context.narrow, omega (arith, context.long))

pub field_type-requires : goal.field_type-requires
field_type-requires t c = let context = c.args.function.now.context in context.few_fields

pub field_type-requires-in-4 : goal.field_type-requires-in-4
field_type-requires-in-4 t c = let context = c.args.function.now.context in context.few_fields

pub parameter_type-requires : goal.parameter_type-requires
parameter_type-requires t c = let context = c.args.function.now.context in (context.near_function, context.few_parameters)

pub type_code-requires : goal.type_code-requires
type_code-requires t c =
    let less = revealed_below (node_reads _ _ _ c.args.function.now.context _ c.requires _ c.node_at-node.ensures.same) c.in-8.is in
    (omega arith, omega arith)

pub returns-in-1 : goal.returns-in-1
returns-in-1 t c =
    let read = node_reads _ _ _ c.args.function.now.context _ c.requires _ c.node_at-node.ensures.same in
    constant_typed _ _ _ _ (constant_is read c.in-1.is)

pub returns-in-3 : goal.returns-in-3
returns-in-3 t c =
    let read = node_reads _ _ _ c.args.function.now.context _ c.requires _ c.node_at-node.ensures.same in
    place_typed _ _ _ _ (field_is read c.in-3.is) c.field_type.ensures

pub returns-in-4 : goal.returns-in-4
returns-in-4 t c =
    let read = node_reads _ _ _ c.args.function.now.context _ c.requires _ c.node_at-node.ensures.same in
    entry_typed _ _ _ _ _ (entry_is read c.in-4.is) c.field_type-in-4.ensures

pub returns-in-5 : goal.returns-in-5
returns-in-5 t c =
    let read = node_reads _ _ _ c.args.function.now.context _ c.requires _ c.node_at-node.ensures.same in
    argument_typed _ _ _ _ (parameter_is read c.in-5.is) c.parameter_type.ensures

pub returns-in-6 : goal.returns-in-6
returns-in-6 t c =
    let read = node_reads _ _ _ c.args.function.now.context _ c.requires _ c.node_at-node.ensures.same in
    operator_typed _ _ _ _ _ _ (operator_is read c.in-6.is) c.operator_type.ensures

pub returns-in-7 : goal.returns-in-7
returns-in-7 t c =
    let read = node_reads _ _ _ c.args.function.now.context _ c.requires _ c.node_at-node.ensures.same in
    negation_typed _ _ _ (negation_is read c.in-7.is)

pub returns-in-8 : goal.returns-in-8
returns-in-8 t c =
    let read = node_reads _ _ _ c.args.function.now.context _ c.requires _ c.node_at-node.ensures.same in
    reveal_typed _ _ _ _ _ (reveal_is read c.in-8.is) c.type_code.ensures

pub returns-in_default : goal.returns-in_default
returns-in_default t c =
    let other = other_is (node_reads _ _ _ c.args.function.now.context _ c.requires _ c.node_at-node.ensures.same) in
    me_typed _ _ (other (record {
      constant = (search rules);
      field = (search rules);
      entry = (search rules);
      parameter = (search rules);
      operator = (search rules);
      negation = (search rules);
      reveal = (search rules);
    }))
