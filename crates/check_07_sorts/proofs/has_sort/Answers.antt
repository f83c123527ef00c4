use Rattle.kit.specs.Names.{◌∙◌}
use Rattle.check_07_sorts.proofs.SortLoops.{no_sort, expression_there, statement_there}
use Rattle.check_07_sorts.proofs.has_sort.Goals as goal

pub returns-then-nodes-n : goal.returns-then-nodes-n
returns-then-nodes-n c = let args = c.args in no_sort args.nodes.now args.expression _ c.if-nodes-n.true

pub returns-then-expression : goal.returns-then-expression
returns-then-expression c = let numbers = c.args.nodes.now in
    rw c.if-expression.true (c.is_expression_kind.ensures ∙ expression_there numbers _ _
    c.if-nodes-n.false c.number_from-kind.ensures.value)

pub returns-else-expression : goal.returns-else-expression
returns-else-expression c = let numbers = c.args.nodes.now in
    rw c.if-expression.false (c.is_statement_kind.ensures ∙ statement_there numbers _ _
    c.if-nodes-n.false c.number_from-kind.ensures.value)
