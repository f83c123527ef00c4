use Rattle.kit.specs.Names.{◌∙◌, rules}
use Rattle.definitions.specs.ContractFile.{kind_of, node_of_kind, expression_parts}
use Rattle.file_children.specs.Children.{expression_count}
use Rattle.file_children.proofs.Children.{expressions_else}
use Rattle.file_children.proofs.expression_count.Goals as goal

pub child_count-requires : goal.child_count-requires
unfolding expression_count kind_of node_of_kind expression_parts
child_count-requires c = search rules

pub returns-then-kind-eq-SEQUENCE : goal.returns-then-kind-eq-SEQUENCE
unfolding expression_count kind_of node_of_kind expression_parts
returns-then-kind-eq-SEQUENCE c = rw c.if-kind-eq-SEQUENCE.true

pub returns-then-kind-eq-IF : goal.returns-then-kind-eq-IF
unfolding expression_count kind_of node_of_kind expression_parts
returns-then-kind-eq-IF c = rw c.if-kind-eq-IF.true

pub returns-else-kind-eq-IF : goal.returns-else-kind-eq-IF
unfolding expression_count kind_of node_of_kind expression_parts
returns-else-kind-eq-IF c = c.child_count.ensures ∙ expressions_else _ c.if-kind-eq-SEQUENCE.false c.if-kind-eq-IF.false
