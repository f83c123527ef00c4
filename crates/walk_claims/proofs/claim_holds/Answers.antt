use Rattle.write_trees.specs.Table.{table_of}
use Rattle.walk_contents.proofs.ConstraintParts.{opens_claim, equals_claim}
use Rattle.walk_claims.proofs.claim_holds.Goals as goal

pub returns-then-root-eq-OPENS : goal.returns-then-root-eq-OPENS
returns-then-root-eq-OPENS c = let args = c.args in
    opens_claim args.addresses.now args.variables.now (table_of args.nodes.now) args.i args.owner args.root _ _ _ c.if-root-eq-OPENS.true c.number_at.ensures c.content_at-content.ensures c.opens_for.ensures

pub returns-else-root-eq-OPENS : goal.returns-else-root-eq-OPENS
returns-else-root-eq-OPENS c = let args = c.args in
    equals_claim args.addresses.now args.variables.now (table_of args.nodes.now) args.i args.owner args.root _ c.if-root-eq-OPENS.false c.equals_value.ensures
