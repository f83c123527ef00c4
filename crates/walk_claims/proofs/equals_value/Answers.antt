use Rattle.walk_contents.proofs.ConstraintParts.{public_equals, owned_equals}
use Rattle.walk_claims.proofs.equals_value.Goals as goal

pub returns-then-owner-eq-EVERYONE_CODE : goal.returns-then-owner-eq-EVERYONE_CODE
returns-then-owner-eq-EVERYONE_CODE c = let args = c.args in
    public_equals args.addresses.now args.owner _ _ _ _ _ c.if-owner-eq-EVERYONE_CODE.true c.root_value-value.ensures c.content_at-content.ensures c.is_plain.ensures

pub returns-else-owner-eq-EVERYONE_CODE : goal.returns-else-owner-eq-EVERYONE_CODE
returns-else-owner-eq-EVERYONE_CODE c = let args = c.args in
    owned_equals args.addresses.now args.owner _ _ _ _ _ _ (c.address_of.ensures c.if-owner-eq-EVERYONE_CODE.false) c.root_value-value.ensures c.content_at-content.ensures c.is_cell_of.ensures
