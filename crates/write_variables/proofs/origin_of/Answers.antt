-- The five origins.
use Rattle.write_variables.proofs.Variables.{supplied_plain, supplied_cell, read_plain, read_cell, neither}
use Rattle.write_variables.proofs.origin_of.Goals as goal

pub returns-then-owner-eq-EVERYONE_CODE_SHORT : goal.returns-then-owner-eq-EVERYONE_CODE_SHORT
returns-then-owner-eq-EVERYONE_CODE_SHORT c = let args = c.args in supplied_plain args.tag args.owner c.if-tag-eq-SUPPLIED_LOGGED.true c.if-owner-eq-EVERYONE_CODE_SHORT.true

pub returns-else-owner-eq-EVERYONE_CODE_SHORT : goal.returns-else-owner-eq-EVERYONE_CODE_SHORT
returns-else-owner-eq-EVERYONE_CODE_SHORT c = let args = c.args in supplied_cell args.tag args.owner c.if-tag-eq-SUPPLIED_LOGGED.true c.if-owner-eq-EVERYONE_CODE_SHORT.false

pub returns-then-owner-eq-EVERYONE_CODE_SHORT-2 : goal.returns-then-owner-eq-EVERYONE_CODE_SHORT-2
returns-then-owner-eq-EVERYONE_CODE_SHORT-2 c = let args = c.args in
    read_plain args.tag args.owner c.if-tag-eq-SUPPLIED_LOGGED.false c.if-tag-eq-READ_LOGGED.true c.if-owner-eq-EVERYONE_CODE_SHORT-2.true

pub returns-else-owner-eq-EVERYONE_CODE_SHORT-2 : goal.returns-else-owner-eq-EVERYONE_CODE_SHORT-2
returns-else-owner-eq-EVERYONE_CODE_SHORT-2 c = let args = c.args in
    read_cell args.tag args.owner c.if-tag-eq-SUPPLIED_LOGGED.false c.if-tag-eq-READ_LOGGED.true c.if-owner-eq-EVERYONE_CODE_SHORT-2.false

pub returns-else-tag-eq-READ_LOGGED : goal.returns-else-tag-eq-READ_LOGGED
returns-else-tag-eq-READ_LOGGED c = let args = c.args in neither args.tag args.owner c.if-tag-eq-SUPPLIED_LOGGED.false c.if-tag-eq-READ_LOGGED.false
