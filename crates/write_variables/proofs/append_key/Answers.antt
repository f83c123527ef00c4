-- A supplied cell has a key.
use Rattle.write_variables.proofs.Keys.{other_taken, plain_taken, cell_room, cell_taken}
use Rattle.kit.specs.Names.{rules}
use Rattle.write_variables.proofs.append_key.Goals as goal

pub append_code-requires : goal.append_code-requires
append_code-requires c = let args = c.args in let (_, out-room) = c.requires in
    (search rules, cell_room args.table.now args.tag args.owner c.if-tag-eq-SUPPLIED_LOGGED.true c.if-owner-eq-EVERYONE_CODE_SHORT.false _ _ out-room)

pub returns-then-owner-eq-EVERYONE_CODE_SHORT : goal.returns-then-owner-eq-EVERYONE_CODE_SHORT
returns-then-owner-eq-EVERYONE_CODE_SHORT c = let args = c.args in
    plain_taken args.table.now args.tag args.owner _ _ c.if-tag-eq-SUPPLIED_LOGGED.true c.if-owner-eq-EVERYONE_CODE_SHORT.true

pub returns-else-owner-eq-EVERYONE_CODE_SHORT : goal.returns-else-owner-eq-EVERYONE_CODE_SHORT
returns-else-owner-eq-EVERYONE_CODE_SHORT c = let args = c.args in
    let if1-taken = c.if-tag-eq-SUPPLIED_LOGGED.true in
    let if2-left = c.if-owner-eq-EVERYONE_CODE_SHORT.false in
    cell_taken args.table.now args.tag args.owner if1-taken if2-left _ _ _ _ _ c.append_code.ensures

pub returns-else-tag-eq-SUPPLIED_LOGGED : goal.returns-else-tag-eq-SUPPLIED_LOGGED
returns-else-tag-eq-SUPPLIED_LOGGED c = let args = c.args in other_taken args.table.now args.tag args.owner _ _ c.if-tag-eq-SUPPLIED_LOGGED.false
