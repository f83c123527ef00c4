-- A code seen is passed, and another is marked and appended.
use Rattle.kit.specs.Names.{arith}
use Rattle.write_variables.proofs.Keys.{code_seen, new_room, code_new}
use Rattle.write_variables.proofs.append_code.Goals as goal

pub append_byte-requires : goal.append_byte-requires
append_byte-requires c = let args = c.args in let (_, out-room) = c.requires in
    new_room args.table.now args.code c.if-table-i-eq1.false _ _ out-room

pub returns-then-table-i-eq1 : goal.returns-then-table-i-eq1
returns-then-table-i-eq1 c = let args = c.args in code_seen args.table.now args.code _ _ c.if-table-i-eq1.true

pub returns-else-table-i-eq1 : goal.returns-else-table-i-eq1
returns-else-table-i-eq1 c = let args = c.args in
    code_new args.table.now args.code c.if-table-i-eq1.false _ _ _ _ (omega arith) c.append_byte.ensures
