use Rattle.kit.specs.Names.{arith}
use Rattle.report_text.proofs.Digits.{one_room, front_room, last_room, none_appended, one_appended, more_appended}
use Rattle.report_text.proofs.+append_digits.Goals as goal

pub append_byte-requires : goal.append_byte-requires
append_byte-requires t c = let out-room = c.requires in one_room _ _ _ (omega arith) _ (omega arith) out-room

pub append_digits-next-requires : goal.append_digits-next-requires
append_digits-next-requires t c = let out-room = c.requires in
    let room = front_room _ _ _ (omega arith) _ (omega arith) out-room in (omega arith, omega arith)

pub append_byte-requires-else-number-lt10 : goal.append_byte-requires-else-number-lt10
append_byte-requires-else-number-lt10 t c = let out-room = c.requires in
    last_room _ _ _ (omega arith) _ _ _ (omega arith) out-room c.append_digits-next.ensures

pub returns-then-levels-eq0 : goal.returns-then-levels-eq0
returns-then-levels-eq0 t c = none_appended _ _ _ _ c.if-levels-eq0.true

pub returns-then-number-lt10 : goal.returns-then-number-lt10
returns-then-number-lt10 t c = one_appended _ _ _ (omega arith) _ _ _ (omega arith) c.append_byte.ensures

pub returns-else-number-lt10 : goal.returns-else-number-lt10
returns-else-number-lt10 t c = let out-room = c.requires in
    let append-digits-2 = c.append_digits-next.ensures in
    more_appended _ _ _ (omega arith) _ _ _ _ _ (omega arith) out-room append-digits-2 c.append_byte-else-number-lt10.ensures
