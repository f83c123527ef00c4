-- One, two or three digits.
use Rattle.kit.specs.Names.{refl, arith}
use Rattle.rehearse_lines.proofs.Decimals.{one_appended, two_appended, three_digits}
use Rattle.rehearse_lines.proofs.append_decimal.Goals as goal

pub returns-then-number-lt10 : goal.returns-then-number-lt10
returns-then-number-lt10 c = one_appended _ _ _ _ _ c.if-number-lt10.true c.append_byte.ensures

pub returns-then-tenth-lt10 : goal.returns-then-tenth-lt10
returns-then-tenth-lt10 c = let args = c.args in
    let pre = c.requires in let if1-left = c.if-number-lt10.false in
    let if2-taken = c.if-tenth-lt10.true in
    let append-byte2 = c.append_byte-next.ensures in
    two_appended args.out.now args.at pre _ _ args.number _ _ _ refl if1-left if2-taken append-byte2 c.append_byte-then-tenth-lt10.ensures

pub returns : goal.returns
returns c = let args = c.args in
    let pre = c.requires in
    let if2-left = c.if-tenth-lt10.false in
    let append-byte4 = c.append_byte-hundreds.ensures in
    let append-byte5 = c.append_byte-tens.ensures in
    three_digits args.out.now args.at pre _ _ _ args.number _ _ _ _ refl if2-left (omega arith) (omega arith) append-byte4 append-byte5 c.append_byte-2.ensures
