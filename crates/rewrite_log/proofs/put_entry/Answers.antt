-- Five numbers are stored one after another.
use Rattle.kit.specs.Names.{arith}
use Rattle.rewrite_log.proofs.FiveNumbers.{five_stored}
use Rattle.rewrite_log.proofs.put_entry.Goals as goal

pub overflow_cast-entry-5 : goal.overflow_cast-entry-5
overflow_cast-entry-5 c = let (_, small-entry) = c.requires in
    omega (arith, small-entry.last)

pub returns : goal.returns
returns c = let (log_room, _) = c.requires in
    let put-number = c.put_number.ensures in
    let put-number2 = c.put_number-2.ensures in
    let put-number3 = c.put_number-3.ensures in
    let put-number4 = c.put_number-4.ensures in
    five_stored _ _ _ _ _ _ _ _ _ _ _ _ log_room put-number put-number2 put-number3 put-number4 c.put_number-5.ensures
