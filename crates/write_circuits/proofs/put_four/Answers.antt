-- Four numbers, one behind another.
use Rattle.write_circuits.proofs.Fours.{four_stored}
use Rattle.write_circuits.proofs.put_four.Goals as goal

pub returns : goal.returns
returns c = let pre = c.requires in
    let put-number = c.put_number.ensures in
    let put-number2 = c.put_number-2.ensures in
    let put-number3 = c.put_number-3.ensures in
    four_stored _ _ _ _ _ _ _ _ _ _ pre put-number put-number2 put-number3 c.put_number-4.ensures
