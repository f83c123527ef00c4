-- The number, the length, then the bytes.
use Rattle.test_programs.proofs.Outputs.{other_number, other_length, held_answer}
use Rattle.test_programs.proofs.files.is_answer.Goals as goal

pub returns-then-number-due : goal.returns-then-number-due
returns-then-number-due c = other_number _ _ _ _ _ c.if-number-due.true

pub returns-then-length-bytes : goal.returns-then-length-bytes
returns-then-length-bytes c = other_length _ _ _ _ _ c.if-number-due.false c.if-length-bytes.true

pub returns : goal.returns
returns c = held_answer _ _ _ _ _ _ c.if-number-due.false c.if-length-bytes.false c.holds.ensures
