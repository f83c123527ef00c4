-- A digit below ten and one above.
use Rattle.rehearse_lines.proofs.Hex.{low_digit, high_digit}
use Rattle.rehearse_lines.proofs.hex_digit.Goals as goal

pub returns-then-n-lt10 : goal.returns-then-n-lt10
returns-then-n-lt10 c = low_digit _ c.if-n-lt10.true

pub returns-else-n-lt10 : goal.returns-else-n-lt10
returns-else-n-lt10 c = high_digit _ c.if-n-lt10.false
