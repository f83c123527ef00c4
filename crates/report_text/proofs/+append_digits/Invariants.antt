-- The digits of a number: none, one, or those of its tenth and its last.
use Rattle.report_text.proofs.+append_digits.Given as goal

abbrev pub decreases-append_digits : goal.decreases-append_digits
decreases-append_digits l = l.levels
