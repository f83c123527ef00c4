-- By cases of the content.
use Rattle.ledger_18_forms.proofs.is_plain_zero.Goals as goal

pub returns-in-Plain : goal.returns-in-Plain
returns-in-Plain c = rw c.in-Plain.is
