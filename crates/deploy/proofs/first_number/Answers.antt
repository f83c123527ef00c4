-- The second number counts where the first is 0.
use Rattle.deploy_17_addresses.proofs.Addresses.{second_number, first_number}
use Rattle.deploy.proofs.first_number.Goals as goal

pub returns-then-first-eq0 : goal.returns-then-first-eq0
returns-then-first-eq0 c = second_number _ _ c.if-first-eq0.true

pub returns-else-first-eq0 : goal.returns-else-first-eq0
returns-else-first-eq0 c = first_number _ _ c.if-first-eq0.false
