-- The contract is deployed and called, and the ledger handed on.
use Rattle.kit.specs.Names.{rules}
use Rattle.test_ledgers.proofs.Damages.{wrong_on}
use Rattle.test_ledgers.proofs.damage.wrong.Goals as goal

pub returns : goal.returns
returns c = wrong_on _ _ _ _ c.deploy-deployed.ensures c.call-called.ensures c.wrong_answers.ensures
