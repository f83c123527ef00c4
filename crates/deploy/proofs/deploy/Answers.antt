-- A deployment of number 0 is of an accepted file, whose ledger has room.
use Rattle.kit.specs.Names.{arith}
use Rattle.deploy.proofs.Bounds.{accepted_fields, accepted_length, deployed_accepted}
use Rattle.deploy.proofs.Answers.{refused_is, accepted_is}
use Rattle.deploy.proofs.deploy.Goals as goal

pub returns-then-number-gt0 : goal.returns-then-number-gt0
returns-then-number-gt0 c = refused_is _ _ _ c.deploy_number-number.ensures _ c.if-number-gt0.true c.refused.ensures

pub deployed-ledger-requires : goal.deployed-ledger-requires
deployed-ledger-requires c = let accepted = deployed_accepted _ _ _ c.deploy_number-number.ensures (omega arith) in (accepted_fields _ accepted, accepted_length _ accepted)

pub returns : goal.returns
returns c = accepted_is _ _ _ c.deploy_number-number.ensures _ (omega arith) c.deployed-ledger.ensures
