use Rattle.kit.specs.Names.{not, eqb}
use Rattle.rules_codes.proofs.Codes.{caller_listed}
use Rattle.rules_judgements.proofs.parameter_judged.Goals as goal

pub unread-requires : goal.unread-requires
unread-requires c = rw c.given_if-owner.ensures (record { enough = c.requires.1; there = caller_listed _ c.requires.1 (not (eqb c.args.p.owner 0)) })

pub returns : goal.returns
returns c = cc
