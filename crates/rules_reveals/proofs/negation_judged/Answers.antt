use Rattle.rules_reveals.proofs.negation_judged.Goals as goal

pub returns : goal.returns
returns c = cc
