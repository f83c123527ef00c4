use Rattle.rules_reveals.proofs.reveal_judged.Goals as goal

pub returns : goal.returns
returns c = cc
