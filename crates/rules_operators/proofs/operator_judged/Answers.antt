use Rattle.rules_operators.proofs.operator_judged.Goals as goal

pub returns : goal.returns
returns c = cc
