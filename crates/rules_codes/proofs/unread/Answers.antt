use Rattle.kit.specs.Names.{◌∙◌}
use Rattle.rules_codes.proofs.Codes.{read_fault_law}
use Rattle.rules_codes.proofs.unread.Goals as goal

pub returns : goal.returns
returns c = c.number_if.ensures ∙ read_fault_law c.args.classes.now c.args.owner 1 _ c.may_be_put.ensures
