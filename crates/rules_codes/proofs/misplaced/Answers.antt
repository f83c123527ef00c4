use Rattle.kit.specs.Names.{◌∙◌}
use Rattle.rules_codes.proofs.Codes.{put_fault}
use Rattle.rules_codes.proofs.misplaced.Goals as goal

pub returns : goal.returns
returns c = c.number_if.ensures ∙ put_fault c.args.classes.now c.args.value c.args.place _ c.may_be_put.ensures
