use Rattle.deploy_ledger.proofs.Numbers.{zeros_behind}
use Rattle.deploy_ledger.proofs.copied.Goals as goal

pub returns : goal.returns
returns c = zeros_behind 4596 c.args.file.now _ c.copy_from_slice.ensures.after
