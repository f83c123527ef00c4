use Rattle.check_03_nodes.proofs.NodesByKind.{constants}
use Rattle.check_03_nodes.proofs.constant_in_tables.Goals as goal

pub returns : goal.returns
returns c = constants c.args.arg c.args.value
