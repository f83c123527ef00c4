use Rattle.definitions.specs.Numbers.{ends_wrongly}
use Rattle.check_01_02_counts.proofs.ends_wrongly.Goals as goal

pub returns : goal.returns
unfolding ends_wrongly
returns c = let is = c.requires in rw (is.nodes_start, is.nodes)
