use Rattle.check_01_02_counts.proofs.ManyParameters.{limits}
use Rattle.check_01_02_counts.proofs.count_off_limits.Goals as goal

pub returns : goal.returns
returns c = rw (limits _ _ c.requires, c.many_parameters-many.ensures)
