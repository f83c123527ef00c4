use Rattle.write_variable_counts.proofs.Divisions.{divides, leaves_rest, neither}
use Rattle.kit.specs.Names.{rules}
use Rattle.write_variable_counts.proofs.is_public_division.Goals as goal

pub returns-in-3 : goal.returns-in-3
returns-in-3 c = divides _ _ _ c.is_public.ensures c.in-3.is

pub returns-in-4 : goal.returns-in-4
returns-in-4 c = leaves_rest _ _ _ c.is_public-in-4.ensures c.in-4.is

pub returns-in_default : goal.returns-in_default
returns-in_default c = neither _ _ c.args.code (search rules) (search rules)
