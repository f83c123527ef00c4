use Rattle.kit.specs.Names.{refl, arith, rules}
use Rattle.walk_function_nodes.proofs.Openings.{openings_none, openings_next, openings_done}
use Rattle.walk_function_nodes.proofs.put_openings.Goals as goal

pub loop-i-init : goal.loop-i-init
loop-i-init c = (refl, openings_none c.args.numbers.now)

pub loop-i-preserved : goal.loop-i-preserved
loop-i-preserved c = (search rules, openings_next _ _ _ _ (omega arith) c.loop-i.invariant.1 c.put_four.ensures)

pub returns : goal.returns
returns c = openings_done _ _ _ _ (omega arith) (omega arith) c.loop-i.invariant.1
