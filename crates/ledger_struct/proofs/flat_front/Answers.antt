-- The front of the buffer holds the contents.
use Rattle.kit.specs.Names.{sym, rules}
use Rattle.ledger_struct.proofs.Flat.{front_long, front_due, flat_put}
use Rattle.ledger_struct.proofs.flat_front.Goals as goal

pub slice_bounds-flatten-end-2 : goal.slice_bounds-flatten-end-2
slice_bounds-flatten-end-2 g c = sym (front_long _ _ g.row.N c.args.flat.now c.min-size.ensures c.requires)

pub flatten-requires : goal.flatten-requires
flatten-requires g c = (search rules, front_due _ _ g.row.N c.args.flat.now c.min-size.ensures c.requires)

pub returns : goal.returns
returns g c = flat_put _ c.args.count g.row.N c.args.flat.now c.min-size.ensures c.requires _ c.flatten.new.flat c.flatten.auto.flat c.flatten.ensures
