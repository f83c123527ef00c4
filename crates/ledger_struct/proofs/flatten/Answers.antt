use Rattle.std.specs.Prelude.{◌≡◌}
use Rattle.kit.specs.Names.{arith, length, length-take-le, rules}
use Rattle.ledger_struct.proofs.Flat.{unmapped, flatten_next, flatten_done}
use Rattle.ledger_struct.proofs.flatten.Goals as goal

pub loop-i-preserved : goal.loop-i-preserved
loop-i-preserved g c =
    let n : length c.args.places ≡ g.row.N = search (unmapped, rules) in
    let many = length-take-le c.min.result c.args.places (omega arith) in
    flatten_next _ _ _ _ _ c.loop-i-test.true (omega arith) c.put_content.ensures c.loop-i.invariant

pub returns : goal.returns
returns g c =
    let n : length c.args.places ≡ g.row.N = search (unmapped, rules) in
    flatten_done c.args.places c.args.count c.min.result c.loop-i.i _ (omega arith) (omega arith) c.loop-i-test.false c.loop-i.invariant
