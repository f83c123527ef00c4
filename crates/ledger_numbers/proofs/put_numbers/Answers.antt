use Rattle.kit.specs.Names.{refl, ap, ◌∙◌, arith}
use Rattle.ledger_numbers.proofs.Numbers.{numbers_more, numbers_done}
use Rattle.ledger_numbers.proofs.put_numbers.Goals as goal

pub loop-i-preserved : goal.loop-i-preserved
loop-i-preserved g c = λ told tells.
    numbers_more told c.args.flat.now _ _ c.loop-i.i _ c.loop-i-test.true (omega arith) (c.loop-i.invariant told tells)
    (tells _ _ c.number.ensures ∙ ap told c.content_at.ensures) refl

pub returns : goal.returns
returns g c = λ told tells.
    numbers_done told c.args.flat.now _ _ c.loop-i.i (omega arith) (omega arith) (c.loop-i.invariant told tells)
