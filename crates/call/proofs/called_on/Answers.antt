-- A refused call, and one that is made.
use Rattle.kit.specs.Names.{sym, ◌∙◌, arith, length-take-le, rules}
use Rattle.check_refusals.proofs.Refusals.{refuses, accepts}
use Rattle.call.proofs.Answers.{refused, taken, call_left, number_of, made_of}
use Rattle.call.proofs.Together.{together}
use Rattle.call.proofs.called_on.Goals as goal

pub returns-then-is_refused : goal.returns-then-is_refused
returns-then-is_refused c = refused _ _ _ _ _ (number_of _ _ _ _ _ c.requires.0 _ c.call_number-number.ensures) (refuses _ _ c.is_refused.ensures c.if-is_refused.true)

pub honest_call-made-requires : goal.honest_call-made-requires
honest_call-made-requires c = (sym c.call_number-number.ensures ∙ accepts _ _ c.is_refused.ensures c.if-is_refused.false, c.requires.2, search rules)

pub slice_bounds-after_call-end : goal.slice_bounds-after_call-end
slice_bounds-after_call-end c = sym (length-take-le _ _ c.honest_call-made.ensures.fits)

pub after_call-after-requires : goal.after_call-after-requires
after_call-after-requires c = let h = c.honest_call-made in (
  call_left _ _ _ _ (sym (number_of _ _ _ _ _ c.requires.0 _ c.call_number-number.ensures) ∙ accepts _ _ c.is_refused.ensures c.if-is_refused.false),
  omega (arith, length-take-le h.result.variables h.new.supplied h.ensures.fits, h.ensures.fits, h.auto.supplied),
  omega (arith, h.auto.places, c.requires.2),
)

pub returns : goal.returns
returns c = taken _ _ _ _ _ (number_of _ _ _ _ _ c.requires.0 _ c.call_number-number.ensures) (accepts _ _ c.is_refused.ensures c.if-is_refused.false) _
    (rw c.after_call-after.ensures (together _ _ _ _ _ _ _ (made_of _ _ _ _ _ c.requires.0 _ _ _ c.honest_call-made.ensures)))
