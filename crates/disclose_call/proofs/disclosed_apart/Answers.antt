-- The number of the call, then the party, then the room: behind the refusals the call is not refused, there is such a party, and the values are few.
use Rattle.kit.specs.Names.{refl, sym, ◌∙◌, arith, length-take-le}
use Rattle.check_refusals.proofs.Refusals.{refuses, accepts}
use Rattle.disclose_output.proofs.Refusals.{number_clear, party_low}
use Rattle.disclose_call.proofs.Bodies.{disclosed_few}
use Rattle.disclose_call.proofs.Requests.{values_front, request_refused, request_handed}
use Rattle.disclose_call.proofs.disclosed_apart.Goals as goal

pub returns-then-is_refused : goal.returns-then-is_refused
returns-then-is_refused c = request_refused _ _ _ _ _ _ c.call_number.result _ _ c.call_number.ensures c.refusal-number.ensures
    (refuses c.refusal-number.result _ c.is_refused.ensures c.if-is_refused.true) refl refl

pub slice_bounds-disclose_on-end : goal.slice_bounds-disclose_on-end
slice_bounds-disclose_on-end c = sym (length-take-le _ _ (omega (arith, c.requires.1)))

pub disclose_on-count-requires : goal.disclose_on-count-requires
disclose_on-count-requires c = ((sym c.call_number.ensures ∙ number_clear c.call_number.result c.args.question.party _ c.refusal-number.ensures (accepts _ _ c.is_refused.ensures c.if-is_refused.false)), length-take-le _ _ (omega (arith, c.requires.1)), omega arith)

pub slice_bounds-values-end : goal.slice_bounds-values-end
slice_bounds-values-end c = omega (arith, disclosed_few _ _ _ _ c.args.question.party (sym c.call_number.ensures ∙ number_clear c.call_number.result c.args.question.party _ c.refusal-number.ensures (accepts _ _ c.is_refused.ensures c.if-is_refused.false)), c.disclose_on-count.ensures.place)

pub slice_bounds-hand_over-end : goal.slice_bounds-hand_over-end
slice_bounds-hand_over-end c = sym (length-take-le _ _ (omega (arith, disclosed_few _ _ _ _ c.args.question.party (sym c.call_number.ensures ∙ number_clear c.call_number.result c.args.question.party _ c.refusal-number.ensures (accepts _ _ c.is_refused.ensures c.if-is_refused.false)), c.disclose_on-count.ensures.place)))

pub returns : goal.returns
returns c = request_handed _ _ _ _ c.args.question.party _ (sym c.call_number.ensures ∙ number_clear c.call_number.result c.args.question.party _ c.refusal-number.ensures (accepts _ _ c.is_refused.ensures c.if-is_refused.false)) (party_low c.call_number.result c.args.question.party _ c.refusal-number.ensures (accepts _ _ c.is_refused.ensures c.if-is_refused.false)) _ _ _
    (values_front _ _ _ _ c.disclose_on-count.ensures) c.hand_over.ensures
