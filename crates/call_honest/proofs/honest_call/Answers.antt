-- The contents supplied, and the call made with them.
use Rattle.std.specs.Prelude.{◌*◌}
use Rattle.kit.specs.Names.{ap, sym, ◌∙◌, ℕ, arith, length-take-le, rules}
use Rattle.file_accepted.proofs.Sources.{context_with}
use Rattle.call_honest.proofs.Calling.{call_left, serial_follows, accepted, room_on, few_on, counted_on, standing_on, placed_on, made_on}
use Rattle.call_honest.proofs.honest_call.Goals as goal

pub serial_call-call-requires : goal.serial_call-call-requires
serial_call-call-requires c = call_left _ _ _ _ _ _ _ _ c.requires.0

pub decode_source-count-requires : goal.decode_source-count-requires
decode_source-count-requires c = (accepted _ _ _ _ _ _ _ _ c.requires.0, omega (arith, c.numbers_room-room.ensures.0))

pub invariant_of-checked : goal.invariant_of-checked
invariant_of-checked c =
    let room = room_on _ _ _ _ _ _ _ _ c.requires.0 _ c.function_start-function_at.ensures.value in
    record { context = context_with _ _ _ room.context c.decode_source-count.ensures.source }

pub count_private-private-requires : goal.count_private-private-requires
count_private-private-requires c = let near = c.function_start-function_at.ensures.upper_bound in
    omega (arith, few_on _ _ _ _ _ _ _ _ c.requires.0 _ c.function_start-function_at.ensures.value)

pub supply-set-requires : goal.supply-set-requires
supply-set-requires c = (
  record {
    ledger = _;
    known = placed_on _ _ _ _ _ _ _ _ c.requires.0 _ c.function_start-function_at.ensures.value _ c.count_private-private.ensures;
  },
  length-take-le _ _ (omega (arith, c.requires.1)),
  search rules,
  c.requires.2,
)

pub slice_bounds-given-end : goal.slice_bounds-given-end
slice_bounds-given-end c = omega (arith, few_on _ _ _ _ _ _ _ _ c.requires.0 _ c.function_start-function_at.ensures.value)

pub slice_bounds-call_with-end : goal.slice_bounds-call_with-end
slice_bounds-call_with-end c =
    sym (length-take-le _ _ (omega (arith, few_on _ _ _ _ _ _ _ _ c.requires.0 _ c.function_start-function_at.ensures.value)))

pub slice_bounds-call_with-end-2 : goal.slice_bounds-call_with-end-2
slice_bounds-call_with-end-2 c =
    let placed = placed_on _ _ _ _ _ _ _ _ c.requires.0 _ c.function_start-function_at.ensures.value _ c.count_private-private.ensures in
    let handed = c.supply-set.ensures _ placed (serial_follows _ _ _ _ _ _ _ _ c.requires.0 _ c.serial_call-call.ensures) in
    omega (arith, handed.variables.fits, handed.variables.size)

pub slice_bounds-call_with-end-3 : goal.slice_bounds-call_with-end-3
slice_bounds-call_with-end-3 c =
    let placed = placed_on _ _ _ _ _ _ _ _ c.requires.0 _ c.function_start-function_at.ensures.value _ c.count_private-private.ensures in
    let handed = c.supply-set.ensures _ placed (serial_follows _ _ _ _ _ _ _ _ c.requires.0 _ c.serial_call-call.ensures) in
    sym (length-take-le _ _ (omega (arith, handed.variables.fits, handed.variables.size)))

pub call_with-requires : goal.call_with-requires
call_with-requires c = let counted = counted_on _ _ _ _ _ _ _ _ c.requires.0 _ c.function_start-function_at.ensures.value in (
  room_on _ _ _ _ _ _ _ _ c.requires.0 _ c.function_start-function_at.ensures.value,
  length-take-le _ _ (omega (arith, few_on _ _ _ _ _ _ _ _ c.requires.0 _ c.function_start-function_at.ensures.value))
      ∙ ap (λ (n : ℕ). 5 * n) counted,
  c.requires.1,
)

pub returns : goal.returns
returns c = let w = c.call_with in
    let placed = placed_on _ _ _ _ _ _ _ _ c.requires.0 _ c.function_start-function_at.ensures.value _ c.count_private-private.ensures in
    let handed = c.supply-set.ensures _ placed (serial_follows _ _ _ _ _ _ _ _ c.requires.0 _ c.serial_call-call.ensures) in
    made_on _ _ _ _ _ _ _ _ c.requires.0 _ _ _ _ _ _ _ handed (search rules) w.auto.variables
    (w.ensures _ _ (standing_on _ _ _ _ _ _ _ _ c.requires.0 _ c.function_start-function_at.ensures.value))
