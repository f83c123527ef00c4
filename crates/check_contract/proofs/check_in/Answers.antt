-- Numbers 1 and 2, then 3 to 15 of the decoded file.
use Rattle.kit.specs.Names.{sym, ◌∙◌, arith, rules}
use Rattle.definitions.specs.Basics.{first_that_holds}
use Rattle.definitions.specs.Numbers.{check_number}
use Rattle.check_contract.specs.Decoding.{Counted}
use Rattle.check_contract.proofs.Limits.{counted_limits}
use Rattle.check_contract.proofs.Order.{check_after_counts}
use Rattle.check_contract.proofs.check_in.Goals as goal

pub ends_wrongly-requires : goal.ends_wrongly-requires
unfolding check_number first_that_holds
ends_wrongly-requires c = search rules

pub returns-then-ends_wrongly : goal.returns-then-ends_wrongly
unfolding check_number first_that_holds
returns-then-ends_wrongly c = (rw (← c.ends_wrongly.ensures, c.if-ends_wrongly.true), λ h. absurd (omega arith))

pub count_off_limits-requires : goal.count_off_limits-requires
unfolding check_number first_that_holds
count_off_limits-requires c = search rules

pub returns-then-count_off_limits : goal.returns-then-count_off_limits
unfolding check_number first_that_holds
returns-then-count_off_limits c = (rw (← c.ends_wrongly.ensures, c.if-ends_wrongly.false, ← c.count_off_limits.ensures, c.if-count_off_limits.true), λ h. absurd (omega arith))

pub number_in_room-requires : goal.number_in_room-requires
unfolding check_number first_that_holds
number_in_room-requires c = let ends = sym c.ends_wrongly.ensures ∙ c.if-ends_wrongly.false in
    let counts = sym c.count_off_limits.ensures ∙ c.if-count_off_limits.false in
    let counted : Counted c.args.file.now c.args.l = record { layout = c.requires.0; ends = ends; counts = counts } in
    let few = (counted_limits _ _ counted).nodes in (counted, c.requires.1.for_nodes few, c.requires.1.for_owners few)

pub returns : goal.returns
unfolding check_number first_that_holds
returns c = let ends = sym c.ends_wrongly.ensures ∙ c.if-ends_wrongly.false in
    let counts = sym c.count_off_limits.ensures ∙ c.if-count_off_limits.false in
    let number = c.number_in_room.ensures in
    (number.0 ∙ sym (check_after_counts _ ends counts), λ h. number.1)
