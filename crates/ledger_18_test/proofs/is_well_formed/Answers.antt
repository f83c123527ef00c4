-- A ledger whose file is refused is refused; then the places are tested, then the last call.
use Rattle.std.specs.Prelude.{◌≡◌}
use Rattle.kit.specs.Names.{sym, ◌∙◌, ne_eqb}
use Rattle.check_refusals.proofs.Refusals.{refuses, accepts}
use Rattle.definitions.specs.Ledger.{is_well_formed}
use Rattle.definitions.specs.Numbers.{check_number}
use Rattle.ledger_contents.specs.Contents.{contents_of}
use Rattle.ledger_struct.specs.Ledgers.{ledger_from}
use Rattle.ledger_18_parts.proofs.Files.{fields_few}
use Rattle.ledger_18_parts.proofs.Flats.{numbers_long}
use Rattle.ledger_18_parts.proofs.WellFormedParts.{well_is}
use Rattle.ledger_18_test.proofs.is_well_formed.Goals as goal

pub returns-then-is_refused : goal.returns-then-is_refused
unfolding ledger_from is_well_formed
returns-then-is_refused c = rw (← c.check.ensures, ne_eqb c.check.result 0 (refuses _ _ c.is_refused.ensures c.if-is_refused.true))

pub slice_bounds-places_fit-end : goal.slice_bounds-places_fit-end
slice_bounds-places_fit-end c = sym (numbers_long _ _ _ c.plain_numbers.ensures)

pub places_fit-requires : goal.places_fit-requires
places_fit-requires c = fields_few _ (sym c.check.ensures ∙ accepts _ _ c.is_refused.ensures c.if-is_refused.false)

pub returns-then-is_before_calls : goal.returns-then-is_before_calls
unfolding ledger_from
returns-then-is_before_calls c =
    let a = c.args in
    let accepted : check_number a.file.now ≡ 0 = sym c.check.ensures ∙ accepts _ _ c.is_refused.ensures c.if-is_refused.false in
    sym
    (well_is (ledger_from a.file.now a.last a.parameters.now a.variables.now (contents_of a.places.now)) _ c.plain_numbers.ensures.first accepted _ c.places_fit.ensures
    ∙ rw (c.if-places_fit.true, ← c.is_before_calls.ensures, c.if-is_before_calls.true))

pub slice_bounds-is_after_call-end : goal.slice_bounds-is_after_call-end
slice_bounds-is_after_call-end c = sym (numbers_long _ _ _ c.plain_numbers.ensures)

pub is_after_call-requires : goal.is_after_call-requires
is_after_call-requires c = (sym c.check.ensures ∙ accepts _ _ c.is_refused.ensures c.if-is_refused.false, c.requires.0)

pub returns-else-is_before_calls : goal.returns-else-is_before_calls
unfolding ledger_from
returns-else-is_before_calls c =
    let a = c.args in
    let accepted : check_number a.file.now ≡ 0 = sym c.check.ensures ∙ accepts _ _ c.is_refused.ensures c.if-is_refused.false in
    sym
    (well_is (ledger_from a.file.now a.last a.parameters.now a.variables.now (contents_of a.places.now)) _ c.plain_numbers.ensures.first accepted _ c.places_fit.ensures
    ∙ rw (c.if-places_fit.true, ← c.is_before_calls.ensures, c.if-is_before_calls.false, ← c.is_after_call.ensures _ c.plain_numbers.ensures.first))

pub returns-else-places_fit : goal.returns-else-places_fit
unfolding ledger_from
returns-else-places_fit c =
    let a = c.args in
    let accepted : check_number a.file.now ≡ 0 = sym c.check.ensures ∙ accepts _ _ c.is_refused.ensures c.if-is_refused.false in
    sym
    (well_is (ledger_from a.file.now a.last a.parameters.now a.variables.now (contents_of a.places.now)) _ c.plain_numbers.ensures.first accepted _ c.places_fit.ensures
    ∙ rw c.if-places_fit.false)
