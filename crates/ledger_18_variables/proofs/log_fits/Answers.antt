use Rattle.std.specs.Prelude.{◌≡◌, ◌+◌, ◌*◌}
use Rattle.kit.specs.Names.{refl, sym, ◌∙◌, arith}
use Rattle.ledger_contents.specs.Contents.{contents_of}
use Rattle.ledger_18_variable.proofs.Log.{none_next, entry_next, entry_stops, log_done}
use Rattle.ledger_18_variables.proofs.log_fits.Goals as goal

pub loop-e-init : goal.loop-e-init
loop-e-init c = (omega arith, refl)

pub loop-e-preserved-then-makes_none : goal.loop-e-preserved-then-makes_none
loop-e-preserved-then-makes_none c = let a = c.args in
    let next : 5 * (c.loop-e.e + 1) ≡ 5 * c.loop-e.e + 5 = omega arith in (
      omega arith,
      rw next (none_next a.function.now.file.now a.function.now.at a.addresses.now a.log.now (5 * c.loop-e.e) (omega arith) (contents_of a.flat.now) c.loop-e.p _ c.loop-e.invariant.1
          (sym c.makes_none.ensures ∙ c.if-makes_none.true)),
    )

pub loop-e-preserved : goal.loop-e-preserved
loop-e-preserved c = let a = c.args in
    let next : 5 * (c.loop-e.e + 1) ≡ 5 * c.loop-e.e + 5 = omega arith in (
      omega arith,
      rw next (entry_next a.function.now.file.now a.function.now.at a.addresses.now a.log.now (5 * c.loop-e.e) (omega arith) (contents_of a.flat.now) c.loop-e.p _ c.loop-e.invariant.1
          _ c.entry_type-code.result c.code_reader-reader.result c.entry_type-code.ensures c.code_reader-reader.ensures
          c.variable_fits_at.ensures (sym c.makes_none.ensures ∙ c.if-makes_none.false) c.if-not-variable_fits_at.false),
    )

pub returns-then-not-variable_fits_at : goal.returns-then-not-variable_fits_at
returns-then-not-variable_fits_at c = let a = c.args in
    entry_stops a.function.now.file.now a.function.now.at a.addresses.now a.log.now (5 * c.loop-e.e) (omega arith) (contents_of a.flat.now) c.loop-e.p _ c.loop-e.invariant.1
    _ c.entry_type-code.result c.code_reader-reader.result c.entry_type-code.ensures c.code_reader-reader.ensures
    c.variable_fits_at.ensures (sym c.makes_none.ensures ∙ c.if-makes_none.false) c.if-not-variable_fits_at.true

pub returns : goal.returns
returns c = let a = c.args in
    log_done a.function.now.file.now a.function.now.at a.addresses.now a.log.now (5 * c.loop-e.e) a.flat.now c.loop-e.p _ (omega arith) c.loop-e.invariant.1
