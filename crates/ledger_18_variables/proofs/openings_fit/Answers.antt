use Rattle.std.specs.Prelude.{◌<◌}
use Rattle.kit.specs.Names.{refl, arith, length, get_or}
use Rattle.file_accepted.proofs.Declarations.{parameters_count}
use Rattle.file_accepted.specs.Context.{parameters_in}
use Rattle.ledger_contents.specs.Contents.{contents_of}
use Rattle.ledger_18_variables.proofs.Openings.{is_public_law, is_private_law, public_next, private_next, private_stops, openings_done}
use Rattle.ledger_18_variables.proofs.openings_fit.Goals as goal

pub loop-k-init : goal.loop-k-init
loop-k-init c = (omega arith, refl)

pub loop-k-preserved-then-byte_at-eq-EVERYONE_CODE : goal.loop-k-preserved-then-byte_at-eq-EVERYONE_CODE
loop-k-preserved-then-byte_at-eq-EVERYONE_CODE c = let a = c.args in let counted = parameters_count a.file.now a.function_at in
    let inside : c.loop-k.k < length (parameters_in a.file.now a.function_at) = omega arith in
    let public = is_public_law a.file.now a.function_at c.loop-k.k _ (omega arith) c.byte_at.ensures.value c.if-byte_at-eq-EVERYONE_CODE.true in
    (omega arith, public_next (parameters_in a.file.now a.function_at) (get_or a.addresses.now 1 0) c.loop-k.k inside (contents_of a.flat.now) c.loop-k.p _ c.loop-k.invariant.1 public)

pub loop-k-preserved : goal.loop-k-preserved
loop-k-preserved c = let a = c.args in let counted = parameters_count a.file.now a.function_at in
    let inside : c.loop-k.k < length (parameters_in a.file.now a.function_at) = omega arith in
    let private = is_private_law a.file.now a.function_at c.loop-k.k _ (omega arith) c.byte_at.ensures.value c.if-byte_at-eq-EVERYONE_CODE.false in (
      omega arith,
      private_next (parameters_in a.file.now a.function_at) (get_or a.addresses.now 1 0) c.loop-k.k inside (contents_of a.flat.now) c.loop-k.p _ c.loop-k.invariant.1
          _ c.parameter_type-code.result c.code_reader-reader.result c.parameter_type-code.ensures c.code_reader-reader.ensures
          c.variable_fits_at.ensures private c.if-not-variable_fits_at.false,
    )

pub returns-then-not-variable_fits_at : goal.returns-then-not-variable_fits_at
returns-then-not-variable_fits_at c = let a = c.args in let counted = parameters_count a.file.now a.function_at in
    let inside : c.loop-k.k < length (parameters_in a.file.now a.function_at) = omega arith in
    let private = is_private_law a.file.now a.function_at c.loop-k.k _ (omega arith) c.byte_at.ensures.value c.if-byte_at-eq-EVERYONE_CODE.false in
    private_stops (parameters_in a.file.now a.function_at) (get_or a.addresses.now 1 0) c.loop-k.k inside (contents_of a.flat.now) c.loop-k.p _ c.loop-k.invariant.1
    _ c.parameter_type-code.result c.code_reader-reader.result c.parameter_type-code.ensures c.code_reader-reader.ensures
    c.variable_fits_at.ensures private c.if-not-variable_fits_at.true

pub returns : goal.returns
returns c = let a = c.args in let counted = parameters_count a.file.now a.function_at in
    openings_done (parameters_in a.file.now a.function_at) (get_or a.addresses.now 1 0) c.loop-k.k (contents_of a.flat.now) c.loop-k.p _ (omega arith) c.loop-k.invariant.1
