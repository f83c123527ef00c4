use Rattle.std.specs.Prelude.{◌<◌}
use Rattle.kit.specs.Names.{ap, sym, List, arith, length}
use Rattle.definitions.specs.Ledger.{Form, fits, all_fit}
use Rattle.file_accepted.proofs.Declarations.{parameters_count}
use Rattle.file_accepted.specs.Context.{parameters_in}
use Rattle.ledger_contents.specs.Contents.{contents_of}
use Rattle.ledger_18_parameters.proofs.ParameterSteps.{private_is_law, shown_forms_law, hidden_next, shown_next, shown_stops, parameters_done}
use Rattle.ledger_18_parameters.proofs.parameters_fit.Goals as goal

pub loop-k-init : goal.loop-k-init
loop-k-init c = let a = c.args in
    (omega arith, sym (ap (λ (l : List Form). all_fit fits l (contents_of a.flat.now)) (shown_forms_law a.all a.caller (parameters_in a.file.now a.function_at))))

pub loop-k-preserved-then-is_hidden : goal.loop-k-preserved-then-is_hidden
loop-k-preserved-then-is_hidden c = let a = c.args in let counted = parameters_count a.file.now a.function_at in
    let inside : c.loop-k.k < length (parameters_in a.file.now a.function_at) = omega arith in
    let private = private_is_law a.file.now a.function_at c.loop-k.k _ (omega arith) c.byte_at-owner.ensures.value in (
      omega arith,
      hidden_next a.all a.caller (parameters_in a.file.now a.function_at) c.loop-k.k inside c.byte_at-owner.result private
          (contents_of a.flat.now) c.loop-k.p _ _ c.is_hidden.ensures c.loop-k.invariant.1 c.if-is_hidden.true,
    )

pub loop-k-preserved : goal.loop-k-preserved
loop-k-preserved c = let a = c.args in let counted = parameters_count a.file.now a.function_at in
    let inside : c.loop-k.k < length (parameters_in a.file.now a.function_at) = omega arith in
    let private = private_is_law a.file.now a.function_at c.loop-k.k _ (omega arith) c.byte_at-owner.ensures.value in (
      omega arith,
      shown_next a.all a.caller (parameters_in a.file.now a.function_at) c.loop-k.k inside c.byte_at-owner.result private
          (contents_of a.flat.now) c.loop-k.p _ _ c.is_hidden.ensures c.loop-k.invariant.1 _ c.parameter_type-code.result
          c.parameter_reader-reader.result c.parameter_type-code.ensures c.parameter_reader-reader.ensures c.fits_at.ensures c.if-is_hidden.false c.if-not-fits_at.false,
    )

pub returns-then-not-fits_at : goal.returns-then-not-fits_at
returns-then-not-fits_at c = let a = c.args in let counted = parameters_count a.file.now a.function_at in
    let inside : c.loop-k.k < length (parameters_in a.file.now a.function_at) = omega arith in
    let private = private_is_law a.file.now a.function_at c.loop-k.k _ (omega arith) c.byte_at-owner.ensures.value in
    shown_stops a.all a.caller (parameters_in a.file.now a.function_at) c.loop-k.k inside c.byte_at-owner.result private
    (contents_of a.flat.now) c.loop-k.p _ _ c.is_hidden.ensures c.loop-k.invariant.1 _ c.parameter_type-code.result
    c.parameter_reader-reader.result c.parameter_type-code.ensures c.parameter_reader-reader.ensures c.fits_at.ensures c.if-is_hidden.false c.if-not-fits_at.true

pub returns : goal.returns
returns c = let a = c.args in
    let counted = parameters_count a.file.now a.function_at in
    parameters_done a.all a.caller (parameters_in a.file.now a.function_at) c.loop-k.k c.loop-k.p a.flat.now _ (omega arith) c.loop-k.invariant.1
