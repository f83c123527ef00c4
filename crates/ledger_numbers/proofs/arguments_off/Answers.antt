use Rattle.kit.specs.Names.{refl, sym, ◌∙◌, arith}
use Rattle.file_accepted.proofs.Declarations.{parameters_count}
use Rattle.file_accepted.specs.Context.{parameters_in}
use Rattle.ledger_numbers.proofs.Arguments.{typed, off_count, off_types, off_none, off_next, off_found}
use Rattle.ledger_numbers.proofs.arguments_off.Goals as goal

pub returns-then-arguments-byte_at : goal.returns-then-arguments-byte_at
returns-then-arguments-byte_at c = let args = c.args in
    off_count (parameters_in args.file.now args.function_at) args.arguments.now
    (λ e. c.if-arguments-byte_at.true (e ∙ parameters_count args.file.now args.function_at ∙ sym c.byte_at.ensures.value))

pub loop-k-preserved : goal.loop-k-preserved
loop-k-preserved c = let args = c.args in
    let counted = parameters_count args.file.now args.function_at in
    off_next (parameters_in args.file.now args.function_at) args.arguments.now c.loop-k.k (omega arith) c.loop-k-test.true _ c.loop-k.invariant _
    (typed args.file.now args.arguments.now args.function_at c.loop-k.k _ _ _ (omega arith) c.byte_at-code.ensures.value refl c.is_of_type.ensures)
    c.if-not-is_of_type.false

pub returns-then-not-is_of_type : goal.returns-then-not-is_of_type
returns-then-not-is_of_type c = let args = c.args in
    let counted = parameters_count args.file.now args.function_at in
    off_types (parameters_in args.file.now args.function_at) args.arguments.now (omega arith) _
    (off_found (parameters_in args.file.now args.function_at) args.arguments.now c.loop-k.k (omega arith) c.loop-k-test.true _ c.loop-k.invariant _
    (typed args.file.now args.arguments.now args.function_at c.loop-k.k _ _ _ (omega arith) c.byte_at-code.ensures.value refl c.is_of_type.ensures)
    c.if-not-is_of_type.true)

pub returns : goal.returns
returns c = let args = c.args in
    let counted = parameters_count args.file.now args.function_at in
    off_types (parameters_in args.file.now args.function_at) args.arguments.now (omega arith) _
    (off_none (parameters_in args.file.now args.function_at) args.arguments.now c.loop-k.k _ (omega arith) c.loop-k.invariant)
