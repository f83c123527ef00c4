-- By the ranges of owner codes.
use Rattle.kit.specs.Names.{refl, arith}
use Rattle.ledger_addresses.proofs.AddressesByCode.{code_caller, code_low, code_final, code_between, code_parameter, code_high}
use Rattle.ledger_addresses.proofs.address_of_code.Goals as goal

pub returns-then-code-eq-CALLER_CODE : goal.returns-then-code-eq-CALLER_CODE
returns-then-code-eq-CALLER_CODE c = let args = c.args in
    code_caller args.file.now args.function_at args.caller args.arguments.now args.places.now args.code c.if-code-eq-CALLER_CODE.true

pub returns-then-code-lt-FINAL_CODES : goal.returns-then-code-lt-FINAL_CODES
returns-then-code-lt-FINAL_CODES c = let args = c.args in
    code_low args.file.now args.function_at args.caller args.arguments.now args.places.now args.code c.if-code-eq-CALLER_CODE.false c.if-code-lt-FINAL_CODES.true

pub returns-then-code-lt-FINAL_CODES_END : goal.returns-then-code-lt-FINAL_CODES_END
returns-then-code-lt-FINAL_CODES_END c = let args = c.args in
    code_final args.file.now args.function_at args.caller args.arguments.now args.places.now args.code _ _ (omega arith) (omega arith) refl c.final_address.ensures

pub returns-then-code-lt-PARAMETER_CODES : goal.returns-then-code-lt-PARAMETER_CODES
returns-then-code-lt-PARAMETER_CODES c = let args = c.args in
    code_between args.file.now args.function_at args.caller args.arguments.now args.places.now args.code (omega arith) (omega arith)

pub returns-then-code-lt-PARAMETER_CODES_END : goal.returns-then-code-lt-PARAMETER_CODES_END
returns-then-code-lt-PARAMETER_CODES_END c = let args = c.args in
    code_parameter args.file.now args.function_at args.caller args.arguments.now args.places.now args.code _ _ (omega arith) (omega arith) refl c.parameter_address.ensures

pub returns : goal.returns
returns c = let args = c.args in
    code_high args.file.now args.function_at args.caller args.arguments.now args.places.now args.code (omega arith)
