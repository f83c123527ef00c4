-- By the ranges of owner codes.
use Rattle.kit.specs.Names.{arith}
use Rattle.honest_variables.proofs.Codes.{place_caller, place_low, place_final, place_between, place_parameter}
use Rattle.honest_variables.proofs.address_place.Goals as goal

pub returns-then-code-eq-CALLER_CODE : goal.returns-then-code-eq-CALLER_CODE
returns-then-code-eq-CALLER_CODE c = place_caller c.args.code c.if-code-eq-CALLER_CODE.true

pub returns-then-code-lt-FINAL_CODES : goal.returns-then-code-lt-FINAL_CODES
returns-then-code-lt-FINAL_CODES c = place_low c.args.code c.requires c.if-code-eq-CALLER_CODE.false c.if-code-lt-FINAL_CODES.true

pub returns-then-code-lt-FINAL_CODES_END : goal.returns-then-code-lt-FINAL_CODES_END
returns-then-code-lt-FINAL_CODES_END c = place_final c.args.code (omega arith) (omega arith)

pub returns-then-code-lt-PARAMETER_CODES : goal.returns-then-code-lt-PARAMETER_CODES
returns-then-code-lt-PARAMETER_CODES c = place_between c.args.code (omega arith) (omega arith)

pub returns : goal.returns
returns c = place_parameter c.args.code (omega arith)
