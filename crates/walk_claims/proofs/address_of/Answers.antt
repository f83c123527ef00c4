use Rattle.walk_contents.proofs.ConstraintParts.{me_address, low_address, final_address_law, middle_address, high_address}
use Rattle.walk_claims.proofs.address_of.Goals as goal

pub returns-then-code-eq-CALLER_CODE : goal.returns-then-code-eq-CALLER_CODE
returns-then-code-eq-CALLER_CODE c = let args = c.args in
    λ z. me_address args.addresses.now args.code _ c.if-code-eq-CALLER_CODE.true c.number_at.ensures

pub returns-then-code-lt-FINAL_CODES : goal.returns-then-code-lt-FINAL_CODES
returns-then-code-lt-FINAL_CODES c = let args = c.args in
    λ z. low_address args.addresses.now args.code _ z c.if-code-eq-CALLER_CODE.false c.if-code-lt-FINAL_CODES.true c.number_at-then-code-lt-FINAL_CODES.ensures

pub returns-then-code-lt-FINAL_CODES_END : goal.returns-then-code-lt-FINAL_CODES_END
returns-then-code-lt-FINAL_CODES_END c = let args = c.args in
    λ z. final_address_law args.addresses.now args.code _ c.if-code-lt-FINAL_CODES.false c.if-code-lt-FINAL_CODES_END.true c.number_at-then-code-lt-FINAL_CODES_END.ensures

pub returns-then-code-lt-PARAMETER_CODES : goal.returns-then-code-lt-PARAMETER_CODES
returns-then-code-lt-PARAMETER_CODES c = let args = c.args in
    λ z. middle_address args.addresses.now args.code _ c.if-code-lt-FINAL_CODES_END.false c.if-code-lt-PARAMETER_CODES.true c.number_at-then-code-lt-PARAMETER_CODES.ensures

pub returns-else-code-lt-PARAMETER_CODES : goal.returns-else-code-lt-PARAMETER_CODES
returns-else-code-lt-PARAMETER_CODES c = let args = c.args in
    λ z. high_address args.addresses.now args.code _ c.if-code-lt-PARAMETER_CODES.false c.number_at-else-code-lt-PARAMETER_CODES.ensures
