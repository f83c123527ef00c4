-- Five parts, one behind the other.
use Rattle.definitions.specs.Basics.{two_bytes}
use Rattle.memory_append.proofs.Appending.{one_of_five, two_of_five, three_of_five, four_of_five, five_of_five, five_appended}
use Rattle.write_headings.specs.Parts.{parameter_part, variable_part, key_part, claims_of, claim_part}
use Rattle.write_headings.proofs.Parts.{parts_fit, variables_fit, constraints_fit, heading_appended}
use Rattle.write_headings.proofs.append_heading.Goals as goal

pub append_parameter_part-parameters-requires : goal.append_parameter_part-parameters-requires
append_parameter_part-parameters-requires c = let args = c.args in let pre = c.requires in
    let private-of = c.private_of-private in
    (pre.near, one_of_five args.out.now args.from (parameter_part args.file.now args.function_at) (variable_part private-of.result args.made args.log.now) (key_part args.log.now) (claim_part private-of.result args.log.now (claims_of args.numbers.now)) (two_bytes args.root) (parts_fit private-of.result args.file.now args.function_at args.made args.log.now (claims_of args.numbers.now) args.root args.from _ private-of.ensures pre))

pub append_variable_part-variables-requires : goal.append_variable_part-variables-requires
append_variable_part-variables-requires c = let args = c.args in
    let pre = c.requires in let private-of = c.private_of-private in
    (variables_fit private-of.result args.file.now args.function_at args.made args.log.now (claims_of args.numbers.now) args.root args.from _ private-of.ensures pre, two_of_five args.out.now args.from (parameter_part args.file.now args.function_at) (variable_part private-of.result args.made args.log.now) (key_part args.log.now) (claim_part private-of.result args.log.now (claims_of args.numbers.now)) (two_bytes args.root) (parts_fit private-of.result args.file.now args.function_at args.made args.log.now (claims_of args.numbers.now) args.root args.from _ private-of.ensures pre) _ _ c.append_parameter_part-parameters.ensures)

pub append_key_part-keys-requires : goal.append_key_part-keys-requires
append_key_part-keys-requires c = let args = c.args in let pre = c.requires in
    let private-of = c.private_of-private in
    let append-parameter-part = c.append_parameter_part-parameters.ensures in
    three_of_five args.out.now args.from (parameter_part args.file.now args.function_at) (variable_part private-of.result args.made args.log.now) (key_part args.log.now) (claim_part private-of.result args.log.now (claims_of args.numbers.now)) (two_bytes args.root) (parts_fit private-of.result args.file.now args.function_at args.made args.log.now (claims_of args.numbers.now) args.root args.from _ private-of.ensures pre) _ _ append-parameter-part _ _ c.append_variable_part-variables.ensures

pub append_claim_part-constraints-requires : goal.append_claim_part-constraints-requires
append_claim_part-constraints-requires c = let args = c.args in let pre = c.requires in
    let private-of = c.private_of-private in
    let append-parameter-part = c.append_parameter_part-parameters.ensures in
    let append-variable-part = c.append_variable_part-variables.ensures in
    (constraints_fit private-of.result args.file.now args.function_at args.made args.log.now (claims_of args.numbers.now) args.root args.from _ private-of.ensures pre, four_of_five args.out.now args.from (parameter_part args.file.now args.function_at) (variable_part private-of.result args.made args.log.now) (key_part args.log.now) (claim_part private-of.result args.log.now (claims_of args.numbers.now)) (two_bytes args.root) (parts_fit private-of.result args.file.now args.function_at args.made args.log.now (claims_of args.numbers.now) args.root args.from _ private-of.ensures pre) _ _ append-parameter-part _ _ append-variable-part _ _ c.append_key_part-keys.ensures)

pub append_two_bytes-requires : goal.append_two_bytes-requires
append_two_bytes-requires c = let args = c.args in let pre = c.requires in
    let private-of = c.private_of-private in
    let append-parameter-part = c.append_parameter_part-parameters.ensures in
    let append-variable-part = c.append_variable_part-variables.ensures in
    let append-key-part = c.append_key_part-keys.ensures in
    five_of_five args.out.now args.from (parameter_part args.file.now args.function_at) (variable_part private-of.result args.made args.log.now) (key_part args.log.now) (claim_part private-of.result args.log.now (claims_of args.numbers.now)) (two_bytes args.root) (parts_fit private-of.result args.file.now args.function_at args.made args.log.now (claims_of args.numbers.now) args.root args.from _ private-of.ensures pre) _ _ append-parameter-part _ _ append-variable-part _ _ append-key-part _ _ c.append_claim_part-constraints.ensures

pub returns : goal.returns
returns c = let args = c.args in let pre = c.requires in
    let private-of = c.private_of-private in
    let append-parameter-part = c.append_parameter_part-parameters.ensures in
    let append-variable-part = c.append_variable_part-variables.ensures in
    let append-key-part = c.append_key_part-keys.ensures in
    let append-claim-part = c.append_claim_part-constraints.ensures in
    heading_appended private-of.result args.file.now args.function_at args.made args.log.now (claims_of args.numbers.now) args.root args.from _ private-of.ensures pre _ _ _ (five_appended args.out.now args.from (parameter_part args.file.now args.function_at) (variable_part private-of.result args.made args.log.now) (key_part args.log.now) (claim_part private-of.result args.log.now (claims_of args.numbers.now)) (two_bytes args.root) (parts_fit private-of.result args.file.now args.function_at args.made args.log.now (claims_of args.numbers.now) args.root args.from _ private-of.ensures pre) _ _ append-parameter-part _ _ append-variable-part _ _ append-key-part _ _ append-claim-part _ _ c.append_two_bytes.ensures)
