-- The same with room for as many nodes as number 2 lets pass.
use Rattle.kit.specs.Names.{sym, ◌∙◌, arith, length-take-le}
use Rattle.theory_accepted.proofs.Sentences.{accepted_settled}
use Rattle.file_accepted.proofs.Accepted.{few_nodes_law}
use Rattle.check_refusals.proofs.Refusals.{refuses, accepts}
use Rattle.write_output.proofs.Answers.{refused}
use Rattle.write_contract.proofs.write_long.Goals as goal

pub check_in-number-requires : goal.check_in-number-requires
check_in-number-requires c = (c.requires, record { for_nodes = λ h. omega (arith, h, c.numbers_room-source.ensures.0); for_owners = λ h. omega (arith, h, c.numbers_room-owners.ensures.0) })

pub returns-then-is_refused : goal.returns-then-is_refused
returns-then-is_refused c = let check = c.check_in-number in
    let some = refuses check.result _ c.is_refused.ensures c.if-is_refused.true in
    refused c.args.file.now _ _ _ check.ensures.0 (omega (arith, some)) c.no_counts.ensures

pub slice_bounds-source-end : goal.slice_bounds-source-end
slice_bounds-source-end c = let none = accepts _ _ c.is_refused.ensures c.if-is_refused.false in
    let few = few_nodes_law c.args.file.now (accepted_settled c.args.file.now (sym c.check_in-number.ensures.0 ∙ none)).counts in
    omega (arith, few, c.requires.nodes)

pub slice_bounds-write_accepted_long-end : goal.slice_bounds-write_accepted_long-end
slice_bounds-write_accepted_long-end c = let none = accepts _ _ c.is_refused.ensures c.if-is_refused.false in
    let few = few_nodes_law c.args.file.now (accepted_settled c.args.file.now (sym c.check_in-number.ensures.0 ∙ none)).counts in
    sym (length-take-le _ _ (omega (arith, few, c.requires.nodes, c.numbers_room-source.ensures.0)))

pub write_accepted_long-requires : goal.write_accepted_long-requires
write_accepted_long-requires c = let check = c.check_in-number in
    let none = accepts _ _ c.is_refused.ensures c.if-is_refused.false in
    (sym check.ensures.0 ∙ none, check.ensures.1 none)
