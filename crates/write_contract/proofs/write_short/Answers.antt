-- A refused file keeps the output as it is; an accepted one is written from the nodes that the check has decoded.
use Rattle.kit.specs.Names.{sym, ◌∙◌, arith, length-take-le}
use Rattle.check_refusals.proofs.Refusals.{refuses, accepts}
use Rattle.write_output.proofs.Answers.{refused}
use Rattle.write_contract.proofs.write_short.Goals as goal

pub check_in-number-requires : goal.check_in-number-requires
check_in-number-requires c = (
  c.requires.0,
  record {
    for_nodes = λ h. omega (arith, c.requires.1, c.numbers_room-source.ensures.0);
    for_owners = λ h. omega (arith, c.requires.1, c.numbers_room-owners.ensures.0);
  },
)

pub returns-then-is_refused : goal.returns-then-is_refused
returns-then-is_refused c = let check = c.check_in-number in
    let some = refuses check.result _ c.is_refused.ensures c.if-is_refused.true in
    refused c.args.file.now _ _ _ check.ensures.0 (omega (arith, some)) c.no_counts.ensures

pub slice_bounds-source-end : goal.slice_bounds-source-end
slice_bounds-source-end c = omega (arith, c.requires.1)

pub slice_bounds-write_accepted-end : goal.slice_bounds-write_accepted-end
slice_bounds-write_accepted-end c = sym (length-take-le _ _ (omega (arith, c.requires.1, c.numbers_room-source.ensures.0)))

pub write_accepted-requires : goal.write_accepted-requires
write_accepted-requires c = let check = c.check_in-number in
    let none = accepts _ _ c.is_refused.ensures c.if-is_refused.false in
    (sym check.ensures.0 ∙ none, check.ensures.1 none, omega (arith, c.requires.0.nodes, c.requires.1))
