-- The count, the constraints of the private parameters, and those of the log.
use Rattle.std.specs.Prelude.{◌+◌, ◌/◌}
use Rattle.kit.specs.Names.{arith, length}
use Rattle.definitions.specs.Basics.{two_bytes}
use Rattle.write_claims.proofs.Sixes.{sixes_length}
use Rattle.write_variables.specs.PerEntry.{count_tag}
use Rattle.write_parameters.specs.Parameters.{opening_claims}
use Rattle.memory_append.proofs.Appending.{second_room, third_room, three_appended}
use Rattle.write_headings.specs.Parts.{claims_of}
use Rattle.write_headings.proofs.Parts.{counted}
use Rattle.write_headings.proofs.append_claim_part.Goals as goal

pub append_opening_claims-opened-requires : goal.append_opening_claims-opened-requires
append_opening_claims-opened-requires c = let args = c.args in
    let (_, out-room) = c.requires in let count-tag = c.count_tag.ensures in
    second_room args.out.now args.at (two_bytes (args.private + count_tag 1 args.log.now)) (opening_claims 0 args.private) (claims_of args.numbers.now) out-room _ _ (counted args.out.now _ args.log.now _ _ args.private _ count-tag c.append_two_bytes-count.ensures)

pub append_claims-requires : goal.append_claims-requires
append_claims-requires c = let args = c.args in let (_, out-room) = c.requires in
    let count-tag = c.count_tag.ensures in
    let append-two-bytes = c.append_two_bytes-count.ensures in
    let room = third_room args.out.now args.at (two_bytes (args.private + count_tag 1 args.log.now)) (opening_claims 0 args.private) (claims_of args.numbers.now) out-room _ _ _ _ (counted args.out.now _ args.log.now _ _ args.private _ count-tag append-two-bytes) c.append_opening_claims-opened.ensures in
    (omega arith, omega (arith, sixes_length args.numbers.now 0 (length args.numbers.now / 4)))

pub returns : goal.returns
returns c = let args = c.args in let (_, out-room) = c.requires in
    let count-tag = c.count_tag.ensures in
    let append-two-bytes = c.append_two_bytes-count.ensures in
    let append-opening-claims = c.append_opening_claims-opened.ensures in
    three_appended args.out.now args.at (two_bytes (args.private + count_tag 1 args.log.now)) (opening_claims 0 args.private) (claims_of args.numbers.now) out-room _ _ _ _ _ _ (counted args.out.now _ args.log.now _ _ args.private _ count-tag append-two-bytes) append-opening-claims c.append_claims.ensures
