-- The part that was lent is back behind the front, and the room keeps its length.
use Rattle.std.specs.Prelude.{◌≡◌, ◌+◌, ◌-◌, ◌≤◌}
use Rattle.kit.specs.Names.{refl, sym, arith, length, length-take-le, rules}
use borrow.Rule.Slice.PartMut.{put_mid, take_put}
use Rattle.program_reading.proofs.Beginnings.{counts_ready, counts_none}
use Rattle.program_reading.proofs.read_behind.Goals as goal

pub returns-then-rest : goal.returns-then-rest
returns-then-rest g c = let read-from = c.read_from-rest in let count = c.args.count in let held = c.args.room.now in
    let room = put_mid count (length held - count) held read-from.new.room in
    let same : length room ≡ length held = search rules in
    let fits : count + read-from.result.length ≤ length room = omega (arith, read-from.ensures.prefix_len.0) in
    let counted = counts_ready read-from.result.ready count (count + read-from.result.length) c.if-rest.true (omega arith) in
    record { prefix_len = (fits, sym (length-take-le (count + read-from.result.length) room fits)); length_value = counted.0; count_bound = counted.1; room_unchanged = take_put count (length held - count) held read-from.new.room c.requires; room_len_unchanged = same }

pub returns-else-rest : goal.returns-else-rest
returns-else-rest g c = let read-from = c.read_from-rest in let count = c.args.count in let held = c.args.room.now in
    let room = put_mid count (length held - count) held read-from.new.room in
    let same : length room ≡ length held = search rules in let counted = counts_none read-from.result.ready count c.if-rest.false in
    record { prefix_len = (omega arith, refl); length_value = counted.0; count_bound = counted.1; room_unchanged = take_put count (length held - count) held read-from.new.room c.requires; room_len_unchanged = same }
