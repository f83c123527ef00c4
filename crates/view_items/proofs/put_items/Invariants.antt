-- Each turn shows one content more.
use Rattle.std.specs.Prelude.{◌≡◌, ◌+◌, ◌*◌}
use Rattle.kit.specs.Names.{length, drop}
use Rattle.memory_buffer.specs.Buffer.{stored}
use Rattle.ledger_contents.specs.Contents.{contents_of}
use Rattle.view_item.specs.Items.{shown}
use Rattle.view_items.proofs.put_items.Given as goal

abbrev pub invariant-loop-i : goal.invariant-loop-i
invariant-loop-i l =
    (length l.out ≡ length l.initial.out)
    × (stored l.out (l.at + 10 * l.i) (shown l.party (drop l.i (contents_of l.flat))) ≡ stored l.initial.out l.at (shown l.party (contents_of l.flat)))
