-- The room suffices.
use Rattle.kit.specs.Names.{subst}
use Rattle.write_room.specs.Rooms.{Suffices}
use Rattle.write_room.proofs.Room.{tiny_file_fits}
use Rattle.compile.proofs.answer_tiny.Goals as goal

pub answer_in-requires : goal.answer_in-requires
answer_in-requires c = subst (Suffices _) c.tiny_written_room-out.ensures (tiny_file_fits c.args.file.now c.requires)
