-- The room suffices.
use Rattle.kit.specs.Names.{subst}
use Rattle.write_room.specs.Rooms.{Suffices}
use Rattle.write_room.proofs.Room.{short_file_fits}
use Rattle.compile.proofs.answer_short.Goals as goal

pub answer_in-requires : goal.answer_in-requires
answer_in-requires c = subst (Suffices _) c.short_written_room-out.ensures (short_file_fits c.args.file.now c.requires)
