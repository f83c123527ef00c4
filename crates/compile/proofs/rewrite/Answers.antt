-- The room is never too short.
use Rattle.kit.specs.Names.{◌∙◌}
use Rattle.write_room.proofs.Room.{own_number_where_enough}
use Rattle.compile.proofs.rewrite.Goals as goal

pub returns : goal.returns
returns c = let promised = c.write.ensures in
    record { promised = promised; number_value = promised.0 ∙ own_number_where_enough c.args.file.now _ c.requires }
