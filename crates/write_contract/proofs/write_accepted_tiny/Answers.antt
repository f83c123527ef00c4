-- Room for what 112 bytes make.
use Rattle.kit.specs.Names.{arith}
use Rattle.write_room.proofs.Acceptance.{file_length}
use Rattle.write_room.proofs.Room.{bytes_by_length, headings_by_length}
use Rattle.write_contract.proofs.write_accepted_tiny.Goals as goal

pub write_in-requires : goal.write_in-requires
write_in-requires c = let file = c.args.file.now in
    let accepted = c.requires.0 in let tiny = c.requires.2 in let long = file_length file accepted in (
      c.requires.1,
      record { accepted = accepted; heading_space = omega (arith, headings_by_length file accepted); node_space = omega (arith, bytes_by_length file accepted) },
      record { log_space = omega arith; root_space = omega arith; number_space = omega arith },
    )
