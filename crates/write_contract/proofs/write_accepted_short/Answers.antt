-- Room for 64 nodes.
use Rattle.kit.specs.Names.{arith}
use Rattle.write_room.proofs.Room.{bytes_by_nodes, headings_by_nodes}
use Rattle.write_contract.proofs.write_accepted_short.Goals as goal

pub write_in-requires : goal.write_in-requires
write_in-requires c = let file = c.args.file.now in
    let accepted = c.requires.0 in let few = c.requires.2 in (
      c.requires.1,
      record { accepted = accepted; heading_space = omega (arith, headings_by_nodes file accepted); node_space = omega (arith, bytes_by_nodes file accepted) },
      record { log_space = omega arith; root_space = omega arith; number_space = omega arith },
    )
