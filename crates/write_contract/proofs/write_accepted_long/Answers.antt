-- Number 2 lets 512 nodes pass.
use Rattle.kit.specs.Names.{arith}
use Rattle.theory_accepted.proofs.Sentences.{accepted_settled}
use Rattle.file_accepted.proofs.Accepted.{few_nodes_law}
use Rattle.write_room.proofs.Room.{bytes_by_nodes, headings_by_nodes}
use Rattle.write_contract.proofs.write_accepted_long.Goals as goal

pub write_in-requires : goal.write_in-requires
write_in-requires c = let file = c.args.file.now in let accepted = c.requires.0 in
    let few = few_nodes_law file (accepted_settled file accepted).counts in (
      c.requires.1,
      record { accepted = accepted; heading_space = omega (arith, headings_by_nodes file accepted); node_space = omega (arith, bytes_by_nodes file accepted) },
      record { log_space = omega arith; root_space = omega arith; number_space = omega arith },
    )
