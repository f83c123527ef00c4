use Rattle.kit.specs.Names.{arith}
use Rattle.call_with.proofs.walk_in_room.Goals as goal

pub walk_function-requires : goal.walk_function-requires
walk_function-requires g c = record {
  room = c.requires.room;
  log_space = omega (arith, c.requires.log_space);
  numbers_space = omega (arith, c.requires.numbers_space);
  roots_space = omega (arith, c.requires.roots_space);
  nodes_space = omega (arith, c.requires.room.parts_by_nodes, c.requires.nodes_space);
}

pub whole_as_slice-walk_function : goal.whole_as_slice-walk_function
whole_as_slice-walk_function g c = omega (arith, c.requires.small)

pub whole_as_slice-walk_function-2 : goal.whole_as_slice-walk_function-2
whole_as_slice-walk_function-2 g c = omega (arith, c.requires.small)

pub whole_as_slice-walk_function-3 : goal.whole_as_slice-walk_function-3
whole_as_slice-walk_function-3 g c = omega (arith, c.requires.small)

pub whole_as_slice-walk_function-4 : goal.whole_as_slice-walk_function-4
whole_as_slice-walk_function-4 g c = omega (arith, c.requires.small)
