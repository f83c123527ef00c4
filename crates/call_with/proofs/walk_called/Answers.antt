-- A short contract has at most 64 nodes; number 2 lets 512 pass.
use Rattle.std.specs.Prelude.{◌/◌, ◌≤◌}
use Rattle.kit.specs.Names.{sym, ◌∙◌, arith, length, leb-true}
use Rattle.definitions.specs.ContractFile.{node_count}
use Rattle.call_with.proofs.walk_called.Goals as goal

pub walk_in_room-requires : goal.walk_in_room-requires
walk_in_room-requires c = let long = length c.args.function.now.source.now in
    let short : long / 5 ≤ 64 = leb-true (long / 5) 64 (sym c.is_short.ensures ∙ c.if-is_short.true) in
    let few : node_count c.args.function.now.file.now ≤ 64 = omega (arith, short, c.args.function.now.context.long) in record {
      room = c.requires;
      log_space = omega arith;
      numbers_space = omega arith;
      roots_space = omega arith;
      nodes_space = omega arith;
      small = (omega arith, omega arith, omega arith, omega arith);
    }

pub walk_in_room-requires-else-is_short : goal.walk_in_room-requires-else-is_short
walk_in_room-requires-else-is_short c =
    let few : node_count c.args.function.now.file.now ≤ 512 = c.requires.context.few_nodes in record {
      room = c.requires;
      log_space = omega arith;
      numbers_space = omega arith;
      roots_space = omega arith;
      nodes_space = omega arith;
      small = (omega arith, omega arith, omega arith, omega arith);
    }
