-- `walk_commands::run` meets its contract. The invariant: what is left to walk completes, and ends, as the whole does.
use Rattle.std.specs.Prelude.{◌≡◌, ◌≤◌}
use Rattle.kit.specs.Names.{length}
use Rattle.write_trees.specs.Trees.{command_in}
use Rattle.write_trees.specs.Table.{table_of}
use Rattle.ledger_circuits.specs.Circuits.{constraints_from}
use Rattle.walk_expressions.specs.Evaluation.{state_of}
use Rattle.walk_steps.specs.Walk.{after_from, completes_from}
use Rattle.walk_commands.proofs.+run.Given as goal

abbrev pub decreases-run : goal.decreases-run
decreases-run l = l.n

abbrev pub invariant-loop-node : goal.invariant-loop-node
invariant-loop-node l = (l.at ≤ l.n)
    × ((length l.places ≡ length l.initial.places)
    × ((length l.variables ≡ length l.initial.variables)
    × ((completes_from l.file l.addresses l.parameters (constraints_from (table_of l.nodes) l.constraints) (state_of l.places l.variables) (command_in (table_of l.nodes) l.at) ≡ completes_from l.file l.addresses l.parameters (constraints_from (table_of l.nodes) l.constraints) (state_of l.initial.places l.initial.variables) (command_in (table_of l.nodes) l.n))
    × (after_from l.file l.addresses l.parameters (state_of l.places l.variables) (command_in (table_of l.nodes) l.at) ≡ after_from l.file l.addresses l.parameters (state_of l.initial.places l.initial.variables) (command_in (table_of l.nodes) l.n)))))

abbrev pub decreases-loop-node : goal.decreases-loop-node
decreases-loop-node l = l.at
