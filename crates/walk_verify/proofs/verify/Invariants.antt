-- `walk_constraints::verify` meets its contract. The invariant: what is left to test holds just when all constraints do.
use Rattle.std.specs.Prelude.{◌≡◌, ◌*◌, ◌-◌, ◌/◌}
use Rattle.kit.specs.Names.{length}
use Rattle.write_trees.specs.Table.{table_of}
use Rattle.ledger_circuits.specs.Circuits.{all_hold, constraints_at, constraints_from}
use Rattle.walk_verify.proofs.verify.Given as goal

abbrev pub invariant-loop-i : goal.invariant-loop-i
invariant-loop-i l =
    all_hold l.addresses l.variables (constraints_at (table_of l.nodes) (length l.constraints / 4 - l.i) l.constraints (4 * l.i))
    ≡ all_hold l.addresses l.variables (constraints_from (table_of l.nodes) l.constraints)
