-- One entry of small numbers, which makes no variable.
use Rattle.kit.specs.Names.{arith}
use Rattle.rewrite_simple_statements.proofs.end_log.Goals as goal

pub log_entry-requires : goal.log_entry-requires
log_entry-requires c = let slot = c.requires in
    (slot, record { tag = omega arith; variable = omega (arith, slot.few); owner = omega arith; node = omega arith; last = omega arith })

pub returns : goal.returns
returns c = c.log_entry.ensures
