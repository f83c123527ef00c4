-- The end of the statement's events, and what is written from them.
use Rattle.kit.specs.Names.{arith}
use Rattle.write_bodies.proofs.Logged.{simple_inside, simple_behind, single_ready, single_written}
use Rattle.write_bodies.proofs.write_simple.Goals as goal

pub find_end-end-requires : goal.find_end-end-requires
find_end-end-requires c = let (simple, ready) = c.requires in simple_inside _ _ _ _ _ _ _ _ _ ready simple

pub overflow_sub-entries : goal.overflow_sub-entries
overflow_sub-entries c = let (simple, ready) = c.requires in
    let behind = simple_behind _ _ _ _ _ _ _ _ _ ready simple _ c.find_end-end.ensures in omega arith

pub write_single-nodes-requires : goal.write_single-nodes-requires
write_single-nodes-requires c = let (simple, ready) = c.requires in single_ready _ _ _ _ _ _ _ _ _ ready simple _ c.find_end-end.ensures

pub returns : goal.returns
returns c = let (simple, ready) = c.requires in
    single_written _ _ _ _ _ _ _ _ _ ready simple _ c.find_end-end.ensures _ _ c.write_single-nodes.ensures
