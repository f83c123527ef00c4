-- The log and the numbers of the claims, as far as they are told, are what the heading is written from.
use Rattle.kit.specs.Names.{sym, arith, length-take-le}
use Rattle.write_functions.proofs.Heading.{some_nodes, heading_asked, heading_written}
use Rattle.write_functions.proofs.write_heading.Goals as goal

pub overflow_mul-fours : goal.overflow_mul-fours
overflow_mul-fours c = let pre = c.requires in omega (arith, pre.told.claims, pre.room.claims, pre.room.context.few_nodes)

pub slice_bounds-append_heading-end : goal.slice_bounds-append_heading-end
slice_bounds-append_heading-end c = sym (length-take-le _ _ c.requires.told.logged)

pub slice_bounds-append_heading-end-2 : goal.slice_bounds-append_heading-end-2
slice_bounds-append_heading-end-2 c = sym (length-take-le _ _ c.requires.told.fours)

pub overflow_add-base : goal.overflow_add-base
overflow_add-base c = let pre = c.requires in omega (arith, pre.room.nodes, pre.whole)

pub overflow_sub-base : goal.overflow_sub-base
overflow_sub-base c = let some = some_nodes _ _ _ _ _ _ _ _ _ c.requires in omega arith

pub append_heading-requires : goal.append_heading-requires
append_heading-requires c = heading_asked _ _ _ _ _ _ _ _ _ c.requires

pub returns : goal.returns
returns c = heading_written _ _ _ _ _ _ _ _ _ c.requires _ _ c.append_heading.ensures
