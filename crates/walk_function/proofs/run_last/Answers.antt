-- The parts that are lent have the lengths asked for, and the last node is among them.
use Rattle.kit.specs.Names.{sym, arith, length-take-le}
use Rattle.walk_narrow_trees.specs.Narrow.{Bytes}
use Rattle.walk_function.proofs.Fronts.{last_below}
use Rattle.walk_function.proofs.run_last.Goals as goal

pub slice_bounds-run-end : goal.slice_bounds-run-end
slice_bounds-run-end c = let bytes : Bytes c.args.file.now = record { small = λ i. omega (arith, c.type_inv.file i) } in
    sym (length-take-le _ c.args.nodes.now (c.requires bytes).bytes)

pub slice_bounds-run-end-2 : goal.slice_bounds-run-end-2
slice_bounds-run-end-2 c = let bytes : Bytes c.args.file.now = record { small = λ i. omega (arith, c.type_inv.file i) } in
    let space = (c.requires bytes).space in
    sym (length-take-le _ c.args.numbers.now (omega arith))

pub run-requires : goal.run-requires
run-requires c = let bytes : Bytes c.args.file.now = record { small = λ i. omega (arith, c.type_inv.file i) } in
    let ready = c.requires bytes in
    (last_below c.args.nodes.now c.args.extent.nodes ready.some ready.bytes, (ready.readable, ready.few_fields))

pub returns : goal.returns
returns c = record { bytes = record { small = λ i. omega (arith, c.type_inv.file i) }; ran = rw c.numbers_of-last.ensures at c.run.ensures }
