-- The fronts of the two buffers are the parts of the written file.
use Rattle.kit.specs.Names.{ap, sym, ◌∙◌, arith, length}
use Rattle.memory_buffer.proofs.Storing.{front_stored}
use Rattle.write_output.proofs.Answers.{accepted_parts}
use Rattle.write_parts.proofs.Parts.{counts_make, parts_fit, whole_by_parts, heading_by_parts_law, parts_make, nodes_long}
use Rattle.write_contract.proofs.write_in.Goals as goal

pub overflow_mul-bytes : goal.overflow_mul-bytes
overflow_mul-bytes c = let args-file = c.args.file.now in
    let pre = c.requires.1.accepted in omega (arith, parts_fit args-file _ _ _ _ _ _ _ c.write_parts-parts.ensures pre)

pub slice_bounds-hand_out-end : goal.slice_bounds-hand_out-end
slice_bounds-hand_out-end c = let args-file = c.args.file.now in
    let pre = c.requires.1.accepted in omega (arith, heading_by_parts_law args-file _ _ _ _ _ _ _ c.write_parts-parts.ensures pre, c.requires.1.heading_space)

pub slice_bounds-hand_out-end-2 : goal.slice_bounds-hand_out-end-2
slice_bounds-hand_out-end-2 c = let put = c.write_parts-parts.ensures in let front = front_stored _ _ _ _ put.headings put.end in put.end ∙ sym (ap length front)

pub slice_bounds-hand_out-end-3 : goal.slice_bounds-hand_out-end-3
slice_bounds-hand_out-end-3 c = let args-file = c.args.file.now in
    let pre = c.requires.1.accepted in omega (arith, whole_by_parts args-file _ _ _ _ _ _ _ c.write_parts-parts.ensures pre, c.requires.1.node_space)

pub slice_bounds-hand_out-end-4 : goal.slice_bounds-hand_out-end-4
slice_bounds-hand_out-end-4 c = let args-file = c.args.file.now in
    let pre = c.requires.1.accepted in let write-parts = c.write_parts-parts.ensures in
    let put = write-parts in let back = front_stored _ _ _ _ put.nodes (nodes_long args-file _ _ _ _ _ _ _ put pre) in nodes_long args-file _ _ _ _ _ _ _ put pre ∙ sym (ap length back)

pub hand_out-requires : goal.hand_out-requires
hand_out-requires c = let args-file = c.args.file.now in let pre = c.requires.1.accepted in
    let write-parts = c.write_parts-parts.ensures in
    let put = write-parts in let fit = parts_fit args-file _ _ _ _ _ _ _ write-parts pre in
    let front = ap length (front_stored _ _ _ _ put.headings put.end) in
    let back = ap length (front_stored _ _ _ _ put.nodes (nodes_long args-file _ _ _ _ _ _ _ put pre)) in
    let long = nodes_long args-file _ _ _ _ _ _ _ put pre in (omega (arith, put.end), omega arith)

pub returns : goal.returns
returns c = let args-file = c.args.file.now in let pre = c.requires.1.accepted in
    let write-parts = c.write_parts-parts.ensures in
    let put = write-parts in let front = front_stored _ _ _ _ put.headings put.end in
    let back = front_stored _ _ _ _ put.nodes (nodes_long args-file _ _ _ _ _ _ _ put pre) in
    accepted_parts args-file _ _ _ _ _ _ _ _ _ _ _ pre (parts_make args-file _ _ _ _ _ _ _ put pre) front back c.hand_out.ensures.handed_out
    (counts_make args-file _ _ _ _ _ _ _ put pre) c.hand_out.ensures.counts_out
