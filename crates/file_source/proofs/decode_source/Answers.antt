-- The nodes are all there, and the front of the room is what the decoder made of it.
use Rattle.std.specs.Prelude.{◌*◌}
use Rattle.kit.specs.Names.{sym, arith, length-take-le}
use Rattle.file_source.proofs.Decoding.{nodes_few, nodes_end, front_long, source_put}
use Rattle.file_source.proofs.decode_source.Goals as goal

pub slice_bounds-decode_nodes-end : goal.slice_bounds-decode_nodes-end
slice_bounds-decode_nodes-end c = omega (arith, nodes_few _ c.requires.0 _ c.read_layout-layout.ensures, c.requires.1)

pub slice_bounds-decode_nodes-end-2 : goal.slice_bounds-decode_nodes-end-2
slice_bounds-decode_nodes-end-2 c = let layout = c.read_layout-layout.ensures in
    sym (length-take-le _ c.args.room.now (omega (arith, nodes_few _ c.requires.0 _ layout, c.requires.1)))

pub decode_nodes-requires : goal.decode_nodes-requires
decode_nodes-requires c = let layout = c.read_layout-layout.ensures in
    let count = 5 * c.read_layout-layout.result.nodes in
    let long = length-take-le count c.args.room.now (omega (arith, nodes_few _ c.requires.0 _ layout, c.requires.1)) in
    omega (arith, nodes_end _ c.requires.0 _ layout)

pub returns : goal.returns
returns c = let layout = c.read_layout-layout.ensures in
    let decoded = c.decode_nodes.ensures in let few = nodes_few _ c.requires.0 _ layout in
    let long = length-take-le _ c.args.room.now (omega (arith, few, c.requires.1)) in record { source = source_put _ c.requires.0 _ layout _ _ _ long decoded.nodes_after.1 decoded.narrow decoded.nodes_after.0; upper_bound = front_long _ c.requires.0 _ layout c.decode_nodes.new.nodes c.args.room.now c.requires.1 decoded.nodes_after.1 }
