use Rattle.std.specs.Prelude.{◌≡◌, ◌+◌, ◌-◌, ◌*◌, ◌/◌}
use Rattle.kit.specs.Names.{refl, ap, ◌∙◌, arith, length}
use Rattle.definitions.specs.Numbers.{node_in_tables}
use Rattle.file_decoded.proofs.Records.{nodes_step, nodes_end}
use Rattle.file_children.proofs.Loops.{noted_next, noted_done, noted_numbered_next, noted_numbered_done}
use Rattle.check_03_declarations.specs.Outside.{node_outside}
use Rattle.check_04_nodes.specs.Naming.{node_names_nothing}
use Rattle.check_03_04_sections.proofs.note_nodes.Goals as goal

pub loop-n-init : goal.loop-n-init
loop-n-init c =
    let count = length c.args.nodes.now / 5 in
    let all : count - 0 ≡ count = omega arith in
    (rw all refl, rw all refl)

pub loop-n-preserved : goal.loop-n-preserved
loop-n-preserved c =
    let loop = c.loop-n in
    let nodes = c.args.nodes.now in
    let count = length nodes / 5 in
    let one_less : count - (loop.n + 1) ≡ (count - loop.n) - 1 = omega arith in
    let next_place : 5 * (loop.n + 1) ≡ 5 * loop.n + 5 = omega arith in
    let step = nodes_step nodes (5 * loop.n) (count - loop.n) (omega arith) in
    let (outside, nothing) = loop.invariant in (
      rw (one_less, next_place, c.node_in_tables.ensures ∙ ap node_in_tables c.node_from-node.ensures.same)
          (noted_next node_outside loop.outside _ _ _ _ step outside _ refl),
      rw (one_less, next_place, c.node_names_nothing-nothing.ensures ∙ ap (node_names_nothing _ loop.n) c.node_from-node.ensures.same)
          (noted_numbered_next (node_names_nothing _) loop.n loop.nothing _ _ _ _ step nothing _ refl),
    )

pub returns : goal.returns
returns c =
    let loop = c.loop-n in
    let nodes = c.args.nodes.now in
    let end = nodes_end nodes (5 * loop.n) (length nodes / 5 - loop.n) (omega arith) in
    (noted_done node_outside loop.outside _ _ end loop.invariant.0, noted_numbered_done (node_names_nothing _) loop.n loop.nothing _ _ end loop.invariant.1)
