use Rattle.std.specs.Prelude.{◌≡◌, ◌+◌, ◌-◌, ◌*◌, ◌/◌, ◌≤◌}
use Rattle.kit.specs.Names.{refl, ◌∙◌, ℕ, arith, length}
use Rattle.definitions.specs.ContractFile.{byte_at}
use Rattle.file_decoder.proofs.Loops.{nodes_more, nodes_done}
use Rattle.file_decoder.proofs.Sections.{nodes_same, nodes_narrow}
use Rattle.file_decoder.proofs.decode_nodes.Goals as goal

pub loop-i-init : goal.loop-i-init
loop-i-init c =
    let count = length c.args.nodes.now / 5 in
    let all : count - 0 ≡ count = omega arith in
    let start : c.args.from + 8 * 0 ≡ c.args.from = omega arith in
    (rw (all, start) refl, refl)

pub decode_node-requires : goal.decode_node-requires
decode_node-requires c = (omega arith, omega arith)

pub loop-i-preserved : goal.loop-i-preserved
loop-i-preserved c =
    let i = c.loop-i.i in
    let count = length c.args.nodes.now / 5 in
    let one_less : count - (i + 1) ≡ (count - i) - 1 = omega arith in
    let next_node : 5 * (i + 1) ≡ 5 * i + 5 = omega arith in
    let next_place : c.args.from + 8 * (i + 1) ≡ c.args.from + 8 * i + 8 = omega arith in
    let (stored_is, long) = c.loop-i.invariant in (
      rw (one_less, next_node, next_place) (nodes_more _ _ _ _ _ _ _ (omega arith) c.decode_node.ensures (omega arith) stored_is),
      c.decode_node.auto.nodes ∙ long,
    )

pub returns : goal.returns
returns c =
    let (stored_is, long) = c.loop-i.invariant in
    let whole = nodes_done _ _ _ _ _ _ (omega arith) stored_is in
    let bytes : (i : ℕ) → byte_at c.args.file.now i ≤ 255 = λ i. omega (arith, c.shared_slice_known-1.given i) in
    record { nodes_after = (nodes_same _ _ _ _ bytes whole long, long); narrow = nodes_narrow _ _ _ _ bytes whole long }
