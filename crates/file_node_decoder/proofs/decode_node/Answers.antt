-- Five stores in a row are one.
use Rattle.std.specs.Prelude.{◌≡◌, ◌∷◌, ◌+◌, ◌≤◌}
use Rattle.kit.specs.Names.{List, [], ℕ, suc, arith, length, add-one, set, length-set, sets-eq}
use Rattle.memory_buffer.specs.Buffer.{stored}
use Rattle.file_node_decoder.proofs.decode_node.Goals as goal

five_stored : (held : List ℕ) (at a b c d e : ℕ) (values : List ℕ) → a ∷ b ∷ c ∷ d ∷ e ∷ [] ≡ values → at + 5 ≤ length held
    → set (set (set (set (set held at a) (at + 1) b) (at + 2) c) (at + 3) d) (at + 4) e ≡ stored held at values
unfolding stored
five_stored held at a b c d e values same fits =
    let two : at + 2 ≡ suc (suc at) = omega arith in
    let three : at + 3 ≡ suc (suc (suc at)) = omega arith in
    let four : at + 4 ≡ suc (suc (suc (suc at))) = omega arith in
    rw (← same, add-one, two, three, four) (sets-eq (a ∷ b ∷ c ∷ d ∷ e ∷ []) held at fits)

pub bounds-nodes-at-2 : goal.bounds-nodes-at-2
bounds-nodes-at-2 c = simp length-set (omega arith)

pub bounds-nodes-at-3 : goal.bounds-nodes-at-3
bounds-nodes-at-3 c = simp length-set (omega arith)

pub bounds-nodes-at-4 : goal.bounds-nodes-at-4
bounds-nodes-at-4 c = simp length-set (omega arith)

pub bounds-nodes-at-5 : goal.bounds-nodes-at-5
bounds-nodes-at-5 c = simp length-set (omega arith)

pub returns : goal.returns
returns c = let args = c.args in
    five_stored args.nodes.now args.at _ _ _ _ _ _ (cc) (omega arith)
