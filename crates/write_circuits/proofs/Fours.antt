-- A claim's four numbers, one behind another.
use Rattle.std.specs.Prelude.{◌≡◌, ◌∷◌, ◌+◌, ◌≤◌}
use Rattle.kit.specs.Names.{refl, List, [], ℕ, arith, length}
use Rattle.memory_buffer.specs.Buffer.{stored}
use Rattle.write_nodes.proofs.TreeNodes.{run_then}
use Rattle.write_circuits.specs.Circuits.{four}

pub four_stored : (held one two three after : List ℕ) (at a b c d : ℕ) → at + 4 ≤ length held → one ≡ stored held at (a ∷ []) → two ≡ stored one (at + 1) (b ∷ [])
    → three ≡ stored two (at + 2) (c ∷ []) → after ≡ stored three (at + 3) (d ∷ []) → after ≡ stored held at (four a b c d)
four_stored held one two three after at a b c d fits w x y z =
    let first = run_then held one two (a ∷ []) (b ∷ []) at (at + 1) w x refl (omega arith) in
    let second = run_then held two three (a ∷ b ∷ []) (c ∷ []) at (at + 2) first y refl (omega arith) in
    run_then held three after (a ∷ b ∷ c ∷ []) (d ∷ []) at (at + 3) second z refl (omega arith)
