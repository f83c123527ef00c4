-- The sequences of steps, one after another from the last step on.
use Rattle.std.specs.Prelude.{◌≡◌, ◌∷◌, ◌+◌, ◌*◌, ◌-◌, ◌<◌, ◌≤◌}
use Rattle.kit.specs.Names.{refl, ap, sym, ◌∙◌, List, ℕ, suc, arith, length, get_or, take, take-suc}
use Rattle.definitions.specs.Basics.{flat_map}
use Rattle.definitions.specs.ContractFile.{NodeRecord, node}
use Rattle.definitions.specs.Rewriting.{node_bytes}
use Rattle.memory_buffer.specs.Buffer.{stored}
use Rattle.memory_buffer.proofs.Storing.{stored_nothing}
use Rattle.write_nodes.proofs.TreeNodes.{run_then}
use Rattle.write_steps.specs.Steps.{closers}
use Rattle.write_steps.proofs.Nesting.{closers_last}

module _ (roots : List ℕ) (count top : ℕ) where
  pub closers_next : 0 < count → count ≤ length roots
      → closers (take count roots) top ≡ node 17 0 (get_or roots (count - 1) 0) top 0 ∷ closers (take (count - 1) roots) (top + 1)
  closers_next some fits =
      let next : count ≡ suc (count - 1) = omega arith in
      let inside : count - 1 < length roots = omega arith in
      ap (λ (n : ℕ). closers (take n roots) top) next ∙ ap (λ (l : List ℕ). closers l top) (take-suc roots (count - 1) 0 inside)
      ∙ closers_last (take (count - 1) roots) (get_or roots (count - 1) 0) top

  pub closed_none : count ≤ 0 → (out : List ℕ) (at : ℕ) → out ≡ stored out at (flat_map node_bytes (closers (take count roots) top))
  unfolding closers flat_map
  closed_none few out at =
      let none : count ≡ 0 = omega arith in
      rw none (sym (stored_nothing out at))

  pub closed_next : 0 < count → count ≤ length roots → (out between after : List ℕ) (at : ℕ) → at + 8 * count ≤ length out
      → between ≡ stored out at (node_bytes (node 17 0 (get_or roots (count - 1) 0) top 0))
      → after ≡ stored between (at + 8) (flat_map node_bytes (closers (take (count - 1) roots) (top + 1)))
      → after ≡ stored out at (flat_map node_bytes (closers (take count roots) top))
  unfolding flat_map
  closed_next some fits out between after at room a b =
      run_then out between after (node_bytes (node 17 0 (get_or roots (count - 1) 0) top 0)) _ at (at + 8) a b refl (omega arith)
      ∙ ap (λ (l : List NodeRecord). stored out at (flat_map node_bytes l)) (sym (closers_next some fits))
