-- An accepted file has all of its nodes, and the decoded ones are a source.
use Rattle.std.specs.Prelude.{◌≡◌, ◌++◌, ◌+◌, ◌*◌, ◌/◌, ◌≤◌}
use Rattle.kit.specs.Names.{ap, sym, ◌∙◌, List, ℕ, arith, length, take, drop, length-append, length-drop}
use Rattle.kit.specs.Names.{take_at, length-take-le, eqb-true, not-false}
use Rattle.definitions.specs.ContractFile.{node_count, file_end, node_records}
use Rattle.definitions.specs.Numbers.{check_number, ends_wrongly}
use Rattle.theory_accepted.proofs.Sentences.{accepted_settled}
use Rattle.file_bytes.specs.declared.Layout.{Layout}
use Rattle.file_bytes.specs.Layout.{IsLayout}
use Rattle.file_decoded.specs.Slices.{nodes_from, Narrow}
use Rattle.file_accepted.specs.Context.{Source}
use Rattle.file_accepted.proofs.Accepted.{few_nodes_law}
use Rattle.file_accepted.proofs.Sources.{source_of}

module _ (file : List ℕ) (accepted : check_number file ≡ 0) (l : Layout) (is : IsLayout file l) where
  pub nodes_few : 5 * l.nodes ≤ 2560
  nodes_few = omega (arith, is.nodes, few_nodes_law file (accepted_settled file accepted).counts)

  -- The front of the room is as long as the nodes.
  pub front_long : (part room : List ℕ) → 2560 ≤ length room → length part ≡ length (take (5 * l.nodes) room)
      → (5 * l.nodes ≤ length (part ++ drop (5 * l.nodes) room)) × (5 * l.nodes ≡ length (take (5 * l.nodes) (part ++ drop (5 * l.nodes) room)))
  front_long part room big long =
      let fit : 5 * l.nodes ≤ length room = omega (arith, nodes_few) in
      let taken = length-take-le (5 * l.nodes) room fit in
      let whole : length (part ++ drop (5 * l.nodes) room) ≡ length room =
      length-append part (drop (5 * l.nodes) room) ∙ omega (arith, length-drop (5 * l.nodes) room) in
      let there : 5 * l.nodes ≤ length (part ++ drop (5 * l.nodes) room) = omega arith in
      (there, sym (length-take-le (5 * l.nodes) (part ++ drop (5 * l.nodes) room) there))

  pub nodes_end : l.nodes_at + 2 + 8 * l.nodes ≡ length file
  unfolding ends_wrongly
  nodes_end =
      let ends = eqb-true (length file) (file_end file) (not-false _ (accepted_settled file accepted).ends) in
      omega (arith, is.nodes, is.nodes_start)

  pub source_put : (k : ℕ) (part rest : List ℕ) → k ≡ 5 * l.nodes → length part ≡ k → Narrow part
      → nodes_from (length part / 5) part 0 ≡ node_records (k / 5) file (l.nodes_at + 2) → Source file (take (5 * l.nodes) (part ++ rest))
  source_put k part rest e long narrow same =
      let whole : take (5 * l.nodes) (part ++ rest) ≡ part = take_at part rest (5 * l.nodes) (long ∙ e) in
      let count : k / 5 ≡ node_count file = omega (arith, is.nodes) in
      rw whole (source_of file part (k / 5) count (omega arith) narrow (same ∙ ap (λ (at : ℕ). node_records (k / 5) file (at + 2)) is.nodes_start))
