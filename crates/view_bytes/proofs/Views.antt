-- The parts of a view's bytes one behind another.
use Rattle.std.specs.Prelude.{◌≡◌, ◌∷◌, ◌++◌, ◌+◌, ◌*◌, ◌/◌, ◌≤◌}
use Rattle.kit.specs.Names.{refl, ap, sym, ◌∙◌, List, [], ℕ, arith, length, set}
use Rattle.kit.specs.Names.{length-append, sets-eq}
use Rattle.memory_buffer.specs.Buffer.{stored}
use Rattle.memory_buffer.proofs.Storing.{stored_then}
use Rattle.definitions.specs.Basics.{two_bytes}
use Rattle.definitions.specs.View.{items_for, view_bytes}
use Rattle.ledger_contents.specs.Contents.{contents_of}
use Rattle.ledger_contents.proofs.FlatContents.{length_contents_of}
use Rattle.ledger_struct.specs.declared.LastCall.{LastCall}
use Rattle.ledger_struct.specs.Ledgers.{ledger_from}
use Rattle.view_item.specs.Items.{shown}
use Rattle.view_items.proofs.Shown.{shown_append, shown_length}
use Rattle.view_bytes.specs.Views.{head_bytes, view_size}

pub head_set : (out : List ℕ) (a b c d e : ℕ) → 5 ≤ length out
    → set (set (set (set (set out 0 a) 1 b) 2 c) 3 d) 4 e ≡ stored out 0 (a ∷ b ∷ c ∷ d ∷ e ∷ [])
unfolding stored
head_set out a b c d e room = sets-eq (a ∷ b ∷ c ∷ d ∷ e ∷ []) out 0 room

-- A part written behind what is written.
joined : (out held after written part : List ℕ) (at : ℕ) → held ≡ stored out 0 written → at ≡ length written → length written ≤ length out
    → after ≡ stored held at part → after ≡ stored out 0 (written ++ part)
joined out held after written part at e k room f =
    let next : at ≡ 0 + length written = omega arith in
    f ∙ (rw (e, next) (stored_then out 0 written part (omega arith)))

module _ (party : ℕ) (file : List ℕ) (last : LastCall) (p v q : List ℕ) where
  abbrev items : List ℕ → List ℕ
  items flat = shown party (contents_of flat)

  items_long : (flat : List ℕ) → length (items flat) ≡ 10 * (length flat / 5)
  items_long flat = shown_length party (contents_of flat) ∙ ap (λ (n : ℕ). 10 * n) (length_contents_of flat)

  head_long : length (head_bytes last) ≡ 5
  unfolding head_bytes
  head_long = refl

  -- The head, then three runs of items, whatever the file.
  view_parts : view_bytes party (ledger_from file last p v (contents_of q)) ≡ head_bytes last ++ items p ++ items v ++ items q
  unfolding view_bytes head_bytes items_for ledger_from shown
  view_parts =
      ap (λ (bytes : List ℕ). two_bytes last.call ++ (last.function ∷ last.caller ∷ last.outcome ∷ bytes))
      (shown_append party (contents_of p ++ contents_of v) (contents_of q)
      ∙ ap (λ (bytes : List ℕ). bytes ++ items q) (shown_append party (contents_of p) (contents_of v)))

  pub view_long : length (view_bytes party (ledger_from file last p v (contents_of q))) ≡ view_size (length p) (length v) (length q)
  view_long =
      let a = length-append (head_bytes last) (items p) in
      let b = length-append (head_bytes last ++ items p) (items v) in
      let c = length-append (head_bytes last ++ items p ++ items v) (items q) in
      ap length view_parts ∙ (omega (arith, head_long, items_long p, items_long v, items_long q))

  -- The parts written one behind another.
  pub view_stored : (out first second third fourth : List ℕ) → view_size (length p) (length v) (length q) ≤ length out
      → first ≡ stored out 0 (head_bytes last) → second ≡ stored first 5 (items p)
      → third ≡ stored second (5 + 10 * (length p / 5)) (items v)
      → fourth ≡ stored third (5 + 10 * (length p / 5) + 10 * (length v / 5)) (items q)
      → fourth ≡ stored out 0 (view_bytes party (ledger_from file last p v (contents_of q)))
  view_stored out first second third fourth room a b c d =
      let x = length-append (head_bytes last) (items p) in
      let y = length-append (head_bytes last ++ items p) (items v) in
      let h = head_long in
      let i = items_long p in
      let j = items_long v in
      let two = joined out first second (head_bytes last) (items p) 5 a (omega arith) (omega arith) b in
      let three = joined out second third (head_bytes last ++ items p) (items v) _ two (omega arith) (omega arith) c in
      joined out third fourth (head_bytes last ++ items p ++ items v) (items q) _ three (omega arith) (omega arith) d ∙ ap (stored out 0) (sym view_parts)
