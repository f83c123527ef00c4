-- Steps of the loop that writes items one behind another.
use Rattle.std.specs.Prelude.{◌≡◌, ◌∷◌, ◌++◌, ◌+◌, ◌*◌, ◌/◌, ◌<◌, ◌≤◌}
use Rattle.kit.specs.Names.{refl, ap, sym, ◌∙◌, List, [], append_assoc, ℕ, arith, add-one, length, drop}
use Rattle.kit.specs.Names.{drop_of_length-le, length-append, drop-cons}
use Rattle.memory_buffer.specs.Buffer.{stored}
use Rattle.memory_buffer.proofs.Storing.{stored_nothing, stored_then}
use Rattle.definitions.specs.Basics.{flat_map}
use Rattle.definitions.specs.Ledger as ledger
use Rattle.definitions.specs.View.{item_for, item_bytes}
use Rattle.ledger_contents.specs.Contents.{contents_of}
use Rattle.ledger_contents.proofs.FlatContents.{length_contents_of}
use Rattle.view_item.specs.Items.{shown}
use Rattle.view_item.proofs.Bytes.{ten_bytes}

pub shown_append : (party : ℕ) (a b : List ledger.Content) → shown party (a ++ b) ≡ shown party a ++ shown party b
unfolding shown flat_map
shown_append party [] b = refl
shown_append party (c ∷ a) b =
    ap (λ (l : List ℕ). item_bytes (item_for party c) ++ l) (shown_append party a b)
    ∙ sym (append_assoc (item_bytes (item_for party c)) (shown party a) (shown party b))

pub shown_length : (party : ℕ) (contents : List ledger.Content) → length (shown party contents) ≡ 10 * length contents
unfolding shown flat_map
shown_length party [] = refl
shown_length party (c ∷ contents) =
    let rest = shown_length party contents in
    let one = ten_bytes (item_for party c) in
    let both = length-append (item_bytes (item_for party c)) (shown party contents) in
    omega arith

shown_step : (party : ℕ) (contents : List ledger.Content) (i : ℕ) → i < length contents
    → shown party (drop i contents) ≡ item_bytes (item_for party (ledger.content_at contents i)) ++ shown party (drop (i + 1) contents)
unfolding shown flat_map
shown_step party contents i h = rw (drop-cons contents i (ledger.Content.plain 0) h, add-one)

module _ (party : ℕ) (flat : List ℕ) where
  pub items_start : (at : ℕ) (out : List ℕ)
      → stored out (at + 10 * 0) (shown party (drop 0 (contents_of flat))) ≡ stored out at (shown party (contents_of flat))
  items_start at out =
      let e : at + 10 * 0 ≡ at = omega arith in
      rw e

  -- One content more is shown.
  pub items_next : (content : ledger.Content) (i at : ℕ) (out after goal : List ℕ) → i < length flat / 5 → at + 10 * i + 10 ≤ length out
      → content ≡ ledger.content_at (contents_of flat) i → after ≡ stored out (at + 10 * i) (item_bytes (item_for party content))
      → stored out (at + 10 * i) (shown party (drop i (contents_of flat))) ≡ goal
      → stored after (at + 10 * (i + 1)) (shown party (drop (i + 1) (contents_of flat))) ≡ goal
  items_next content i at out after goal h room read e inv =
      let n = length_contents_of flat in
      let bytes : List ℕ = item_bytes (item_for party content) in
      let ten : length bytes ≡ 10 = ten_bytes (item_for party content) in
      let k : at + 10 * (i + 1) ≡ at + 10 * i + length bytes = omega arith in
      let step : shown party (drop i (contents_of flat)) ≡ bytes ++ shown party (drop (i + 1) (contents_of flat)) =
      rw read (shown_step party (contents_of flat) i (omega arith)) in
      rw (e, k, stored_then out (at + 10 * i) bytes (shown party (drop (i + 1) (contents_of flat))) (omega arith), ← step) inv

  pub items_done : (i at : ℕ) (out goal : List ℕ) → length flat / 5 ≤ i → stored out (at + 10 * i) (shown party (drop i (contents_of flat))) ≡ goal
      → out ≡ goal
  unfolding shown flat_map
  items_done i at out goal h inv =
      let n = length_contents_of flat in
      let past : length (contents_of flat) ≤ i = omega arith in
      sym (stored_nothing out (at + 10 * i)) ∙ (rw (drop_of_length-le (contents_of flat) past) at inv)
