-- The cases of a request for a view.
use Rattle.std.specs.Prelude.{◌≡◌, ◌||◌, ◌++◌, ◌<◌, ◌≤◌}
use Rattle.kit.specs.Names.{sym, ◌∙◌, Bool, true, false, not, or-true, List, ℕ, zero-add, arith, ltb, length, drop}
use Rattle.kit.specs.Names.{lt-ltb, le-ltb}
use Rattle.memory_buffer.specs.Buffer.{stored}
use Rattle.definitions.specs.Basics.{first_that_holds}
use Rattle.definitions.specs.Ledger as ledger
use Rattle.definitions.specs.Ledger.{is_well_formed}
use Rattle.definitions.specs.View.{view_bytes, view_number, view_length, output_after_view}
use Rattle.ledger_contents.specs.Contents.{contents_of}
use Rattle.ledger_struct.specs.declared.LastCall.{LastCall}
use Rattle.ledger_struct.specs.Ledgers.{ledger_from}
use Rattle.view_bytes.specs.Views.{view_size, Viewed}
use Rattle.view_bytes.proofs.Views.{view_long}

front : (held values : List ℕ) → stored held 0 values ≡ values ++ drop (length values) held
unfolding stored
front held values = rw (zero-add (length values))

module _ (party : ℕ) (l : ledger.Ledger) (before : List ℕ) where
  abbrev sentence : Bool
  sentence = not (is_well_formed l) || ltb 15 party || ltb (length before) (length (view_bytes party l))

  refused : sentence ≡ true → Viewed party l before before (record { number = 21; length = 0 })
  unfolding view_number view_length output_after_view first_that_holds
  refused holds = record { number = rw holds; long = rw holds; output = rw holds }

  pub refused_party : 15 < party → Viewed party l before before (record { number = 21; length = 0 })
  refused_party above = refused (rw (lt-ltb 15 party above, or-true))

module _ (party : ℕ) (file : List ℕ) (last : LastCall) (p v q before : List ℕ) where
  abbrev l : ledger.Ledger
  l = ledger_from file last p v (contents_of q)

  abbrev refusal : Type 0
  refusal = Viewed party l before before (record { number = 21; length = 0 })

  pub refused_room : length before < view_size (length p) (length v) (length q) → refusal
  refused_room short = refused party l before (rw (lt-ltb (length before) (length (view_bytes party l)) (omega (arith, view_long party file last p v q)), or-true))

  pub refused_form : (form : Bool) → form ≡ is_well_formed l → form ≡ false → refusal
  refused_form form told off = refused party l before (rw (← told, off))

  pub accepted : (after : List ℕ) (n : ℕ) (form : Bool) → party ≤ 15 → n ≡ view_size (length p) (length v) (length q) → n ≤ length before
      → form ≡ is_well_formed l → form ≡ true → after ≡ stored before 0 (view_bytes party l)
      → Viewed party l before after (record { number = 0; length = n })
  unfolding view_number view_length output_after_view first_that_holds
  accepted after n form low size room told on e =
      let long = size ∙ sym (view_long party file last p v q) in
      let holds : sentence party l before ≡ false = rw (← told, on, le-ltb 15 party low, le-ltb (length before) (length (view_bytes party l)) (omega arith)) in
      record { number = rw holds; long = rw holds long; output = rw holds (e ∙ front before (view_bytes party l)) }
