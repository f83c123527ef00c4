-- Five numbers one after another, and events one after another.
use Rattle.std.specs.Prelude.{◌≡◌, ◌∷◌, ◌++◌, ◌+◌, ◌*◌, ◌≤◌}
use Rattle.kit.specs.Names.{refl, ap, ap₂, sym, ◌∙◌, List, [], append_assoc, append-nil, ℕ, arith, length}
use Rattle.kit.specs.Names.{length-append}
use Rattle.definitions.specs.ContractFile.{Node}
use Rattle.memory_buffer.specs.Buffer.{stored}
use Rattle.memory_buffer.proofs.Storing.{stored_length, stored_nothing, stored_then}
use Rattle.rewrite_events.specs.Events.{Event, variables_of, variable_count}
use Rattle.rewrite_events.proofs.Appended.{variables_append}
use Rattle.rewrite_log.specs.declared.Position.{Position}
use Rattle.rewrite_log.specs.Entries.{five, IsEntry, supplied_entry, claimed_entry, read_entry, guard_entry, end_entry, Entries, no_entry, entry_then}
use Rattle.rewrite_log.specs.Logs.{Slot, Wrote, Room, Logged}

-- Five numbers stored one after another.
pub five_stored : (log first second third fourth last : List ℕ) (at a b c d e : ℕ) → at + 5 ≤ length log → first ≡ stored log at (a ∷ [])
    → second ≡ stored first (at + 1) (b ∷ []) → third ≡ stored second (at + 2) (c ∷ []) → fourth ≡ stored third (at + 3) (d ∷ [])
    → last ≡ stored fourth (at + 4) (e ∷ []) → last ≡ stored log at (five a b c d e)
five_stored log first second third fourth last at a b c d e fits h k l m n =
    n ∙ ap (λ (x : List ℕ). stored x (at + 4) (e ∷ [])) (m ∙ ap (λ (x : List ℕ). stored x (at + 3) (d ∷ [])) (l ∙ ap (λ (x : List ℕ). stored x (at + 2) (c ∷ [])) (k ∙ ap (λ (x : List ℕ). stored x (at + 1) (b ∷ [])) h
    ∙ stored_then log at (a ∷ []) (b ∷ []) (omega arith)) ∙ stored_then log at (a ∷ b ∷ []) (c ∷ []) (omega arith)) ∙ stored_then log at (a ∷ b ∷ c ∷ []) (d ∷ []) (omega arith))
    ∙ stored_then log at (a ∷ b ∷ c ∷ d ∷ []) (e ∷ []) (omega arith)

module _ (nodes : List Node) where
  entry_length : {event : Event} {entry : List ℕ} → IsEntry nodes event entry → length entry ≡ 5
  entry_length (supplied_entry i o n h) = refl
  entry_length (claimed_entry g i o n h) = refl
  entry_length (read_entry s j o n h) = refl
  entry_length (guard_entry i) = refl
  entry_length (end_entry i) = refl

  pub entries_length : {events : List Event} {numbers : List ℕ} → Entries nodes events numbers → length numbers ≡ 5 * length events
  entries_length no_entry = refl
  entries_length (entry_then {event} {entry} {events} {numbers} h k) = omega (arith, length-append entry numbers, entry_length h, entries_length k)

  pub entries_append : {first : List Event} {second : List Event} {a b : List ℕ} → Entries nodes first a → Entries nodes second b → Entries nodes (first ++ second) (a ++ b)
  entries_append no_entry k = k
  entries_append {second = second} {b = b} (entry_then {event} {entry} {events} {numbers} h rest) k =
      rw (append_assoc entry numbers b) (entry_then h (entries_append rest k))

  pub nothing_logged : (log : List ℕ) (p : Position) → Logged nodes log log p p []
  unfolding variables_of
  nothing_logged log p =
      record { numbers = []; entries = no_entry; held = sym (stored_nothing log p.at); next = omega arith; variable = omega arith }

  pub one_logged : (before after : List ℕ) (p r : Position) (event : Event) (numbers : List ℕ) (made : ℕ) → IsEntry nodes event numbers
      → variable_count (event ∷ []) ≡ made → Wrote before after p r numbers made → Logged nodes before after p r (event ∷ [])
  one_logged before after p r event numbers made h m w =
      record {
        numbers = numbers ++ [];
        entries = entry_then h no_entry;
        held = w.held ∙ ap (stored before p.at) (sym (append-nil numbers));
        next = w.next;
        variable = rw m w.variable;
      }

  module _ (before middle : List ℕ) (p q : Position) (first : List Event) (logged : Logged nodes before middle p q first) where
    pub then_logged : (after : List ℕ) (r : Position) (second : List Event) → Room before p (first ++ second) → Logged nodes middle after q r second
        → Logged nodes before after p r (first ++ second)
    then_logged after r second room k =
        let size = entries_length logged.entries in
        let length_both = length-append first second in
        let count_both : variable_count (first ++ second) ≡ variable_count first + variable_count second =
        ap length (variables_append first second) ∙ length-append (variables_of first) (variables_of second) in
        let place : q.at ≡ p.at + length logged.numbers = logged.next ∙ ap (λ (n : ℕ). p.at + n) (sym size) in
        let inside : p.at + length logged.numbers ≤ length before = omega (arith, room.space) in
        record {
          numbers = logged.numbers ++ k.numbers;
          entries = entries_append logged.entries k.entries;
          held =
              k.held ∙ ap₂ (λ (l : List ℕ) (n : ℕ). stored l n k.numbers) logged.held place
              ∙ stored_then before p.at logged.numbers k.numbers inside;
          next = omega (arith, k.next, logged.next);
          variable = omega (arith, k.variable, logged.variable);
        }

    pub room_second : (second : List Event) → Room before p (first ++ second) → Room middle q second
    room_second second room =
        let size = entries_length logged.entries in
        let length_both = length-append first second in
        let count_both : variable_count (first ++ second) ≡ variable_count first + variable_count second =
        ap length (variables_append first second) ∙ length-append (variables_of first) (variables_of second) in
        let inside : p.at + length logged.numbers ≤ length before = omega (arith, room.space) in
        let long : length middle ≡ length before = ap length logged.held ∙ stored_length before p.at logged.numbers inside in
        record { space = omega (arith, room.space, logged.next); few = omega (arith, room.few, logged.variable) }

pub room_first : (log : List ℕ) (p : Position) (first second : List Event) → Room log p (first ++ second) → Room log p first
room_first log p first second room =
    let length_both = length-append first second in
    let count_both : variable_count (first ++ second) ≡ variable_count first + variable_count second =
    ap length (variables_append first second) ∙ length-append (variables_of first) (variables_of second) in
    record { space = omega (arith, room.space); few = omega (arith, room.few) }

pub slot_in : (log : List ℕ) (p : Position) (event : Event) (made : ℕ) → variable_count (event ∷ []) ≡ made → Room log p (event ∷ []) → Slot log p made
slot_in log p event made m room = record { space = room.space; few = omega (arith, room.few) }
