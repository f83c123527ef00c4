-- A log that holds events one after another holds the first, and behind them the others.
use Rattle.std.specs.Prelude.{◌≡◌, ◌∷◌, ◌++◌, ◌+◌, ◌*◌, ◌≤◌}
use Rattle.kit.specs.Names.{refl, ap, sym, ◌∙◌, List, [], append_assoc, ℕ, arith, length, length-append}
use Rattle.definitions.specs.ContractFile.{Node}
use Rattle.rewrite_events.specs.Events.{Event}
use Rattle.rewrite_log.specs.Entries.{Entries, no_entry, entry_then}
use Rattle.rewrite_log.proofs.FiveNumbers.{entries_length}
use Rattle.write_logged_steps.specs.Held.{HoldsEvents}

-- The numbers of events in two parts.
record Parts (nodes : List Node) (first second : List Event) (numbers : List ℕ) : Type 0 where
  front : List ℕ
  back : List ℕ
  split : numbers ≡ front ++ back
  entries_first : Entries nodes first front
  entries_second : Entries nodes second back

module _ (nodes : List Node) where
  apart : (first second : List Event) (numbers : List ℕ) → Entries nodes (first ++ second) numbers → Parts nodes first second numbers
  apart [] second numbers h = record { front = []; back = numbers; split = refl; entries_first = no_entry; entries_second = h }
  apart (event ∷ first) second _ (entry_then {entry = entry} {numbers = numbers} h rest) =
      let p = apart first second numbers rest in
      record {
        front = entry ++ p.front;
        back = p.back;
        split = ap (λ (l : List ℕ). entry ++ l) p.split ∙ sym (append_assoc entry p.front p.back);
        entries_first = entry_then h p.entries_first;
        entries_second = p.entries_second;
      }

  module _ (log : List ℕ) (from : ℕ) where
    pub holds_space : (events : List Event) → HoldsEvents nodes log from events → from + 5 * length events ≤ length log
    holds_space events h =
        let size = entries_length nodes h.entries in
        let whole = ap length h.holds.split ∙ length-append h.holds.front (h.numbers ++ h.holds.back) in
        let part = length-append h.numbers h.holds.back in
        omega (arith, h.holds.place)

    module _ (first second : List Event) (h : HoldsEvents nodes log from (first ++ second)) where
      parts : Parts nodes first second h.numbers
      parts = apart first second h.numbers h.entries

      whole : log ≡ h.holds.front ++ (parts.front ++ (parts.back ++ h.holds.back))
      whole =
          h.holds.split
          ∙ ap (λ (l : List ℕ). h.holds.front ++ l)
          (ap (λ (l : List ℕ). l ++ h.holds.back) parts.split ∙ append_assoc parts.front parts.back h.holds.back)

      pub holds_first : HoldsEvents nodes log from first
      holds_first =
          record {
            numbers = parts.front;
            entries = parts.entries_first;
            holds = record { front = h.holds.front; back = parts.back ++ h.holds.back; split = whole; place = h.holds.place };
          }

      pub holds_second : HoldsEvents nodes log (from + 5 * length first) second
      holds_second =
          let size = entries_length nodes parts.entries_first in
          let long = length-append h.holds.front parts.front in
          record {
            numbers = parts.back;
            entries = parts.entries_second;
            holds = record {
              front = h.holds.front ++ parts.front;
              back = h.holds.back;
              split = whole ∙ sym (append_assoc h.holds.front parts.front (parts.back ++ h.holds.back));
              place = omega (arith, h.holds.place);
            };
          }
