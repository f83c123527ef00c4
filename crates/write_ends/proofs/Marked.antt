-- Events and their end that a log holds: the end that is found is theirs.
use Rattle.std.specs.Prelude.{◌≡◌, ◌∷◌, ◌++◌, ◌+◌, ◌*◌}
use Rattle.kit.specs.Names.{refl, ap, sym, ◌∙◌, List, [], ℕ, arith, add-zero, length, drop, length-append}
use Rattle.kit.specs.Names.{drop-append-add}
use Rattle.definitions.specs.ContractFile.{Node}
use Rattle.rewrite_events.specs.Events.{Event, supplied_event, claimed_event, read_event, guard_event, end_event, variables_of, variable_count, Events, ended}
use Rattle.rewrite_events.specs.Ends.{Unended}
use Rattle.rewrite_events.proofs.Appended.{variable_count_append}
use Rattle.rewrite_log.specs.declared.Position.{Position}
use Rattle.rewrite_log.specs.Entries.{Entries, entry_then, supplied_entry, claimed_entry, read_entry, guard_entry, end_entry}
use Rattle.write_logged_steps.specs.Held.{Holds, HoldsEvents}
use Rattle.write_ends.specs.Ends.{numbers_to_end, variable_at_end, EndFound}

module _ (nodes : List Node) (j : ℕ) (back : List ℕ) where
  -- Numbers of events without an end, then their end, then others.
  marked_place : (events : List Event) (numbers : List ℕ) → Unended events → Entries nodes (events ++ (end_event j ∷ [])) numbers
      → numbers_to_end (numbers ++ back) ≡ 5 * (length events + 1)
  unfolding numbers_to_end Unended
  marked_place [] _ h (entry_then (end_entry i) rest) = refl
  marked_place (supplied_event i o e ∷ events) _ h (entry_then {numbers = numbers} (supplied_entry _ _ n below) rest) = let k = marked_place events numbers h rest in omega arith
  marked_place (claimed_event g i o e ∷ events) _ h (entry_then {numbers = numbers} (claimed_entry _ _ _ n below) rest) = let k = marked_place events numbers h rest in omega arith
  marked_place (read_event s i o e ∷ events) _ h (entry_then {numbers = numbers} (read_entry _ _ _ n below) rest) = let k = marked_place events numbers h rest in omega arith
  marked_place (guard_event i ∷ events) _ h (entry_then {numbers = numbers} (guard_entry _) rest) = let k = marked_place events numbers h rest in omega arith
  marked_place (end_event i ∷ events) _ h (entry_then _ rest) = absurd h

  marked_variable : (events : List Event) (numbers : List ℕ) → Unended events → Entries nodes (events ++ (end_event j ∷ [])) numbers
      → variable_at_end (numbers ++ back) ≡ j
  unfolding variable_at_end Unended
  marked_variable [] _ h (entry_then (end_entry i) rest) = refl
  marked_variable (supplied_event i o e ∷ events) _ h (entry_then {numbers = numbers} (supplied_entry _ _ n below) rest) = marked_variable events numbers h rest
  marked_variable (claimed_event g i o e ∷ events) _ h (entry_then {numbers = numbers} (claimed_entry _ _ _ n below) rest) = marked_variable events numbers h rest
  marked_variable (read_event s i o e ∷ events) _ h (entry_then {numbers = numbers} (read_entry _ _ _ n below) rest) = marked_variable events numbers h rest
  marked_variable (guard_event i ∷ events) _ h (entry_then {numbers = numbers} (guard_entry _) rest) = marked_variable events numbers h rest
  marked_variable (end_event i ∷ events) _ h (entry_then _ rest) = absurd h

pub behind : (log numbers : List ℕ) (from : ℕ) (h : Holds log numbers from) → drop from log ≡ numbers ++ h.back
behind log numbers from h =
    rw h.place (ap (λ (l : List ℕ). drop (length h.front) l) h.split
    ∙ ap (λ (n : ℕ). drop n (h.front ++ (numbers ++ h.back))) (sym (add-zero (length h.front)))
    ∙ drop-append-add h.front (numbers ++ h.back) 0)

-- What is found of a log that holds events and their end, from a first variable on.
module _ (nodes : List Node) (log : List ℕ) (from : ℕ) (events : Events) (i : ℕ) (unended : Unended (events i))
    (h : HoldsEvents nodes log from (ended events i)) (r : Position) (found : EndFound log from r) where
  pub end_place : r.at ≡ from + 5 * length (ended events i)
  unfolding ended
  end_place =
      let numbers = ap numbers_to_end (behind log h.numbers from h.holds) ∙ marked_place nodes _ h.holds.back (events i) h.numbers unended h.entries in
      let long = length-append (events i) (end_event (i + variable_count (events i)) ∷ []) in
      omega (arith, found.place)

  pub end_variable : r.variable ≡ i + variable_count (ended events i)
  unfolding ended variables_of
  end_variable =
      let made = variable_count_append (events i) (end_event (i + variable_count (events i)) ∷ []) in
      found.variable ∙ ap variable_at_end (behind log h.numbers from h.holds)
      ∙ marked_variable nodes _ h.holds.back (events i) h.numbers unended h.entries
      ∙ omega arith
