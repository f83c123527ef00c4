-- A log of events whose reads are few can be read for its steps.
use Rattle.std.specs.Prelude.{◌≡◌, ◌++◌, ◌+◌, ◌*◌, ◌<◌, ◌≤◌}
use Rattle.kit.specs.Names.{refl, ap, sym, ◌∙◌, List, ℕ, zero, suc, arith, length, get_or, length-append}
use Rattle.definitions.specs.ContractFile.{node_count, Node}
use Rattle.theory_trees.specs.Trees.{expression_in}
use Rattle.file_accepted.specs.Context.{nodes_in, scope_in}
use Rattle.write_variable_counts.specs.Counts.{body_count}
use Rattle.rewrite_events.specs.Events.{Event}
use Rattle.rewrite_log.specs.Entries.{supplied_entry, claimed_entry, read_entry, guard_entry, end_entry, Entries, no_entry, entry_then}
use Rattle.write_steps.specs.Steps.{Readable}
use Rattle.write_logged_steps.specs.Held.{Holds, ReadsWithin}
use Rattle.write_logged_steps.proofs.Held.{holds_tag, holds_node, holds_last, holds_rest}

pub entries_length : (nodes : List Node) (events : List Event) (numbers : List ℕ) → Entries nodes events numbers → length numbers ≡ 5 * length events
entries_length nodes _ _ no_entry = refl
entries_length nodes _ _ (entry_then {events} {numbers} (supplied_entry i o n h) rest) = let k = entries_length nodes events numbers rest in omega arith
entries_length nodes _ _ (entry_then {events} {numbers} (claimed_entry g i o n h) rest) = let k = entries_length nodes events numbers rest in omega arith
entries_length nodes _ _ (entry_then {events} {numbers} (read_entry s j o n h) rest) = let k = entries_length nodes events numbers rest in omega arith
entries_length nodes _ _ (entry_then {events} {numbers} (guard_entry i) rest) = let k = entries_length nodes events numbers rest in omega arith
entries_length nodes _ _ (entry_then {events} {numbers} (end_entry i) rest) = let k = entries_length nodes events numbers rest in omega arith

-- What is asked of the entry at a place.
record Fit (file : List ℕ) (function_start : ℕ) (log : List ℕ) (at : ℕ) : Type 0 where
  pub inside : get_or log (at + 3) 0 < node_count file
  pub few : get_or log (at + 4) 0 + body_count (scope_in file function_start) (expression_in (nodes_in file) (get_or log (at + 3) 0)) ≤ 65535

module _ (file : List ℕ) (function_start : ℕ) (counted : length (nodes_in file) ≡ node_count file) (log : List ℕ) where
  never : (from k tag : ℕ) → get_or log from 0 ≡ tag → (tag ≡ 2 → ⊥) → from + 5 * 0 ≡ from → get_or log (from + 5 * 0) 0 ≡ 2 → Fit file function_start log (from + 5 * 0)
  never from k tag e other place h = absurd (other (sym e ∙ ap (λ (n : ℕ). get_or log n 0) (sym place) ∙ h))

  later : (from k : ℕ) → (get_or log (from + 5 + 5 * k) 0 ≡ 2 → Fit file function_start log (from + 5 + 5 * k)) → get_or log (from + 5 * suc k) 0 ≡ 2
      → Fit file function_start log (from + 5 * suc k)
  later from k f = let e : from + 5 * suc k ≡ from + 5 + 5 * k = omega arith in rw e f

  first : (from s n : ℕ) → get_or log (from + 3) 0 ≡ n → get_or log (from + 4) 0 ≡ s → n < length (nodes_in file)
      → s + body_count (scope_in file function_start) (expression_in (nodes_in file) n) ≤ 65535 → Fit file function_start log (from + 5 * 0)
  first from s n node last inside few =
      let e : from + 5 * 0 ≡ from = omega arith in
      rw e (record { inside = rw (node, ← counted) inside; few = rw (node, last) few })

  fit : (events : List Event) (numbers : List ℕ) → Entries (nodes_in file) events numbers → (from : ℕ) → Holds log numbers from → ReadsWithin (scope_in file function_start) 65535 events
      → (k : ℕ) → k < length events → get_or log (from + 5 * k) 0 ≡ 2 → Fit file function_start log (from + 5 * k)
  unfolding ReadsWithin
  fit _ _ no_entry from holds few k less = absurd (omega arith)
  fit _ _ (entry_then {events} {numbers} (supplied_entry i o n h) rest) from holds few zero less =
      never from 0 0 (holds_tag log numbers from _ _ _ _ _ holds) (λ e. omega arith) (omega arith)
  fit _ _ (entry_then {events} {numbers} (supplied_entry i o n h) rest) from holds few (suc k) less =
      later from k (fit events numbers rest (from + 5) (holds_rest log numbers from _ _ _ _ _ holds) few k (omega arith))
  fit _ _ (entry_then {events} {numbers} (claimed_entry g i o n h) rest) from holds few zero less =
      never from 0 1 (holds_tag log numbers from _ _ _ _ _ holds) (λ e. omega arith) (omega arith)
  fit _ _ (entry_then {events} {numbers} (claimed_entry g i o n h) rest) from holds few (suc k) less =
      later from k (fit events numbers rest (from + 5) (holds_rest log numbers from _ _ _ _ _ holds) few k (omega arith))
  fit _ _ (entry_then {events} {numbers} (read_entry s j o n h) rest) from holds few zero less =
      λ tag. first from s n (holds_node log numbers from _ _ _ _ _ holds) (holds_last log numbers from _ _ _ _ _ holds) h few.0
  fit _ _ (entry_then {events} {numbers} (read_entry s j o n h) rest) from holds few (suc k) less =
      later from k (fit events numbers rest (from + 5) (holds_rest log numbers from _ _ _ _ _ holds) few.1 k (omega arith))
  fit _ _ (entry_then {events} {numbers} (guard_entry i) rest) from holds few zero less =
      never from 0 3 (holds_tag log numbers from _ _ _ _ _ holds) (λ e. omega arith) (omega arith)
  fit _ _ (entry_then {events} {numbers} (guard_entry i) rest) from holds few (suc k) less =
      later from k (fit events numbers rest (from + 5) (holds_rest log numbers from _ _ _ _ _ holds) few k (omega arith))
  fit _ _ (entry_then {events} {numbers} (end_entry i) rest) from holds few zero less =
      never from 0 4 (holds_tag log numbers from _ _ _ _ _ holds) (λ e. omega arith) (omega arith)
  fit _ _ (entry_then {events} {numbers} (end_entry i) rest) from holds few (suc k) less =
      later from k (fit events numbers rest (from + 5) (holds_rest log numbers from _ _ _ _ _ holds) few k (omega arith))

  pub readable : (events : List Event) (numbers : List ℕ) → Entries (nodes_in file) events numbers → (from : ℕ) → Holds log numbers from → ReadsWithin (scope_in file function_start) 65535 events
      → Readable file function_start log from (length events)
  readable events numbers entries from holds few =
      let long = entries_length (nodes_in file) events numbers entries in
      let whole = ap length holds.split ∙ length-append holds.front (numbers ++ holds.back) in
      let part = length-append numbers holds.back in
      record {
        space = omega (arith, holds.place);
        inside = λ k less tag. (fit events numbers entries from holds few k less tag).inside;
        few = λ k less tag. (fit events numbers entries from holds few k less tag).few;
      }
