-- The steps that a log of events holds are those of the events.
use Rattle.std.specs.Prelude.{◌≡◌, ◌∷◌, ◌+◌}
use Rattle.kit.specs.Names.{refl, ap, ◌∙◌, false, List, ℕ, suc, eqb, length, get_or}
use Rattle.definitions.specs.ContractFile.{Scope, Node}
use Rattle.definitions.specs.Owners.{owner_of}
use Rattle.definitions.specs.Rewriting.{Step, in_body}
use Rattle.theory_trees.specs.Trees.{expression_in}
use Rattle.rewrite_events.specs.Events.{Event, steps_of}
use Rattle.rewrite_log.specs.Entries.{supplied_entry, claimed_entry, read_entry, guard_entry, end_entry, Entries, no_entry, entry_then}
use Rattle.write_steps.specs.Steps.{logged_steps}
use Rattle.write_logged_steps.specs.Held.{Holds}
use Rattle.write_logged_steps.proofs.Held.{holds_tag, holds_variable, holds_node, holds_last, holds_rest}

module _ (scope : Scope) (nodes : List Node) (log : List ℕ) where
  skipped : (from left tag : ℕ) → get_or log from 0 ≡ tag → eqb tag 2 ≡ false → logged_steps scope nodes log from (suc left) ≡ logged_steps scope nodes log (from + 5) left
  unfolding logged_steps
  skipped from left tag e t = rw (e, t)

  taken : (from left variable n s : ℕ) → get_or log from 0 ≡ 2 → get_or log (from + 1) 0 ≡ variable → get_or log (from + 3) 0 ≡ n → get_or log (from + 4) 0 ≡ s
      → logged_steps scope nodes log from (suc left)
      ≡ record { variable = variable; value = (in_body (owner_of scope) (expression_in nodes n) s).form } ∷ logged_steps scope nodes log (from + 5) left
  unfolding logged_steps
  taken from left variable n s e v m l = rw (e, v, m, l)

  pub steps_logged : (events : List Event) (numbers : List ℕ) → Entries nodes events numbers → (from : ℕ) → Holds log numbers from
      → logged_steps scope nodes log from (length events) ≡ steps_of scope events
  unfolding logged_steps steps_of
  steps_logged _ _ no_entry from holds = refl
  steps_logged _ _ (entry_then {events} {numbers} (supplied_entry i o n h) rest) from holds =
      skipped from (length events) 0 (holds_tag log numbers from _ _ _ _ _ holds) refl
      ∙ steps_logged events numbers rest (from + 5) (holds_rest log numbers from _ _ _ _ _ holds)
  steps_logged _ _ (entry_then {events} {numbers} (claimed_entry g i o n h) rest) from holds =
      skipped from (length events) 1 (holds_tag log numbers from _ _ _ _ _ holds) refl
      ∙ steps_logged events numbers rest (from + 5) (holds_rest log numbers from _ _ _ _ _ holds)
  steps_logged _ _ (entry_then {events} {numbers} (read_entry s j o n h) rest) from holds =
      taken from (length events) j n s (holds_tag log numbers from _ _ _ _ _ holds) (holds_variable log numbers from _ _ _ _ _ holds)
      (holds_node log numbers from _ _ _ _ _ holds) (holds_last log numbers from _ _ _ _ _ holds)
      ∙ ap (λ (steps : List Step). record { variable = j; value = (in_body (owner_of scope) (expression_in nodes n) s).form } ∷ steps)
      (steps_logged events numbers rest (from + 5) (holds_rest log numbers from _ _ _ _ _ holds))
  steps_logged _ _ (entry_then {events} {numbers} (guard_entry i) rest) from holds =
      skipped from (length events) 3 (holds_tag log numbers from _ _ _ _ _ holds) refl
      ∙ steps_logged events numbers rest (from + 5) (holds_rest log numbers from _ _ _ _ _ holds)
  steps_logged _ _ (entry_then {events} {numbers} (end_entry i) rest) from holds =
      skipped from (length events) 4 (holds_tag log numbers from _ _ _ _ _ holds) refl
      ∙ steps_logged events numbers rest (from + 5) (holds_rest log numbers from _ _ _ _ _ holds)
