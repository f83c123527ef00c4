-- The log of events and of their end.
use Rattle.std.specs.Prelude.{◌≡◌}
use Rattle.kit.specs.Names.{sym, subst, true, List, ℕ}
use Rattle.theory_trees.specs.Trees.{statement_in}
use Rattle.file_accepted.specs.Context.{nodes_in, scope_in}
use Rattle.rewrite_events.specs.Events.{Events, ended}
use Rattle.rewrite_events.specs.Ends.{is_simple}
use Rattle.rewrite_events.proofs.Ends.{simple_ended}
use Rattle.rewrite_log.specs.declared.Position.{Position}
use Rattle.rewrite_log.specs.Entries.{guard_of, five}
use Rattle.rewrite_log.specs.Logs.{Slot, Wrote, Logged}
use Rattle.rewrite_log.proofs.Turns.{ended_parts, end_slot, ended_logged}
use Rattle.rewrite_expressions.specs.Translations.{statement_of, Ready}
use Rattle.rewrite_simple_statements.specs.Simple.{simple_of}

-- Node n's events, and then their end.
module _ (file : List ℕ) (n : ℕ) (before : List ℕ) (p : Position) (events : Events)
    (ready : Ready file n before p (ended events)) where
  pub parts_ready : Ready file n before p events
  parts_ready = record { inside = ready.inside; room = ended_parts (nodes_in file) events before before p p ready.room }

  module _ (first : List ℕ) (q : Position) (logged : Logged (nodes_in file) before first p q (events p.variable)) where
    pub end_ready : Slot first q 0
    end_ready = end_slot (nodes_in file) events before first p q ready.room logged

    pub end_written : (after : List ℕ) (r : Position) → Wrote first after q r (five 4 q.variable 0 0 0) 0
        → Logged (nodes_in file) before after p r (ended events p.variable)
    end_written after r w = ended_logged (nodes_in file) events before first p q ready.room logged after r w

module _ (file : List ℕ) (function_start guard n : ℕ) (simple : is_simple (statement_in (nodes_in file) n) ≡ true) where
  whole_is : statement_of file function_start guard n ≡ ended (simple_of file function_start guard n)
  whole_is = simple_ended (scope_in file function_start) (statement_in (nodes_in file) n) (guard_of guard) simple

  pub simple_ready : (log : List ℕ) (p : Position) → Ready file n log p (statement_of file function_start guard n)
      → Ready file n log p (ended (simple_of file function_start guard n))
  simple_ready log p h = subst (λ (x : Events). Ready file n log p x) whole_is h

  pub simple_logged : (before after : List ℕ) (p r : Position) → Logged (nodes_in file) before after p r (ended (simple_of file function_start guard n) p.variable)
      → Logged (nodes_in file) before after p r (statement_of file function_start guard n p.variable)
  simple_logged before after p r h = subst (λ (x : Events). Logged (nodes_in file) before after p r (x p.variable)) (sym whole_is) h
