-- The log of a statement that holds no other, by the kind of its node's record, from the logs of its expressions.
use Rattle.std.specs.Prelude.{◌≡◌, ◌<◌}
use Rattle.kit.specs.Names.{ap, sym, subst, true, List, ℕ, arith}
use Rattle.definitions.specs.ContractFile.{Statement, NodeRecord, node_count}
use Rattle.theory_trees.specs.Trees.{statement_in}
use Rattle.file_decoded.specs.Slices.{record_at}
use Rattle.file_accepted.specs.Context.{Context, nodes_in, scope_in}
use Rattle.theory_trees.proofs.ByKind.{still_is, assign_field_is, assign_entry_is, require_is, value_below, key_and_value_below, required_below}
use Rattle.file_accepted.proofs.Nodes.{node_reads}
use Rattle.rewrite_events.specs.Events.{Events, no_events}
use Rattle.rewrite_events.specs.Ends.{is_simple, simple_events}
use Rattle.rewrite_log.specs.declared.Position.{Position}
use Rattle.rewrite_log.specs.Entries.{guard_of}
use Rattle.rewrite_log.specs.Logs.{Room, Logged}
use Rattle.rewrite_log.proofs.FiveNumbers.{nothing_logged}
use Rattle.rewrite_expressions.specs.Translations.{body_of, Ready}
use Rattle.rewrite_assignments.specs.Placing.{assign_field_of, assign_entry_of}
use Rattle.rewrite_simple_statements.specs.Simple.{simple_of}
use Rattle.rewrite_simple_statements.proofs.ByKind.{no_sequence, no_conditional}

module _ (file : List ℕ) (function_start : ℕ) (source : List ℕ) (context : Context file function_start source) (guard : ℕ) (n : ℕ) (before : List ℕ) (p : Position)
    (ready : Ready file n before p (simple_of file function_start guard n)) (r : NodeRecord) (same : r ≡ record_at source n) where
  abbrev whole : Events
  whole = simple_of file function_start guard n

  logged_as : (after : List ℕ) (q : Position) (events : Events) → whole ≡ events → Logged (nodes_in file) before after p q (events p.variable)
      → Logged (nodes_in file) before after p q (whole p.variable)
  logged_as after q events e h = subst (λ (x : Events). Logged (nodes_in file) before after p q (x p.variable)) (sym e) h

  part : (m : ℕ) (events : Events) → m < n → whole ≡ events → Ready file m before p events
  part m events less e =
      record {
        inside = omega (arith, ready.inside);
        room = subst (λ (x : Events). Room before p (x p.variable)) e ready.room;
      }

  statement_as : (s : Statement) → statement_in (nodes_in file) n ≡ s → whole ≡ simple_events (scope_in file function_start) s (guard_of guard)
  statement_as s e = ap (λ (x : Statement). simple_events (scope_in file function_start) x (guard_of guard)) e

  pub still_logged : is_simple (statement_in (nodes_in file) n) ≡ true → (r.kind ≡ 18 → ⊥) → (r.kind ≡ 19 → ⊥) → (r.kind ≡ 20 → ⊥)
      → Logged (nodes_in file) before before p p (whole p.variable)
  unfolding simple_events no_events
  still_logged simple a b c =
      logged_as before p no_events (statement_as _ (still_is (node_reads file function_start source context n ready.inside r same)
      (record {
        sequence = no_sequence file function_start source context n ready.inside r same simple;
        assign_field = a;
        assign_entry = b;
        require = c;
        conditional = no_conditional file function_start source context n ready.inside r same simple;
      }))) (nothing_logged (nodes_in file) before p)

  module _ (k : r.kind ≡ 18) where
    assign_field_events : whole ≡ assign_field_of file function_start guard r.arg r.first
    unfolding simple_events
    assign_field_events = statement_as _ (assign_field_is (node_reads file function_start source context n ready.inside r same) k)

    pub assign_field_ready : Ready file r.first before p (assign_field_of file function_start guard r.arg r.first)
    assign_field_ready = part r.first _ (value_below (node_reads file function_start source context n ready.inside r same) k) assign_field_events

    pub assign_field_logged : (after : List ℕ) (q : Position) → Logged (nodes_in file) before after p q (assign_field_of file function_start guard r.arg r.first p.variable)
        → Logged (nodes_in file) before after p q (whole p.variable)
    assign_field_logged after q h = logged_as after q (assign_field_of file function_start guard r.arg r.first) assign_field_events h

  module _ (k : r.kind ≡ 19) where
    assign_entry_events : whole ≡ assign_entry_of file function_start guard r.arg r.first r.second
    unfolding simple_events
    assign_entry_events = statement_as _ (assign_entry_is (node_reads file function_start source context n ready.inside r same) k)

    pub entry_value_inside : r.second < node_count file
    entry_value_inside = let less = (key_and_value_below (node_reads file function_start source context n ready.inside r same) k).1 in omega (arith, ready.inside)

    pub assign_entry_ready : Ready file r.first before p (assign_entry_of file function_start guard r.arg r.first r.second)
    assign_entry_ready = part r.first _ (key_and_value_below (node_reads file function_start source context n ready.inside r same) k).0 assign_entry_events

    pub assign_entry_logged : (after : List ℕ) (q : Position)
        → Logged (nodes_in file) before after p q (assign_entry_of file function_start guard r.arg r.first r.second p.variable)
        → Logged (nodes_in file) before after p q (whole p.variable)
    assign_entry_logged after q h = logged_as after q (assign_entry_of file function_start guard r.arg r.first r.second) assign_entry_events h

  module _ (k : r.kind ≡ 20) where
    require_events : whole ≡ body_of file function_start guard r.first
    unfolding simple_events
    require_events = statement_as _ (require_is (node_reads file function_start source context n ready.inside r same) k)

    pub require_ready : Ready file r.first before p (body_of file function_start guard r.first)
    require_ready = part r.first _ (required_below (node_reads file function_start source context n ready.inside r same) k) require_events

    pub require_logged : (after : List ℕ) (q : Position) → Logged (nodes_in file) before after p q (body_of file function_start guard r.first p.variable)
        → Logged (nodes_in file) before after p q (whole p.variable)
    require_logged after q h = logged_as after q (body_of file function_start guard r.first) require_events h
