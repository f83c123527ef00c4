-- The log of a statement, by the kind of its node's record, from the logs of its parts.
use Rattle.std.specs.Prelude.{◌≡◌, ◌+◌, ◌<◌}
use Rattle.kit.specs.Names.{ap, sym, subst, true, List, ℕ, arith}
use Rattle.definitions.specs.ContractFile.{Statement, NodeRecord}
use Rattle.theory_trees.specs.Trees.{statement_in}
use Rattle.file_accepted.specs.Context.{Context, nodes_in, scope_in}
use Rattle.theory_trees.proofs.ByKind.{sequence_is, conditional_is, steps_below, branches_below}
use Rattle.file_accepted.proofs.Nodes.{node_reads}
use Rattle.rewrite_events.specs.Events.{Events, in_turn, statement_events}
use Rattle.rewrite_events.specs.Ends.{is_simple}
use Rattle.rewrite_log.specs.declared.Position.{Position}
use Rattle.rewrite_log.specs.Entries.{guard_of, five}
use Rattle.rewrite_log.specs.Logs.{Slot, Wrote, Room, Logged, SmallEntry}
use Rattle.rewrite_log.proofs.Turns.{turn_first, turn_second, turn_logged, branch_slot, branch_inside, branch_logged}
use Rattle.rewrite_expressions.specs.Translations.{statement_of, Ready}
use Rattle.rewrite_assignments.specs.Placing.{branch_of}
use Rattle.rewrite_simple_statements.specs.Simple.{condition_of}
use Rattle.rewrite_simple_statements.proofs.ByKind.{others_simple}
use Rattle.file_decoded.specs.Slices.{record_at}

module _ (file : List ℕ) (function_start : ℕ) (source : List ℕ) (context : Context file function_start source) (guard : ℕ) (n : ℕ) (before : List ℕ) (p : Position)
    (ready : Ready file n before p (statement_of file function_start guard n)) (r : NodeRecord) (same : r ≡ record_at source n) where
  abbrev whole : Events
  whole = statement_of file function_start guard n

  logged_as : (after : List ℕ) (q : Position) (events : Events) → whole ≡ events → Logged (nodes_in file) before after p q (events p.variable)
      → Logged (nodes_in file) before after p q (whole p.variable)
  logged_as after q events e h = subst (λ (x : Events). Logged (nodes_in file) before after p q (x p.variable)) (sym e) h

  room_as : (events : Events) → whole ≡ events → Room before p (events p.variable)
  room_as events e = subst (λ (x : Events). Room before p (x p.variable)) e ready.room

  part : (m : ℕ) (log : List ℕ) (q : Position) (events : Events) → m < n → Room log q (events q.variable) → Ready file m log q events
  part m log q events less room = record { inside = omega (arith, ready.inside); room = room }

  statement_as : (s : Statement) → statement_in (nodes_in file) n ≡ s → whole ≡ statement_events (scope_in file function_start) s (guard_of guard)
  statement_as s e = ap (λ (x : Statement). statement_events (scope_in file function_start) x (guard_of guard)) e

  -- Every kind but a sequence's and a conditional's holds no other statement.
  pub others_ready : (r.kind ≡ 17 → ⊥) → (r.kind ≡ 21 → ⊥) → (is_simple (statement_in (nodes_in file) n) ≡ true) × (Ready file n before p whole)
  others_ready a b = (others_simple file function_start source context n ready.inside r same a b, ready)

  module _ (k : r.kind ≡ 17) where
    sequence_events : whole ≡ in_turn (statement_of file function_start guard r.first) (statement_of file function_start guard r.second)
    unfolding statement_events
    sequence_events = statement_as _ (sequence_is (node_reads file function_start source context n ready.inside r same) k)

    pub steps_less : (r.first < n) × (r.second < n)
    steps_less = steps_below (node_reads file function_start source context n ready.inside r same) k

    pub first_ready : Ready file r.first before p (statement_of file function_start guard r.first)
    first_ready = part r.first before p (statement_of file function_start guard r.first) steps_less.0 (turn_first (nodes_in file) before before p p _ (statement_of file function_start guard r.second) (room_as _ sequence_events))

    module _ (middle : List ℕ) (q : Position) (logged : Logged (nodes_in file) before middle p q (statement_of file function_start guard r.first p.variable)) where
      pub second_ready : Ready file r.second middle q (statement_of file function_start guard r.second)
      second_ready = part r.second middle q (statement_of file function_start guard r.second) steps_less.1 (turn_second (nodes_in file) before middle p q (statement_of file function_start guard r.first) (statement_of file function_start guard r.second) (room_as _ sequence_events) logged)

      pub sequence_logged : (after : List ℕ) (s : Position) → Logged (nodes_in file) middle after q s (statement_of file function_start guard r.second q.variable)
          → Logged (nodes_in file) before after p s (whole p.variable)
      sequence_logged after s h =
          logged_as after s _ sequence_events
          (turn_logged (nodes_in file) before middle p q (statement_of file function_start guard r.first) (statement_of file function_start guard r.second) (room_as _ sequence_events) after s logged h)

  module _ (k : r.kind ≡ 21) where
    abbrev condition : Events
    condition = condition_of file function_start guard r.first

    abbrev then : Events
    then = branch_of file function_start r.second

    abbrev else : Events
    else = branch_of file function_start r.third

    conditional_events : whole ≡ in_turn condition (in_turn then else)
    unfolding statement_events
    conditional_events = statement_as _ (conditional_is (node_reads file function_start source context n ready.inside r same) k)

    pub branches_less : (r.first < n) × ((r.second < n) × (r.third < n))
    branches_less = branches_below (node_reads file function_start source context n ready.inside r same) k

    pub condition_ready : Ready file r.first before p condition
    condition_ready = part r.first before p condition branches_less.0 (turn_first (nodes_in file) before before p p condition (in_turn then else) (room_as _ conditional_events))

    module _ (first : List ℕ) (q : Position) (logged : Logged (nodes_in file) before first p q (condition p.variable)) where
      both_room : Room first q (in_turn then else q.variable)
      both_room = turn_second (nodes_in file) before first p q condition (in_turn then else) (room_as _ conditional_events) logged

      pub then_ready : Ready file r.second first q then
      then_ready = part r.second first q then branches_less.1.0 (turn_first (nodes_in file) first first q q then else both_room)

      module _ (second : List ℕ) (s : Position) (chosen : Logged (nodes_in file) first second q s (then q.variable)) where
        pub else_ready : Ready file r.third second s else
        else_ready = part r.third second s else branches_less.1.1 (turn_second (nodes_in file) first second q s then else both_room chosen)

        pub conditional_logged : (after : List ℕ) (t : Position) → Logged (nodes_in file) second after s t (else s.variable)
            → Logged (nodes_in file) before after p t (whole p.variable)
        conditional_logged after t h =
            logged_as after t (in_turn condition (in_turn then else)) conditional_events
            (turn_logged (nodes_in file) before first p q condition (in_turn then else) (room_as _ conditional_events) after t logged
            (turn_logged (nodes_in file) first second q s then else both_room after t chosen h))

module _ (file : List ℕ) (function_start n : ℕ) (before : List ℕ) (p : Position) (ready : Ready file n before p (branch_of file function_start n)) where
  pub guard_slot : Slot before p 1
  guard_slot = branch_slot (nodes_in file) _ before before p p ready.room

  pub guard_small : SmallEntry (record { tag = 3; variable = p.variable; owner = 0; node = 0; last = 0 })
  guard_small =
      record { tag = omega arith; variable = omega (arith, guard_slot.few); owner = omega arith; node = omega arith; last = omega arith }

  module _ (middle : List ℕ) (q : Position) (wrote : Wrote before middle p q (five 3 p.variable 0 0 0) 1) where
    pub inside_ready : Ready file n middle q (statement_of file function_start (p.variable + 1) n)
    inside_ready =
        record { inside = ready.inside; room = branch_inside (nodes_in file) (statement_events (scope_in file function_start) _) before middle p q ready.room wrote }

    pub branch_done : (after : List ℕ) (r : Position) → Logged (nodes_in file) middle after q r (statement_of file function_start (p.variable + 1) n q.variable)
        → Logged (nodes_in file) before after p r (branch_of file function_start n p.variable)
    branch_done after r h = branch_logged (nodes_in file) _ before middle p q ready.room wrote after r h
