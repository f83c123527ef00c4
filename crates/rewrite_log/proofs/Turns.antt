-- The log of parts in turn, of what is supplied, of what is read, of what ends and of a branch, each from the logs of its parts.
use Rattle.std.specs.Prelude.{◌≡◌, ◌∷◌, ◌++◌, ◌+◌, ◌<◌}
use Rattle.kit.specs.Names.{refl, ap, sym, subst, ◌∙◌, List, [], ℕ, zero, suc, arith, add-one, length}
use Rattle.definitions.specs.ContractFile.{Owner, Expression, owner_code, Node}
use Rattle.definitions.specs.Rewriting.{Guard, guard_number}
use Rattle.theory_trees.specs.Trees.{expression_in}
use Rattle.rewrite_events.specs.Events.{supplied_event, claimed_event, read_event, guard_event, end_event, variables_of, variable_count, Events, in_turn, supply_events, read_events, ended, branch_events}
use Rattle.rewrite_log.specs.declared.Position.{Position}
use Rattle.rewrite_log.specs.Entries.{guard_of, five, supplied_entry, claimed_entry, read_entry, guard_entry, end_entry}
use Rattle.rewrite_log.specs.Logs.{Slot, Wrote, Room, Logged}
use Rattle.rewrite_log.proofs.FiveNumbers.{one_logged, then_logged, room_first, room_second, slot_in}

pub guard_number_law : (n : ℕ) → guard_number (guard_of n) ≡ n
guard_number_law zero = refl
guard_number_law (suc n) = omega arith

one_made : (i : ℕ) (o : Owner) (e : Expression) → variable_count (supplied_event i o e ∷ []) ≡ 1
unfolding variables_of
one_made i o e = refl

none_made : (g : Guard) (i : ℕ) (o : Owner) (e : Expression) → variable_count (claimed_event g i o e ∷ []) ≡ 0
unfolding variables_of
none_made g i o e = refl

one_read : (s j : ℕ) (o : Owner) (e : Expression) → variable_count (read_event s j o e ∷ []) ≡ 1
unfolding variables_of
one_read s j o e = refl

one_guard : (i : ℕ) → variable_count (guard_event i ∷ []) ≡ 1
unfolding variables_of
one_guard i = refl

no_end : (i : ℕ) → variable_count (end_event i ∷ []) ≡ 0
unfolding variables_of
no_end i = refl

module _ (nodes : List Node) where
  -- Events at the first variable that a log gives, and at the one that is due.
  at_next : (before after : List ℕ) (p r : Position) (events : Events) (i : ℕ) → p.variable ≡ i → Logged nodes before after p r (events p.variable)
      → Logged nodes before after p r (events i)
  at_next before after p r events i e h = subst (λ (k : ℕ). Logged nodes before after p r (events k)) e h

  room_next : (log : List ℕ) (p : Position) (events : Events) (i : ℕ) → p.variable ≡ i → Room log p (events i) → Room log p (events p.variable)
  room_next log p events i e h = subst (λ (k : ℕ). Room log p (events k)) (sym e) h

  module _ (before middle : List ℕ) (p q : Position) (a b : Events) (room : Room before p (in_turn a b p.variable)) where
    pub turn_first : Room before p (a p.variable)
    unfolding in_turn
    turn_first = room_first before p (a p.variable) _ room

    pub turn_second : Logged nodes before middle p q (a p.variable) → Room middle q (b q.variable)
    unfolding in_turn
    turn_second h = room_next middle q b _ h.variable (room_second nodes before middle p q (a p.variable) h _ room)

    pub turn_logged : (after : List ℕ) (r : Position) → Logged nodes before middle p q (a p.variable) → Logged nodes middle after q r (b q.variable)
        → Logged nodes before after p r (in_turn a b p.variable)
    unfolding in_turn
    turn_logged after r h k = then_logged nodes before middle p q (a p.variable) h after r _ room (at_next middle after q r b _ h.variable k)

  module _ (guard n code : ℕ) (o : Owner) (is : owner_code o ≡ code) (known : n < length nodes) (circuit : Events) (before first : List ℕ) (p q : Position)
      (room : Room before p (supply_events (guard_of guard) o (expression_in nodes n) circuit p.variable)) where
    pub supply_slot : Slot before p 1
    unfolding supply_events
    supply_slot = slot_in before p (supplied_event p.variable o (expression_in nodes n)) 1 (one_made _ _ _) (room_first before p (supplied_event p.variable o (expression_in nodes n) ∷ []) _ room)

    module _ (wrote : Wrote before first p q (five 0 p.variable code n 0) 1) where
      made : Logged nodes before first p q (supplied_event p.variable o (expression_in nodes n) ∷ [])
      made = one_logged nodes before first p q _ _ 1 (supplied_entry p.variable o n known) (one_made _ _ _) (rw is wrote)

      next : q.variable ≡ suc p.variable
      next = wrote.variable ∙ add-one p.variable

      rest : Room first q (circuit q.variable ++ (claimed_event (guard_of guard) p.variable o (expression_in nodes n) ∷ []))
      unfolding supply_events
      rest =
          room_next first q (λ i. circuit i ++ (claimed_event (guard_of guard) p.variable o (expression_in nodes n) ∷ [])) (suc p.variable) next
          (room_second nodes before first p q (supplied_event p.variable o (expression_in nodes n) ∷ []) made _ room)

      pub supply_circuit : Room first q (circuit q.variable)
      supply_circuit = room_first first q (circuit q.variable) _ rest

      module _ (second : List ℕ) (r : Position) (logged : Logged nodes first second q r (circuit q.variable)) where
        pub claim_slot : Slot second r 0
        claim_slot = slot_in second r (claimed_event (guard_of guard) p.variable o (expression_in nodes n)) 0 (none_made _ _ _ _) (room_second nodes first second q r (circuit q.variable) logged _ rest)

        pub supply_logged : (after : List ℕ) (s : Position) → Wrote second after r s (five 1 p.variable code n guard) 0
            → Logged nodes before after p s (supply_events (guard_of guard) o (expression_in nodes n) circuit p.variable)
        unfolding supply_events
        supply_logged after s w =
            let claimed = one_logged nodes second after r s _ _ 0 (claimed_entry (guard_of guard) p.variable o n known) (none_made _ _ _ _) (rw (is, guard_number_law guard) w) in
            let both = then_logged nodes first second q r (circuit q.variable) logged after s _ rest claimed in
            then_logged nodes before first p q (supplied_event p.variable o (expression_in nodes n) ∷ []) made after s _ room
            (at_next first after q s (λ i. circuit i ++ (claimed_event (guard_of guard) p.variable o (expression_in nodes n) ∷ [])) (suc p.variable) next both)

  module _ (n code : ℕ) (o : Owner) (is : owner_code o ≡ code) (known : n < length nodes) (parts : Events) (before first : List ℕ) (p q : Position)
      (room : Room before p (read_events o (expression_in nodes n) parts p.variable)) where
    pub read_parts : Room before p (parts p.variable)
    unfolding read_events
    read_parts = room_first before p (parts p.variable) _ room

    module _ (logged : Logged nodes before first p q (parts p.variable)) where
      pub read_slot : Slot first q 1
      unfolding read_events
      read_slot = slot_in first q (read_event p.variable (p.variable + variable_count (parts p.variable)) o (expression_in nodes n)) 1 (one_read _ _ _ _) (room_second nodes before first p q (parts p.variable) logged _ room)

      pub read_logged : (after : List ℕ) (r : Position) → Wrote first after q r (five 2 q.variable code n p.variable) 1
          → Logged nodes before after p r (read_events o (expression_in nodes n) parts p.variable)
      unfolding read_events
      read_logged after r w =
          then_logged nodes before first p q (parts p.variable) logged after r _ room
          (one_logged nodes first after q r _ _ 1 (read_entry p.variable (p.variable + variable_count (parts p.variable)) o n known) (one_read _ _ _ _) (rw (is, ← logged.variable) w))

  module _ (events : Events) (before first : List ℕ) (p q : Position) (room : Room before p (ended events p.variable)) where
    pub ended_parts : Room before p (events p.variable)
    unfolding ended
    ended_parts = room_first before p (events p.variable) _ room

    module _ (logged : Logged nodes before first p q (events p.variable)) where
      pub end_slot : Slot first q 0
      unfolding ended
      end_slot = slot_in first q (end_event (p.variable + variable_count (events p.variable))) 0 (no_end _) (room_second nodes before first p q (events p.variable) logged _ room)

      pub ended_logged : (after : List ℕ) (r : Position) → Wrote first after q r (five 4 q.variable 0 0 0) 0 → Logged nodes before after p r (ended events p.variable)
      unfolding ended
      ended_logged after r w =
          then_logged nodes before first p q (events p.variable) logged after r _ room
          (one_logged nodes first after q r _ _ 0 (end_entry (p.variable + variable_count (events p.variable))) (no_end _) (rw (← logged.variable) w))

  module _ (inside : Guard → Events) (before first : List ℕ) (p q : Position) (room : Room before p (branch_events inside p.variable)) where
    pub branch_slot : Slot before p 1
    unfolding branch_events
    branch_slot = slot_in before p (guard_event p.variable) 1 (one_guard _) (room_first before p (guard_event p.variable ∷ []) _ room)

    module _ (wrote : Wrote before first p q (five 3 p.variable 0 0 0) 1) where
      guarded : Logged nodes before first p q (guard_event p.variable ∷ [])
      guarded = one_logged nodes before first p q _ _ 1 (guard_entry p.variable) (one_guard _) wrote

      next_guard : q.variable ≡ suc p.variable
      next_guard = wrote.variable ∙ add-one p.variable

      pub branch_inside : Room first q (inside (guard_of (p.variable + 1)) q.variable)
      unfolding branch_events
      branch_inside =
          room_next first q (inside (guard_of (p.variable + 1))) (suc p.variable) next_guard
          (subst (λ (g : Guard). Room first q (inside g (suc p.variable))) (sym (ap guard_of (add-one p.variable)))
          (room_second nodes before first p q (guard_event p.variable ∷ []) guarded _ room))

      pub branch_logged : (after : List ℕ) (r : Position) → Logged nodes first after q r (inside (guard_of (p.variable + 1)) q.variable)
          → Logged nodes before after p r (branch_events inside p.variable)
      unfolding branch_events
      branch_logged after r h =
          then_logged nodes before first p q (guard_event p.variable ∷ []) guarded after r _ room
          (subst (λ (g : Guard). Logged nodes first after q r (inside g (suc p.variable))) (ap guard_of (add-one p.variable))
          (at_next first after q r (inside (guard_of (p.variable + 1))) (suc p.variable) next_guard h))
