-- The log of a node's parts, by any rule: what each part needs, and what the parts' logs make together.
use Rattle.std.specs.Prelude.{◌≡◌, ◌<◌, ◌≤◌}
use Rattle.kit.specs.Names.{refl, sym, subst, Bool, true, false, List, ℕ, arith, eqb, eqb-true, eqb-false}
use Rattle.definitions.specs.ContractFile.{Expression}
use Rattle.file_accepted.specs.Context.{nodes_in}
use Rattle.rewrite_events.specs.Events.{Events, no_events, in_turn}
use Rattle.rewrite_events.specs.Parts.{each_part}
use Rattle.rewrite_log.specs.declared.Position.{Position}
use Rattle.rewrite_log.specs.Logs.{Room, Logged}
use Rattle.rewrite_log.proofs.FiveNumbers.{nothing_logged}
use Rattle.rewrite_log.proofs.Turns.{turn_first, turn_second, turn_logged}
use Rattle.rewrite_plans.specs.declared.Parts.{Parts}
use Rattle.rewrite_plans.specs.Plans.{node_expression, PartsOf}
use Rattle.rewrite_expressions.specs.Translations.{Ready}

module _ (rule : Expression → Events) (file : List ℕ) (n : ℕ) (parts : Parts) (found : PartsOf file n parts) (before : List ℕ) (p : Position)
    (ready : Ready file n before p (each_part rule (node_expression file n))) where
  abbrev whole : Events
  whole = each_part rule (node_expression file n)

  abbrev first_of : Events
  first_of = rule (node_expression file parts.first)

  abbrev second_of : Events
  second_of = rule (node_expression file parts.second)

  same_room : (events : Events) → whole ≡ events → Room before p (events p.variable)
  same_room events e = subst (λ (x : Events). Room before p (x p.variable)) e ready.room

  same_logged : (after : List ℕ) (r : Position) (events : Events) → whole ≡ events → Logged (nodes_in file) before after p r (events p.variable)
      → Logged (nodes_in file) before after p r (whole p.variable)
  same_logged after r events e h = subst (λ (x : Events). Logged (nodes_in file) before after p r (x p.variable)) (sym e) h

  pub none_logged : parts.count ≡ 0 → Logged (nodes_in file) before before p p (whole p.variable)
  unfolding no_events
  none_logged z = same_logged before p no_events (found.none z rule) (nothing_logged (nodes_in file) before p)

  module _ (some : parts.count ≡ 0 → ⊥) where
    first_room : (b : Bool) → eqb parts.count 1 ≡ b → Room before p (first_of p.variable)
    first_room true e = same_room first_of (found.one (eqb-true _ _ e) rule)
    first_room false e =
        let other = eqb-false parts.count 1 e in
        let more : 2 ≤ parts.count = omega arith in
        turn_first (nodes_in file) before before p p first_of second_of (same_room (in_turn first_of second_of) (found.two more rule))

    pub first_below : parts.first < n
    first_below = found.first (omega arith)

    pub first_ready : Ready file parts.first before p first_of
    first_ready =
        let less = first_below in
        record { inside = omega (arith, ready.inside); room = first_room (eqb parts.count 1) refl }

    module _ (middle : List ℕ) (q : Position) (logged : Logged (nodes_in file) before middle p q (first_of p.variable)) where
      pub one_logged : parts.count ≡ 1 → Logged (nodes_in file) before middle p q (whole p.variable)
      one_logged single = same_logged middle q first_of (found.one single rule) logged

      module _ (other : parts.count ≡ 1 → ⊥) where
        two_parts_law : 2 ≤ parts.count
        two_parts_law = omega arith

        both : Room before p (in_turn first_of second_of p.variable)
        both = same_room (in_turn first_of second_of) (found.two two_parts_law rule)

        pub second_below : parts.second < n
        second_below = found.second two_parts_law

        pub second_ready : Ready file parts.second middle q second_of
        second_ready =
            let less = second_below in
            record {
              inside = omega (arith, ready.inside);
              room = turn_second (nodes_in file) before middle p q first_of second_of both logged;
            }

        pub two_logged : (after : List ℕ) (r : Position) → Logged (nodes_in file) middle after q r (second_of q.variable)
            → Logged (nodes_in file) before after p r (whole p.variable)
        two_logged after r h =
            same_logged after r (in_turn first_of second_of) (found.two two_parts_law rule)
            (turn_logged (nodes_in file) before middle p q first_of second_of both after r logged h)
