-- The variables of a body without faults: their owners are names that fit, and what is supplied has no faults either.
use Rattle.std.specs.Prelude.{◌≡◌, ◌&&◌, ◌∷◌, ◌++◌, ◌+◌}
use Rattle.kit.specs.Names.{refl, sym, subst, Bool, true, false, cond, List, [], Option, none, some, ℕ, suc}
use Rattle.definitions.specs.ContractFile.{Name, me_name, final_name, parameter_name, Owner, everyone, owned_by, FieldOwner, to_everyone, to_key, to_final, Expression, Statement, Parameter, Scope, field_at, parameter_at, is_final, is_division}
use Rattle.definitions.specs.Owners.{Links, is_public_address, place_owner, parameter_owner, name_of, owner_of, is_public, links_of_condition, links_after}
use Rattle.definitions.specs.Numbers.{owner_fits, expression_faults, statement_faults}
use Rattle.definitions.specs.Rewriting.{Variable, supplied, read_from, guard, variable_owner, Guard}
use Rattle.theory_laws.proofs.TruthValues.{and_left, and_right}
use Rattle.theory_relations.specs.Acceptance.{constants_fit, constants_fit_in, FieldsFit}
use Rattle.theory_typing.proofs.Faults.{entry_read_fits, operator_fits, negation_fits, reveal_fits, sequence_fits, assign_field_fits, assign_entry_fits, require_fits, conditional_fits}
use Rattle.rewrite_events.specs.Events.{Event, claimed_event, read_event, end_event, variables_of, variable_count, Events, no_events, in_turn, supply_events, read_events, body_events, circuit_events, place_events, ended, branch_events, statement_events}
use Rattle.rewrite_events.specs.Ends.{simple_events}
use Rattle.rewrite_events.proofs.Appended.{variables_append}

module _ (scope : Scope) where
  abbrev pub EachOwned : List Variable → Type 0
  EachOwned [] = Unit {0}
  EachOwned (v ∷ vs) = (owner_fits scope (variable_owner v) ≡ true) × EachOwned vs

  pub owned_append : (a b : List Variable) → EachOwned a → EachOwned b → EachOwned (a ++ b)
  owned_append [] b h k = k
  owned_append (v ∷ a) b h k = (h.0, owned_append a b h.1 k)

  both_owned : (first second : List Event) → EachOwned (variables_of first) → EachOwned (variables_of second) → EachOwned (variables_of (first ++ second))
  both_owned first second h k = subst EachOwned (sym (variables_append first second)) (owned_append (variables_of first) (variables_of second) h k)

  abbrev NameFits : Option Name → Type 0
  NameFits none = Unit {0}
  NameFits (some n) = owner_fits scope (owned_by n) ≡ true

  either_name : (b : Bool) (n : Name) → (b ≡ true → owner_fits scope (owned_by n) ≡ true) → NameFits (cond b (some n) none)
  either_name true n h = h refl
  either_name false n h = tt

  name_fits : (e : Expression) → NameFits (name_of scope e)
  unfolding name_of
  name_fits (Expression.constant t v) = tt
  name_fits Expression.me = refl
  name_fits (Expression.field f) = either_name (is_final (field_at scope.fields f).shape) (final_name f) (λ h. h)
  name_fits (Expression.entry f key) = tt
  name_fits (Expression.parameter k) = either_name (is_public_address (parameter_at scope.parameters k)) (parameter_name k) (λ h. h)
  name_fits (Expression.operator o left right) = tt
  name_fits (Expression.negation part) = tt
  name_fits (Expression.reveal part o) = tt

  parameter_owner_fits : (p : Parameter) → owner_fits scope (parameter_owner p) ≡ true
  parameter_owner_fits p = go p.private
    where
      go : (b : Bool) → owner_fits scope (cond b (owned_by me_name) everyone) ≡ true
      go true = refl
      go false = refl

  module _ (fit : FieldsFit scope.fields) where
    place_fits : (f : ℕ) (name : Option Name) → NameFits name → owner_fits scope (place_owner (field_at scope.fields f).owner name) ≡ true
    place_fits f name h = go (field_at scope.fields f).owner refl name h
      where
        go : (o : FieldOwner) → (field_at scope.fields f).owner ≡ o → (name : Option Name) → NameFits name → owner_fits scope (place_owner o name) ≡ true
        go to_everyone e name h = refl
        go (to_final g) e name h = fit.owners f g e
        go to_key e none h = refl
        go to_key e (some n) h = h

    module _ (linked : Links) where
      pub record Fine (e : Expression) : Type 0 where
        pub faultless : expression_faults scope linked e ≡ []
        pub constants : constants_fit e ≡ true

      abbrev pub Good : Variable → Type 0
      Good (supplied o e) = (owner_fits scope o ≡ true) × Fine e
      Good (read_from o e) = owner_fits scope o ≡ true
      Good guard = Unit {0}

      abbrev pub EachGood : List Variable → Type 0
      EachGood [] = Unit {0}
      EachGood (v ∷ vs) = Good v × EachGood vs

      good_append : (a b : List Variable) → EachGood a → EachGood b → EachGood (a ++ b)
      good_append [] b h k = k
      good_append (v ∷ a) b h k = (h.0, good_append a b h.1 k)

      pub good_owned : (vs : List Variable) → EachGood vs → EachOwned vs
      good_owned [] h = tt
      good_owned (supplied o e ∷ vs) h = (h.0.0, good_owned vs h.1)
      good_owned (read_from o e ∷ vs) h = (h.0, good_owned vs h.1)
      good_owned (guard ∷ vs) h = (refl, good_owned vs h.1)

      -- Events whose variables are good, from whatever number on.
      pub record Fit (events : Events) : Type 0 where
        pub each : (i : ℕ) → EachGood (variables_of (events i))

      fit_owned : (events : Events) (i : ℕ) → Fit events → EachOwned (variables_of (events i))
      fit_owned events i h = good_owned (variables_of (events i)) (h.each i)

      both_good : (first second : List Event) → EachGood (variables_of first) → EachGood (variables_of second) → EachGood (variables_of (first ++ second))
      both_good first second h k = subst EachGood (sym (variables_append first second)) (good_append (variables_of first) (variables_of second) h k)

      nothing_fits : Fit no_events
      unfolding no_events variables_of
      nothing_fits = record { each = λ i. tt }

      turn_fits : (a b : Events) → Fit a → Fit b → Fit (in_turn a b)
      unfolding in_turn
      turn_fits a b h k = record { each = λ i. both_good (a i) (b (i + variable_count (a i))) (h.each i) (k.each (i + variable_count (a i))) }

      supply_fits : (g : Guard) (o : Owner) (e : Expression) (events : Events) → owner_fits scope o ≡ true → Fine e → Fit events → Fit (supply_events g o e events)
      unfolding supply_events variables_of
      supply_fits g o e events owner fine h = record { each = λ i. ((owner, fine), both_good (events (suc i)) (claimed_event g i o e ∷ []) (h.each (suc i)) tt) }

      read_fits : (o : Owner) (e : Expression) (events : Events) → owner_fits scope o ≡ true → Fit events → Fit (read_events o e events)
      unfolding read_events variables_of
      read_fits o e events owner h = record { each = λ i. both_good (events i) (read_event i (i + variable_count (events i)) o e ∷ []) (h.each i) (owner, tt) }

      either_fits : (b : Bool) (x y : Events) → Fit x → Fit y → Fit (cond b x y)
      either_fits true x y h k = h
      either_fits false x y h k = k

      key_fine : (f : ℕ) (key : Expression) → Fine (Expression.entry f key) → Fine key
      unfolding constants_fit
      key_fine f key h = record { faultless = (entry_read_fits scope linked f key h.faultless).key_faults; constants = h.constants }

      left_fine : (o : _) (left right : Expression) → Fine (Expression.operator o left right) → Fine left
      unfolding constants_fit
      left_fine o left right h =
          record { faultless = (operator_fits scope linked o left right h.faultless).left_faults; constants = and_left (constants_fit left) (constants_fit right) h.constants }

      right_fine : (o : _) (left right : Expression) → Fine (Expression.operator o left right) → Fine right
      unfolding constants_fit
      right_fine o left right h =
          record { faultless = (operator_fits scope linked o left right h.faultless).right_faults; constants = and_right (constants_fit left) (constants_fit right) h.constants }

      part_fine : (part : Expression) → Fine (Expression.negation part) → Fine part
      unfolding constants_fit
      part_fine part h = record { faultless = (negation_fits scope linked part h.faultless).part_faults; constants = h.constants }

      revealed_fine : (part : Expression) (o : Owner) → Fine (Expression.reveal part o) → Fine part
      unfolding constants_fit
      revealed_fine part o h = record { faultless = (reveal_fits scope linked part o h.faultless).part_faults; constants = h.constants }

      module _ (g : Guard) where
        mutual
          unfolding body_events circuit_events owner_of

          pub body_fits : (e : Expression) → Fine e → Fit (body_events scope g e)
          body_fits (Expression.constant t v) h = nothing_fits
          body_fits Expression.me h = nothing_fits
          body_fits (Expression.field f) h = nothing_fits
          body_fits (Expression.entry f key) h = body_fits key (key_fine f key h)
          body_fits (Expression.parameter k) h = nothing_fits
          body_fits (Expression.operator o left right) h =
              let l = left_fine o left right h in
              let r = right_fine o left right h in
              let bodies = turn_fits _ _ (body_fits left l) (body_fits right r) in
              either_fits (is_public scope (Expression.operator o left right)) _ _ bodies
              (supply_fits g (owned_by me_name) _ _ refl h
              (either_fits (is_public scope (Expression.operator o left right) && is_division o) _ _ (read_fits everyone _ _ refl bodies)
              (turn_fits _ _ (circuit_fits left l) (circuit_fits right r))))
          body_fits (Expression.negation part) h =
              either_fits (is_public scope (Expression.negation part)) _ _ (body_fits part (part_fine part h))
              (supply_fits g (owned_by me_name) _ _ refl h (circuit_fits part (part_fine part h)))
          body_fits (Expression.reveal part o) h =
              supply_fits g o _ _ (reveal_fits scope linked part o h.faultless).target h (circuit_fits part (revealed_fine part o h))

          pub circuit_fits : (e : Expression) → Fine e → Fit (circuit_events scope g e)
          circuit_fits (Expression.constant t v) h = nothing_fits
          circuit_fits Expression.me h = nothing_fits
          circuit_fits (Expression.field f) h = read_fits _ (Expression.field f) _ (place_fits f none tt) nothing_fits
          circuit_fits (Expression.entry f key) h =
              read_fits _ (Expression.entry f key) _ (place_fits f (name_of scope key) (name_fits key)) (body_fits key (key_fine f key h))
          circuit_fits (Expression.parameter k) h = read_fits _ (Expression.parameter k) _ (parameter_owner_fits (parameter_at scope.parameters k)) nothing_fits
          circuit_fits (Expression.operator o left right) h =
              let l = left_fine o left right h in
              let r = right_fine o left right h in
              either_fits (is_public scope (Expression.operator o left right) && is_division o) _ _
              (read_fits everyone _ _ refl (turn_fits _ _ (body_fits left l) (body_fits right r)))
              (turn_fits _ _ (circuit_fits left l) (circuit_fits right r))
          circuit_fits (Expression.negation part) h = circuit_fits part (part_fine part h)
          circuit_fits (Expression.reveal part o) h = circuit_fits part (revealed_fine part o h)

        placed_fits : (o : Owner) (e : Expression) → owner_fits scope o ≡ true → Fine e → Fit (place_events scope g o e)
        placed_fits everyone e owner h = body_fits e h
        placed_fits (owned_by n) e owner h = either_fits (is_public scope e) _ _ (supply_fits g (owned_by n) e _ owner h (circuit_fits e h)) (body_fits e h)

        -- The statements that hold no other.
        pub assign_field_events : (f : ℕ) (e : Expression) → statement_faults scope linked (Statement.assign_field f e) ≡ [] → constants_fit_in (Statement.assign_field f e) ≡ true
            → Fit (simple_events scope (Statement.assign_field f e) g)
        unfolding simple_events constants_fit_in
        assign_field_events f e h c =
            placed_fits (place_owner (field_at scope.fields f).owner none) e (place_fits f none tt)
            (record { faultless = (assign_field_fits scope linked f e h).value_fit.faultless; constants = c })

        pub assign_entry_events : (f : ℕ) (key e : Expression) → statement_faults scope linked (Statement.assign_entry f key e) ≡ [] → constants_fit_in (Statement.assign_entry f key e) ≡ true
            → Fit (simple_events scope (Statement.assign_entry f key e) g)
        unfolding simple_events constants_fit_in
        assign_entry_events f key e h c =
            let fits = assign_entry_fits scope linked f key e h in
            turn_fits _ _ (body_fits key (record { faultless = fits.key_faults; constants = and_left (constants_fit key) (constants_fit e) c }))
            (placed_fits (place_owner (field_at scope.fields f).owner (name_of scope key)) e (place_fits f (name_of scope key) (name_fits key))
            (record { faultless = fits.value_fit.faultless; constants = and_right (constants_fit key) (constants_fit e) c }))

        pub require_events : (condition : Expression) → statement_faults scope linked (Statement.require condition) ≡ [] → constants_fit_in (Statement.require condition) ≡ true
            → Fit (simple_events scope (Statement.require condition) g)
        unfolding simple_events constants_fit_in
        require_events condition h c = body_fits condition (record { faultless = (require_fits scope linked condition h).faultless; constants = c })

        pub condition_events : (condition : Expression) (then else : Statement) → statement_faults scope linked (Statement.conditional condition then else) ≡ []
            → constants_fit_in (Statement.conditional condition then else) ≡ true → Fit (body_events scope g condition)
        unfolding constants_fit_in
        condition_events condition then else h c =
            body_fits condition
            (record {
              faultless = (conditional_fits scope linked condition then else h).condition_fit.faultless;
              constants = and_left (constants_fit condition) (constants_fit_in then && constants_fit_in else) c;
            })

    ended_owned : (linked : Links) (events : Events) (i : ℕ) → Fit linked events → EachOwned (variables_of (ended events i))
    unfolding ended variables_of
    ended_owned linked events i h = both_owned (events i) (end_event (i + variable_count (events i)) ∷ []) (fit_owned linked events i h) tt

    -- All variables of a statement have owners that fit.
    pub statement_owned : (s : Statement) (linked : Links) (g : Guard) (i : ℕ) → statement_faults scope linked s ≡ [] → constants_fit_in s ≡ true
        → EachOwned (variables_of (statement_events scope s g i))
    unfolding statement_events simple_events constants_fit_in no_events in_turn branch_events variables_of
    statement_owned Statement.skip linked g i h c = ended_owned linked no_events i (nothing_fits linked)
    statement_owned (Statement.sequence first second) linked g i h c =
        let fits = sequence_fits scope linked first second h in
        both_owned (statement_events scope first g i) _ (statement_owned first linked g i fits.first_faults (and_left (constants_fit_in first) (constants_fit_in second) c))
        (statement_owned second (links_after scope first linked) g _ fits.second_faults (and_right (constants_fit_in first) (constants_fit_in second) c))
    statement_owned (Statement.assign_field f e) linked g i h c = ended_owned linked (simple_events scope (Statement.assign_field f e) g) i (assign_field_events linked g f e h c)
    statement_owned (Statement.assign_entry f key e) linked g i h c = ended_owned linked (simple_events scope (Statement.assign_entry f key e) g) i (assign_entry_events linked g f key e h c)
    statement_owned (Statement.require condition) linked g i h c = ended_owned linked (simple_events scope (Statement.require condition) g) i (require_events linked g condition h c)
    statement_owned (Statement.conditional condition then else) linked g i h c =
        let fits = conditional_fits scope linked condition then else h in
        let branches = and_right (constants_fit condition) (constants_fit_in then && constants_fit_in else) c in
        both_owned (ended (body_events scope g condition) i) _ (ended_owned linked (body_events scope g condition) i (condition_events linked g condition then else h c))
        (both_owned (branch_events (statement_events scope then) _) _
        (refl, statement_owned then (links_of_condition scope condition linked) _ _ fits.then_faults (and_left (constants_fit_in then) (constants_fit_in else) branches))
        (refl, statement_owned else linked _ _ fits.else_faults (and_right (constants_fit_in then) (constants_fit_in else) branches)))
