-- The rewritten statements of accepted ones: the walk ends where the original completes, on places that stand for its places then.
use Rattle.std.specs.Prelude.{◌≡◌, ◌&&◌, ◌+◌}
use Rattle.kit.specs.Names.{refl, ap, sym, Bool, true, false, cond, and-true, true≢false, false≢true, List, [], none, ℕ, suc}
use Rattle.kit.specs.Names.{length, set}
use Rattle.definitions.specs.Basics.{is_true}
use Rattle.definitions.specs.ContractFile.{Name, Owner, everyone, owned_by, Expression, Statement, skip, sequence, assign_field, assign_entry, require, conditional, field_at, is_everyone}
use Rattle.definitions.specs.Owners.{Links, place_owner, name_of, owner_of, is_public, links_of_condition, links_after}
use Rattle.definitions.specs.Numbers.{may_be_put, expression_faults, statement_faults}
use Rattle.definitions.specs.Rewriting.{Command, Guard, under, kept, one_part, two_parts, supplying, in_body, in_circuit, in_place, rewrite_statement, single}
use Rattle.definitions.specs.Original.{position, only, reader_of, is_worked_out, places_after, completes}
use Rattle.definitions.specs.Ledger.{Content, plain_number, state_after, walk_completes, honest_contents, honest_variables}
use Rattle.theory_laws.proofs.Codes.{everyone_is}
use Rattle.theory_laws.proofs.TruthValues.{and_left, and_right}
use Rattle.theory_relations.specs.Acceptance.{constants_fit, constants_fit_in}
use Rattle.theory_relations.specs.Standing.{Stands, AllStand, readers_of}
use Rattle.theory_typing.proofs.Faults.{sequence_fits, assign_field_fits, assign_entry_fits, require_fits, conditional_fits}
use Rattle.theory_typing.proofs.Values.{value_typed}
use Rattle.theory_typing.proofs.Environments.{environment_after}
use Rattle.theory_typing.proofs.Readers.{assigned_field_reader, assigned_entry_reader}
use Rattle.theory_simulation.proofs.Standing.{all_stand_written}
use Rattle.theory_simulation.proofs.Pieces.{Call, faithful_when, faithful_for, kept_faithful, one_part_faithful, two_parts_faithful}
use Rattle.theory_simulation.proofs.Variables.{original_value, BodyFaithful, supplying_faithful}
use Rattle.theory_simulation.proofs.Expressions.{CallStands, body_faithful, circuit_faithful}
use Rattle.theory_typing.proofs.Links.{LinksSound, sound_in_first, sound_in_second, condition_links_sound}
use Rattle.theory_simulation.proofs.Constraints.{untaken_holds}
use Rattle.theory_simulation.proofs.Passages.{Runs, runs_for, single_runs, sequence_runs, branch_runs}
use Rattle.theory_simulation.proofs.Branches.{then_runs, else_runs}

may_be_put_for_everyone : (linked : Links) (o : Owner) → may_be_put linked o everyone ≡ true → o ≡ everyone
may_be_put_for_everyone linked everyone h = refl
may_be_put_for_everyone linked (owned_by n) h = absurd (false≢true h)

-- A private value that may be put into a place stands for the place's owner too.
may_be_put_stands : (address_of : Name → ℕ) (linked : Links) (n : Name) (o : Owner) (content : Content) (number : ℕ) → LinksSound address_of linked
    → is_everyone o ≡ false
    → may_be_put linked o (owned_by n) ≡ true → Stands (reader_of address_of o) content number → Stands (only (address_of n)) content number
may_be_put_stands address_of linked n everyone content number sound e h stands = absurd (true≢false e)
may_be_put_stands address_of linked n (owned_by m) content number sound e h stands =
    record { call = stands.call; index = stands.index; is = rw (← sound.same m n h) stands.is }

module _ (c : Call) where
  abbrev pub worked_out : List ℕ → Expression → Bool
  worked_out numbers e = is_worked_out c.scope.fields c.address_of c.arguments numbers e

  abbrev pub original_places : List ℕ → Statement → List ℕ
  original_places numbers s = places_after c.scope.fields c.address_of c.arguments numbers s

  abbrev pub PlacesStand : List ℕ → List Content → Type 0
  PlacesStand numbers places = AllStand (readers_of c.address_of c.scope.fields) places numbers

  -- What holds of the places after a statement.
  pub record After (linked : Links) (s : Statement) (numbers : List ℕ) (places : List Content) : Type 0 where
    pub stand : PlacesStand (original_places numbers s) places
    pub sound : LinksSound c.address_of (links_after c.scope s linked)

  abbrev pub StatementRuns : Links → Statement → Guard → ℕ → List Content → List ℕ → Type 0
  StatementRuns linked s g i places numbers =
      Runs c (rewrite_statement c.scope s g i) (honest_variables c.scope c.address_of c.number c.arguments s numbers g i) places
      (completes c.scope.fields c.address_of c.arguments numbers s) (After linked s numbers) i

  module _ (places : List Content) (numbers : List ℕ) where
    public_faithful : (linked : Links) (e : Expression) → CallStands c places numbers → expression_faults c.scope linked e ≡ []
        → constants_fit e ≡ true → is_public c.scope e ≡ true → (i : ℕ)
        → BodyFaithful c places numbers everyone (original_value c numbers e) (in_body (owner_of c.scope) e) (worked_out numbers e) i
    public_faithful linked e stand h k public i = rw (everyone_is (owner_of c.scope e) public) at
        (body_faithful c places numbers linked stand e h k i)

    -- A value as it is put into a place.
    value_faithful : (linked : Links) (place : Owner) (e : Expression) → CallStands c places numbers → LinksSound c.address_of linked
        → expression_faults c.scope linked e ≡ []
        → constants_fit e ≡ true → may_be_put linked (owner_of c.scope e) place ≡ true → (i : ℕ)
        → BodyFaithful c places numbers place (original_value c numbers e) (in_place (owner_of c.scope) place e) (worked_out numbers e) i
    value_faithful linked everyone e stand sound h k put i =
        rw (may_be_put_for_everyone linked (owner_of c.scope e) put) at (body_faithful c places numbers linked stand e h k i)
    value_faithful linked (owned_by n) e stand sound h k put i = go (is_public c.scope e) refl
      where
        go : (public : Bool) → is_public c.scope e ≡ public
            → BodyFaithful c places numbers (owned_by n) (original_value c numbers e)
            (cond public (supplying (owned_by n) e (in_circuit (owner_of c.scope) e)) (in_body (owner_of c.scope) e)) (worked_out numbers e) i
        go true d =
            supplying_faithful c places numbers (owned_by n) e i (value_typed c.scope c.address_of c.arguments numbers
            stand.environment linked e h k)
            (circuit_faithful c places numbers linked stand e h k (suc i))
        go false d =
            faithful_for c places numbers (λ x s. may_be_put_stands c.address_of linked n (owner_of c.scope e) x
            (original_value c numbers e) sound d put s)
            (body_faithful c places numbers linked stand e h k i)

    skip_runs : (linked : Links) (g : Guard) (i : ℕ) → CallStands c places numbers → LinksSound c.address_of linked
        → StatementRuns linked skip g i places numbers
    unfolding rewrite_statement honest_variables completes places_after links_after state_after walk_completes kept honest_contents
    skip_runs linked g i stand sound =
        single_runs c {numbers = numbers} {m = kept Command.skip} g i (λ variables. refl)
        (kept_faithful c places numbers {Good = After linked skip numbers} Command.skip places i (record { stand = stand.places; sound = sound })
        (λ variables. refl) (λ variables. refl)) (λ d then z. z)

    assign_field_runs : (linked : Links) (f : ℕ) (e : Expression) (g : Guard) (i : ℕ) → CallStands c places numbers → LinksSound c.address_of linked
        → statement_faults c.scope linked (assign_field f e) ≡ []
        → (u : BodyFaithful c places numbers (place_owner (field_at c.scope.fields f).owner none) (original_value c numbers e)
        (in_place (owner_of c.scope) (place_owner (field_at c.scope.fields f).owner none) e) (worked_out numbers e) i)
        → StatementRuns linked (assign_field f e) g i places numbers
    unfolding rewrite_statement honest_variables completes places_after links_after state_after walk_completes one_part single
    assign_field_runs linked f e g i stand sound h u =
        let p = position c.scope.fields f 0 in
        single_runs c g i (λ variables. refl)
        (faithful_when c places numbers (and-true _)
        (one_part_faithful c places numbers _ _ (After linked (assign_field f e) numbers) (Command.assign_field f) (λ x. set places p x) (λ x. true) i
        (λ variables x. refl) (λ variables x. sym (and-true _)) u
        (record {
          stand =
              all_stand_written (readers_of c.address_of c.scope.fields) places numbers u.result (original_value c numbers e) p stand.places
              (rw (assigned_field_reader c.scope c.address_of stand.fields linked f e h) u.good);
          sound = sound;
        })))
        (λ d then z. z)

    assign_entry_runs : (linked : Links) (f : ℕ) (key e : Expression) (g : Guard) (i : ℕ) → CallStands c places numbers
        → LinksSound c.address_of linked
        → statement_faults c.scope linked (assign_entry f key e) ≡ [] → constants_fit_in (assign_entry f key e) ≡ true
        → (w : BodyFaithful c places numbers everyone (original_value c numbers key) (in_body (owner_of c.scope) key) (worked_out numbers key) i)
        → (u : BodyFaithful c places numbers (place_owner (field_at c.scope.fields f).owner (name_of c.scope key)) (original_value c numbers e)
        (in_place (owner_of c.scope) (place_owner (field_at c.scope.fields f).owner (name_of c.scope key)) e) (worked_out numbers e)
        (i + length (in_body (owner_of c.scope) key i).variables))
        → StatementRuns linked (assign_entry f key e) g i places numbers
    unfolding rewrite_statement honest_variables completes places_after links_after state_after walk_completes two_parts single
    assign_entry_runs linked f key e g i stand sound h k w u =
        let p = position c.scope.fields f (original_value c numbers key) in
        single_runs c g i (λ variables. refl)
        (faithful_when c places numbers (and-true _)
        (two_parts_faithful c places numbers _ _ (After linked (assign_entry f key e) numbers) (Command.assign_entry f)
        (λ y x. set places (position c.scope.fields f (plain_number y)) x) (λ y x. true) i
        (λ variables y x. refl) (λ variables y x. sym (and-true _)) w u
        (record {
          stand =
              rw w.good.is
              (all_stand_written (readers_of c.address_of c.scope.fields) places numbers u.result (original_value c numbers e) p
              stand.places
              (rw (assigned_entry_reader c.scope c.address_of c.arguments numbers stand.environment linked f key e h k) u.good));
          sound = sound;
        })))
        (λ d then z. z)

    require_runs : (linked : Links) (condition : Expression) (g : Guard) (i : ℕ) → CallStands c places numbers → LinksSound c.address_of linked
        → (u : BodyFaithful c places numbers everyone (original_value c numbers condition) (in_body (owner_of c.scope) condition)
        (worked_out numbers condition) i)
        → StatementRuns linked (require condition) g i places numbers
    unfolding rewrite_statement honest_variables completes places_after links_after state_after walk_completes one_part single
    require_runs linked condition g i stand sound u =
        single_runs c g i (λ variables. refl)
        (faithful_when c places numbers (ap (λ x. worked_out numbers condition && is_true (plain_number x)) u.good.is)
        (one_part_faithful c places numbers _ _ (PlacesStand numbers) Command.require (λ x. places) (λ x. is_true (plain_number x)) i
        (λ variables x. refl) (λ variables x. refl) u stand.places))
        (λ d then z.
        record {
          stand = z;
          sound = condition_links_sound c.address_of c.scope c.arguments numbers stand.environment condition linked
              (and_right (worked_out numbers condition) _ d) sound;
        })

    sequence_statement_runs : (linked : Links) (first second : Statement) (g : Guard) (i : ℕ) → StatementRuns linked first g i places numbers
        → ((then : List Content) → After linked first numbers then
        → StatementRuns (links_after c.scope first linked) second g (i + length (rewrite_statement c.scope first g i).variables) then
        (original_places numbers first))
        → StatementRuns linked (sequence first second) g i places numbers
    unfolding rewrite_statement honest_variables completes places_after links_after
    sequence_statement_runs linked first second g i x y =
        runs_for c (λ then z. record { stand = z.stand; sound = z.sound })
        (sequence_runs c (rewrite_statement c.scope first) (rewrite_statement c.scope second) g i x (λ u. y u.places_then u.after))

    -- The links at the end of a then-branch.
    abbrev in_then : Links → Expression → Statement → Links
    in_then linked condition then = links_after c.scope then (links_of_condition c.scope condition linked)

    conditional_runs : (linked : Links) (condition : Expression) (then else : Statement) (g : Guard) (i : ℕ) (d : Bool)
        → is_true (original_value c numbers condition) ≡ d
        → BodyFaithful c places numbers everyone (original_value c numbers condition) (in_body (owner_of c.scope) condition)
        (worked_out numbers condition) i
        → (d ≡ true → (j : ℕ) → StatementRuns (links_of_condition c.scope condition linked) then (under j) (suc j) places numbers)
        → ((j : ℕ) → StatementRuns linked else (under j) (suc j) places numbers)
        → StatementRuns linked (conditional condition then else) g i places numbers
    unfolding rewrite_statement honest_variables completes places_after links_after
    conditional_runs linked condition then else g i true d u x y =
        rw d
        (then_runs c (in_body (owner_of c.scope) condition) (rewrite_statement c.scope then) (rewrite_statement c.scope else) g i places numbers
        (original_value c numbers condition) (worked_out numbers condition) u
        (untaken_holds c c.scope else) d (branch_runs c (rewrite_statement c.scope then) _
        (runs_for c (λ after z. record { stand = rw d z.stand; sound = sound_in_first c.address_of (in_then linked condition then) (links_after c.scope else linked) z.sound }) (x refl _))))
    conditional_runs linked condition then else g i false d u x y =
        rw d
        (else_runs c (in_body (owner_of c.scope) condition) (rewrite_statement c.scope then) (rewrite_statement c.scope else) g i places numbers
        (original_value c numbers condition) (worked_out numbers condition) u
        (untaken_holds c c.scope then) d (branch_runs c (rewrite_statement c.scope else) _
        (runs_for c (λ after z. record { stand = rw d z.stand; sound = sound_in_second c.address_of (in_then linked condition then) (links_after c.scope else linked) z.sound }) (y _))))

  pub statement_runs : (linked : Links) (s : Statement) (g : Guard) (i : ℕ) (places : List Content) (numbers : List ℕ) → CallStands c places numbers
      → LinksSound c.address_of linked
      → statement_faults c.scope linked s ≡ [] → constants_fit_in s ≡ true → StatementRuns linked s g i places numbers
  unfolding constants_fit_in
  statement_runs linked skip g i places numbers stand sound h k = skip_runs places numbers linked g i stand sound
  statement_runs linked (sequence first second) g i places numbers stand sound h k =
      let fits = sequence_fits c.scope linked first second h in
      let kf = and_left (constants_fit_in first) (constants_fit_in second) k in
      sequence_statement_runs places numbers linked first second g i
      (statement_runs linked first g i places numbers stand sound fits.first_faults kf)
      (λ then z.
      statement_runs (links_after c.scope first linked) second g (i + length (rewrite_statement c.scope first g i).variables) then
      (original_places numbers first)
      (record {
        fields = stand.fields;
        environment = environment_after c.scope c.address_of c.arguments numbers stand.environment linked first fits.first_faults kf;
        places = z.stand;
        parameters = stand.parameters;
      })
      z.sound fits.second_faults (and_right (constants_fit_in first) (constants_fit_in second) k))
  statement_runs linked (assign_field f e) g i places numbers stand sound h k =
      let fits = (assign_field_fits c.scope linked f e h).value_fit in
      assign_field_runs places numbers linked f e g i stand sound h
      (value_faithful places numbers linked _ e stand sound fits.faultless k fits.puttable i)
  statement_runs linked (assign_entry f key e) g i places numbers stand sound h k =
      let fits = assign_entry_fits c.scope linked f key e h in
      assign_entry_runs places numbers linked f key e g i stand sound h k
      (public_faithful places numbers linked key stand fits.key_faults (and_left (constants_fit key) (constants_fit e) k) fits.fits.public i)
      (value_faithful places numbers linked _ e stand sound fits.value_fit.faultless (and_right (constants_fit key) (constants_fit e) k)
      fits.value_fit.puttable _)
  statement_runs linked (require condition) g i places numbers stand sound h k =
      let fits = require_fits c.scope linked condition h in
      require_runs places numbers linked condition g i stand sound
      (public_faithful places numbers linked condition stand fits.faultless k fits.public i)
  statement_runs linked (conditional condition then else) g i places numbers stand sound h k =
      let fits = conditional_fits c.scope linked condition then else h in
      let kb = and_right (constants_fit condition) (constants_fit_in then && constants_fit_in else) k in
      conditional_runs places numbers linked condition then else g i (is_true (original_value c numbers condition)) refl
      (public_faithful places numbers linked condition stand fits.condition_fit.faultless (and_left (constants_fit condition) _ k)
      fits.condition_fit.public i)
      (λ taken j. statement_runs (links_of_condition c.scope condition linked) then (under j) (suc j) places numbers stand
      (condition_links_sound c.address_of c.scope c.arguments numbers stand.environment condition linked taken sound) fits.then_faults
      (and_left (constants_fit_in then) (constants_fit_in else) kb))
      (λ j. statement_runs linked else (under j) (suc j) places numbers stand sound fits.else_faults
      (and_right (constants_fit_in then) (constants_fit_in else) kb))
