-- Every owner of a function's variables and claims is listed, where those that its fields declare and its reveals name are.
use Rattle.std.specs.Prelude.{◌≡◌, ◌&&◌, ◌∷◌, ◌++◌, ◌+◌, ◌<◌}
use Rattle.kit.specs.Names.{refl, Bool, true, false, cond, List, [], Option, none, some, ℕ, suc}
use Rattle.definitions.specs.ContractFile.{Name, me_name, final_name, parameter_name, Owner, everyone, owned_by, FieldOwner, to_everyone, to_key, to_final, Expression, Statement, Parameter, Scope, field_at, parameter_at, is_final, is_division}
use Rattle.definitions.specs.Owners.{is_public_address, place_owner, parameter_owner, name_of, owner_of, is_public}
use Rattle.definitions.specs.Rewriting.{Guard, under}
use Rattle.rewrite_events.specs.Events.{Event, supplied_event, claimed_event, read_event, guard_event, end_event, variable_count, Events, no_events, in_turn, supply_events, read_events, body_events, circuit_events, place_events, ended, branch_events, statement_events}
use Rattle.rewrite_event_owners.specs.Listed.{Listed, owners_listed}

fit_append : (first second : List Event) → owners_listed first → owners_listed second → owners_listed (first ++ second)
unfolding owners_listed
fit_append [] second h k = k
fit_append (supplied_event i o e ∷ first) second h k = (h.0, fit_append first second h.1 k)
fit_append (claimed_event g i o e ∷ first) second h k = (h.0, fit_append first second h.1 k)
fit_append (read_event s j o e ∷ first) second h k = (h.0, fit_append first second h.1 k)
fit_append (guard_event i ∷ first) second h k = fit_append first second h k
fit_append (end_event i ∷ first) second h k = fit_append first second h k

record Fit (events : Events) : Type 0 where
  fits : (i : ℕ) → owners_listed (events i)

nothing_fits : Fit no_events
unfolding no_events owners_listed
nothing_fits = record { fits = λ i. tt }

turn_fits : (a b : Events) → Fit a → Fit b → Fit (in_turn a b)
unfolding in_turn
turn_fits a b h k = record { fits = λ i. fit_append (a i) (b (i + variable_count (a i))) (h.fits i) (k.fits (i + variable_count (a i))) }

supply_fits : (g : Guard) (o : Owner) (e : Expression) (events : Events) → Listed o → Fit events → Fit (supply_events g o e events)
unfolding supply_events owners_listed
supply_fits g o e events listed h = record { fits = λ i. (listed, fit_append (events (suc i)) (claimed_event g i o e ∷ []) (h.fits (suc i)) (listed, tt)) }

read_fits : (o : Owner) (e : Expression) (events : Events) → Listed o → Fit events → Fit (read_events o e events)
unfolding read_events owners_listed
read_fits o e events listed h =
    record { fits = λ i. fit_append (events i) (read_event i (i + variable_count (events i)) o e ∷ []) (h.fits i) (listed, tt) }

ended_fits : (events : Events) → Fit events → Fit (ended events)
unfolding ended owners_listed
ended_fits events h = record { fits = λ i. fit_append (events i) (end_event (i + variable_count (events i)) ∷ []) (h.fits i) tt }

either_fits : (b : Bool) (x y : Events) → Fit x → Fit y → Fit (cond b x y)
either_fits true x y h k = h
either_fits false x y h k = k

branch_fits : (inside : Guard → Events) → ((g : Guard) → Fit (inside g)) → Fit (branch_events inside)
unfolding branch_events owners_listed
branch_fits inside h = record { fits = λ i. (h (under i)).fits (suc i) }

-- What a field declares.
abbrev pub Declared : FieldOwner → Type 0
Declared = elim [ to_everyone ↦ Unit {0} | to_key ↦ Unit {0} | to_final f ↦ f < 64 ]

-- The fields' owners are listed, and what a name can be is few.
pub record ListedScope (scope : Scope) : Type 0 where
  pub places : (f : ℕ) → Declared (field_at scope.fields f).owner
  pub finals : (f : ℕ) → is_final (field_at scope.fields f).shape ≡ true → f < 64
  pub parameters : (k : ℕ) → is_public_address (parameter_at scope.parameters k) ≡ true → k < 8

-- The targets of all reveals are listed.
unfoldable pub targets_listed : Expression → Type 0
targets_listed (Expression.constant t v) = Unit {0}
targets_listed Expression.me = Unit {0}
targets_listed (Expression.field f) = Unit {0}
targets_listed (Expression.entry f key) = targets_listed key
targets_listed (Expression.parameter k) = Unit {0}
targets_listed (Expression.operator o left right) = targets_listed left × targets_listed right
targets_listed (Expression.negation part) = targets_listed part
targets_listed (Expression.reveal part o) = Listed o × targets_listed part

unfoldable pub targets_listed_in : Statement → Type 0
targets_listed_in Statement.skip = Unit {0}
targets_listed_in (Statement.sequence first second) = targets_listed_in first × targets_listed_in second
targets_listed_in (Statement.assign_field f value) = targets_listed value
targets_listed_in (Statement.assign_entry f key value) = targets_listed key × targets_listed value
targets_listed_in (Statement.require condition) = targets_listed condition
targets_listed_in (Statement.conditional condition then else) = targets_listed condition × (targets_listed_in then × targets_listed_in else)

abbrev pub NameListed : Option Name → Type 0
NameListed none = Unit {0}
NameListed (some n) = Listed (owned_by n)

either_name : (b : Bool) (n : Name) → (b ≡ true → Listed (owned_by n)) → NameListed (cond b (some n) none)
either_name true n h = h refl
either_name false n h = tt

pub place_listed : (o : FieldOwner) (n : Option Name) → Declared o → NameListed n → Listed (place_owner o n)
place_listed to_everyone n listed h = tt
place_listed (to_final f) n listed h = listed
place_listed to_key none listed h = tt
place_listed to_key (some n) listed h = h

parameter_listed : (p : Parameter) → Listed (parameter_owner p)
parameter_listed p = go p.private
  where
    go : (b : Bool) → Listed (cond b (owned_by me_name) everyone)
    go true = tt
    go false = tt

module _ (scope : Scope) (listed : ListedScope scope) where
  pub name_listed_law : (e : Expression) → NameListed (name_of scope e)
  unfolding name_of
  name_listed_law (Expression.constant t v) = tt
  name_listed_law Expression.me = tt
  name_listed_law (Expression.field f) = either_name (is_final (field_at scope.fields f).shape) (final_name f) (listed.finals f)
  name_listed_law (Expression.entry f key) = tt
  name_listed_law (Expression.parameter k) = either_name (is_public_address (parameter_at scope.parameters k)) (parameter_name k) (listed.parameters k)
  name_listed_law (Expression.operator o left right) = tt
  name_listed_law (Expression.negation part) = tt
  name_listed_law (Expression.reveal part o) = tt

  module _ (g : Guard) where
    mutual
      unfolding body_events circuit_events targets_listed owner_of

      body_fits : (e : Expression) → targets_listed e → Fit (body_events scope g e)
      body_fits (Expression.constant t v) h = nothing_fits
      body_fits Expression.me h = nothing_fits
      body_fits (Expression.field f) h = nothing_fits
      body_fits (Expression.entry f key) h = body_fits key h
      body_fits (Expression.parameter k) h = nothing_fits
      body_fits (Expression.operator o left right) h =
          let bodies = turn_fits _ _ (body_fits left h.0) (body_fits right h.1) in
          either_fits (is_public scope (Expression.operator o left right)) _ _ bodies
          (supply_fits g (owned_by me_name) _ _ tt
          (either_fits (is_public scope (Expression.operator o left right) && is_division o) _ _ (read_fits everyone _ _ tt bodies)
          (turn_fits _ _ (circuit_fits left h.0) (circuit_fits right h.1))))
      body_fits (Expression.negation part) h =
          either_fits (is_public scope (Expression.negation part)) _ _ (body_fits part h) (supply_fits g (owned_by me_name) _ _ tt (circuit_fits part h))
      body_fits (Expression.reveal part o) h = supply_fits g o _ _ h.0 (circuit_fits part h.1)

      circuit_fits : (e : Expression) → targets_listed e → Fit (circuit_events scope g e)
      circuit_fits (Expression.constant t v) h = nothing_fits
      circuit_fits Expression.me h = nothing_fits
      circuit_fits (Expression.field f) h = read_fits _ (Expression.field f) _ (place_listed (field_at scope.fields f).owner none (listed.places f) tt) nothing_fits
      circuit_fits (Expression.entry f key) h =
          read_fits _ (Expression.entry f key) _ (place_listed (field_at scope.fields f).owner (name_of scope key) (listed.places f) (name_listed_law key)) (body_fits key h)
      circuit_fits (Expression.parameter k) h = read_fits _ (Expression.parameter k) _ (parameter_listed (parameter_at scope.parameters k)) nothing_fits
      circuit_fits (Expression.operator o left right) h =
          either_fits (is_public scope (Expression.operator o left right) && is_division o) _ _
          (read_fits everyone _ _ tt (turn_fits _ _ (body_fits left h.0) (body_fits right h.1)))
          (turn_fits _ _ (circuit_fits left h.0) (circuit_fits right h.1))
      circuit_fits (Expression.negation part) h = circuit_fits part h
      circuit_fits (Expression.reveal part o) h = circuit_fits part h.1

    place_fits : (o : Owner) (e : Expression) → Listed o → targets_listed e → Fit (place_events scope g o e)
    place_fits everyone e code h = body_fits e h
    place_fits (owned_by n) e code h = either_fits (is_public scope e) _ _ (supply_fits g (owned_by n) e _ code (circuit_fits e h)) (body_fits e h)

  statement_fits : (s : Statement) (g : Guard) → targets_listed_in s → Fit (statement_events scope s g)
  unfolding statement_events targets_listed_in
  statement_fits Statement.skip g h = ended_fits _ nothing_fits
  statement_fits (Statement.sequence first second) g h = turn_fits _ _ (statement_fits first g h.0) (statement_fits second g h.1)
  statement_fits (Statement.assign_field f value) g h =
      ended_fits _ (place_fits g (place_owner (field_at scope.fields f).owner none) value (place_listed (field_at scope.fields f).owner none (listed.places f) tt) h)
  statement_fits (Statement.assign_entry f key value) g h =
      ended_fits _ (turn_fits _ _ (body_fits g key h.0)
      (place_fits g (place_owner (field_at scope.fields f).owner (name_of scope key)) value (place_listed (field_at scope.fields f).owner (name_of scope key) (listed.places f) (name_listed_law key)) h.1))
  statement_fits (Statement.require condition) g h = ended_fits _ (body_fits g condition h)
  statement_fits (Statement.conditional condition then else) g h =
      turn_fits _ _ (ended_fits _ (body_fits g condition h.0))
      (turn_fits _ _ (branch_fits _ (λ k. statement_fits then k h.1.0)) (branch_fits _ (λ k. statement_fits else k h.1.1)))

  pub events_listed : (s : Statement) (g : Guard) (i : ℕ) → targets_listed_in s → owners_listed (statement_events scope s g i)
  events_listed s g i h = (statement_fits s g h).fits i
