-- The honest numbers of a body without faults are at most one more than the largest value.
use Rattle.std.specs.Prelude.{◌≡◌, ◌&&◌, ◌∷◌, ◌++◌, ◌≤◌}
use Rattle.kit.specs.Names.{subst, Bool, true, false, List, [], map, ℕ, zero, suc, arith, get_or, replicate}
use Rattle.definitions.specs.ContractFile.{Name, me_name, Expression, Statement, type_of}
use Rattle.definitions.specs.Owners.{Links, links_of_condition, links_after}
use Rattle.definitions.specs.Numbers.{statement_faults}
use Rattle.definitions.specs.Original.{value}
use Rattle.definitions.specs.Rewriting.{Variable, supplied, read_from, guard, always}
use Rattle.theory_laws.proofs.Codes.{type_below}
use Rattle.theory_laws.proofs.TruthValues.{and_left, and_right}
use Rattle.theory_relations.specs.Acceptance.{constants_fit, constants_fit_in, FieldsFit}
use Rattle.theory_relations.specs.Environment.{Environment}
use Rattle.theory_typing.proofs.Faults.{sequence_fits, conditional_fits}
use Rattle.theory_typing.proofs.Values.{value_typed}
use Rattle.theory_typing.proofs.Environments.{environment_after}
use Rattle.file_accepted.specs.Context.{fields_in, scope_in}
use Rattle.rewrite_events.specs.Events.{Events, variables_of, body_events}
use Rattle.honest_values.proofs.Addresses.{value_is, numbers_are}
use Rattle.honest_supplies.specs.Supplies.{supplied_number}
use Rattle.honest_statements.specs.Honest.{in_order, branch_numbers, after_if, numbers_for, is_taken, honest_numbers}
use Rattle.honest_variables.proofs.Fitting.{Good, EachGood, Fit, assign_field_events, assign_entry_events, require_events, condition_events}

abbrev pub AllSmall : List ℕ → Type 0
AllSmall [] = Unit {0}
AllSmall (x ∷ xs) = (x ≤ 4294967296) × AllSmall xs

pub small_append : (xs ys : List ℕ) → AllSmall xs → AllSmall ys → AllSmall (xs ++ ys)
small_append [] ys h k = k
small_append (x ∷ xs) ys h k = (h.0, small_append xs ys h.1 k)

pub small_zeros : (n : ℕ) → AllSmall (replicate n 0)
small_zeros zero = tt
small_zeros (suc n) = (omega arith, small_zeros n)

pub small_at : (xs : List ℕ) → AllSmall xs → (k : ℕ) → get_or xs k 0 ≤ 4294967296
small_at [] h k = omega arith
small_at (x ∷ xs) h zero = h.0
small_at (x ∷ xs) h (suc k) = small_at xs h.1 k

sequence_first : (first second : Statement) → constants_fit_in (Statement.sequence first second) ≡ true → constants_fit_in first ≡ true
unfolding constants_fit_in
sequence_first first second c = and_left (constants_fit_in first) (constants_fit_in second) c

sequence_second : (first second : Statement) → constants_fit_in (Statement.sequence first second) ≡ true → constants_fit_in second ≡ true
unfolding constants_fit_in
sequence_second first second c = and_right (constants_fit_in first) (constants_fit_in second) c

conditional_then : (condition : Expression) (then else : Statement) → constants_fit_in (Statement.conditional condition then else) ≡ true → constants_fit_in then ≡ true
unfolding constants_fit_in
conditional_then condition then else c =
    and_left (constants_fit_in then) (constants_fit_in else) (and_right (constants_fit condition) (constants_fit_in then && constants_fit_in else) c)

conditional_else : (condition : Expression) (then else : Statement) → constants_fit_in (Statement.conditional condition then else) ≡ true → constants_fit_in else ≡ true
unfolding constants_fit_in
conditional_else condition then else c =
    and_right (constants_fit_in then) (constants_fit_in else) (and_right (constants_fit condition) (constants_fit_in then && constants_fit_in else) c)

module _ (file : List ℕ) (at : ℕ) (arguments : List ℕ) (caller : ℕ) (address_of : Name → ℕ) (same : address_of me_name ≡ caller)
    (fit : FieldsFit (fields_in file)) where
  abbrev Env : List ℕ → Type 0
  Env numbers = Environment (scope_in file at) address_of arguments numbers

  supplied_small : (linked : Links) (live : Bool) (p : List ℕ) (v : Variable) → Env p → Good (scope_in file at) fit linked v
      → supplied_number file arguments caller live p v ≤ 4294967296
  unfolding supplied_number
  supplied_small linked true p (supplied o e) env h =
      let typed = value_typed (scope_in file at) address_of arguments p env linked e h.1.faultless h.1.constants in
      let below = type_below (type_of (scope_in file at) e) (value (fields_in file) address_of arguments p e) typed in
      omega (arith, value_is file address_of arguments caller same p e)
  supplied_small linked false p (supplied o e) env h = omega arith
  supplied_small linked live p (read_from o e) env h = omega arith
  supplied_small linked live p guard env h = omega arith

  each_small : (linked : Links) (live : Bool) (p : List ℕ) (vs : List Variable) → Env p → EachGood (scope_in file at) fit linked vs
      → AllSmall (map (supplied_number file arguments caller live p) vs)
  each_small linked live p [] env h = tt
  each_small linked live p (v ∷ vs) env h = (supplied_small linked live p v env h.0, each_small linked live p vs env h.1)

  events_small : (linked : Links) (live : Bool) (p : List ℕ) (i : ℕ) (events : Events) → Env p → Fit (scope_in file at) fit linked events
      → AllSmall (numbers_for file at arguments caller events live p i)
  unfolding numbers_for
  events_small linked live p i events env h = each_small linked live p (variables_of (events i)) env (h.each i)

  after_environment : (linked : Links) (live : Bool) (p : List ℕ) (s : Statement) → Env p → statement_faults (scope_in file at) linked s ≡ [] → constants_fit_in s ≡ true
      → Env (after_if file at arguments caller live p s)
  after_environment linked true p s env h c = subst Env (numbers_are file address_of arguments caller same p s) (environment_after (scope_in file at) address_of arguments p env linked s h c)
  after_environment linked false p s env h c = env

  pub honest_small : (s : Statement) (linked : Links) (live : Bool) (p : List ℕ) (i : ℕ) → Env p → statement_faults (scope_in file at) linked s ≡ [] → constants_fit_in s ≡ true
      → AllSmall (honest_numbers file at arguments caller s live p i)
  unfolding honest_numbers in_order branch_numbers
  honest_small Statement.skip linked live p i env h c = tt
  honest_small (Statement.sequence first second) linked live p i env h c =
      let fits = sequence_fits (scope_in file at) linked first second h in
      let first_fit : constants_fit_in first ≡ true = sequence_first first second c in
      let second_fit : constants_fit_in second ≡ true = sequence_second first second c in
      small_append (honest_numbers file at arguments caller first live p i) _ (honest_small first linked live p i env fits.first_faults first_fit)
      (honest_small second (links_after (scope_in file at) first linked) live (after_if file at arguments caller live p first) _
      (after_environment linked live p first env fits.first_faults first_fit) fits.second_faults second_fit)
  honest_small (Statement.assign_field f e) linked live p i env h c = events_small linked live p i _ env (assign_field_events (scope_in file at) fit linked always f e h c)
  honest_small (Statement.assign_entry f key e) linked live p i env h c = events_small linked live p i _ env (assign_entry_events (scope_in file at) fit linked always f key e h c)
  honest_small (Statement.require condition) linked live p i env h c = events_small linked live p i _ env (require_events (scope_in file at) fit linked always condition h c)
  honest_small (Statement.conditional condition then else) linked live p i env h c =
      let fits = conditional_fits (scope_in file at) linked condition then else h in
      small_append (numbers_for file at arguments caller (body_events (scope_in file at) always condition) live p i) _
      (events_small linked live p i _ env (condition_events (scope_in file at) fit linked always condition then else h c))
      (small_append (0 ∷ honest_numbers file at arguments caller then (live && is_taken file at arguments caller p condition) p _) _
      (omega arith, honest_small then (links_of_condition (scope_in file at) condition linked) _ p _ env fits.then_faults (conditional_then condition then else c))
      (omega arith, honest_small else linked _ p _ env fits.else_faults (conditional_else condition then else c)))
