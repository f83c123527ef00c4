-- What events make, of one list of events behind another.
use Rattle.std.specs.Prelude.{◌≡◌, ◌∷◌, ◌++◌, ◌+◌}
use Rattle.kit.specs.Names.{refl, ap, ◌∙◌, List, [], suc, length, length-append}
use Rattle.definitions.specs.ContractFile.{Scope}
use Rattle.definitions.specs.Owners.{owner_of}
use Rattle.definitions.specs.Rewriting.{Variable, supplied, read_from, guard, equals, Claim, Guard, Constraint, Step, in_body, in_circuit, held_under}
use Rattle.rewrite_events.specs.Events.{Event, supplied_event, claimed_event, read_event, guard_event, end_event, variables_of, steps_of, constraints_of, variable_count}

pub variables_append : (first second : List Event) → variables_of (first ++ second) ≡ variables_of first ++ variables_of second
unfolding variables_of
variables_append [] second = refl
variables_append (supplied_event i o e ∷ first) second = ap (λ (l : List Variable). supplied o e ∷ l) (variables_append first second)
variables_append (claimed_event g i o e ∷ first) second = variables_append first second
variables_append (read_event s j o e ∷ first) second = ap (λ (l : List Variable). read_from o e ∷ l) (variables_append first second)
variables_append (guard_event i ∷ first) second = ap (λ (l : List Variable). guard ∷ l) (variables_append first second)
variables_append (end_event i ∷ first) second = variables_append first second

pub variable_count_append : (first second : List Event) → variable_count (first ++ second) ≡ variable_count first + variable_count second
variable_count_append first second = ap length (variables_append first second) ∙ length-append (variables_of first) (variables_of second)

pub steps_append : (scope : Scope) (first second : List Event) → steps_of scope (first ++ second) ≡ steps_of scope first ++ steps_of scope second
unfolding steps_of
steps_append scope [] second = refl
steps_append scope (supplied_event i o e ∷ first) second = steps_append scope first second
steps_append scope (claimed_event g i o e ∷ first) second = steps_append scope first second
steps_append scope (read_event s j o e ∷ first) second =
    ap (λ (l : List Step). record { variable = j; value = (in_body (owner_of scope) e s).form } ∷ l) (steps_append scope first second)
steps_append scope (guard_event i ∷ first) second = steps_append scope first second
steps_append scope (end_event i ∷ first) second = steps_append scope first second

pub constraints_append : (scope : Scope) (first second : List Event)
    → constraints_of scope (first ++ second) ≡ constraints_of scope first ++ constraints_of scope second
unfolding constraints_of
constraints_append scope [] second = refl
constraints_append scope (supplied_event i o e ∷ first) second = constraints_append scope first second
constraints_append scope (claimed_event g i o e ∷ first) second =
    ap (λ (l : List Constraint). record { guard = g; claim = equals i o (in_circuit (owner_of scope) e (suc i)).form } ∷ l) (constraints_append scope first second)
constraints_append scope (read_event s j o e ∷ first) second = constraints_append scope first second
constraints_append scope (guard_event i ∷ first) second = constraints_append scope first second
constraints_append scope (end_event i ∷ first) second = constraints_append scope first second

pub held_append : (g : Guard) (first second : List Claim) → held_under g (first ++ second) ≡ held_under g first ++ held_under g second
held_append g [] second = refl
held_append g (c ∷ first) second = ap (λ (l : List Constraint). record { guard = g; claim = c } ∷ l) (held_append g first second)
