-- The honest rewritten call stands for the original's call.
use Rattle.std.specs.Prelude.{◌≡◌, ◌∷◌, ◌++◌}
use Rattle.kit.specs.Names.{refl, ap, ◌∙◌, Bool, true, false, List, [], append-nil, ℕ, length}
use Rattle.definitions.specs.Basics.{all}
use Rattle.definitions.specs.ContractFile.{Name, Statement, Scope}
use Rattle.definitions.specs.Owners.{no_links}
use Rattle.definitions.specs.Rewriting.{Command, always, Constraint, WrittenFunction, Piece, Passage, rewrite_statement, private_parameters, openings, with_verify, rewrite_function}
use Rattle.definitions.specs.Original.{places_after, completes}
use Rattle.definitions.specs.Ledger.{Content, State, constraint_holds, state_after, walk_completes, honest_contents, honest_variables}
use Rattle.theory_laws.proofs.TruthValues.{and_left}
use Rattle.theory_relations.specs.Acceptance.{AcceptedBody}
use Rattle.theory_relations.specs.Environment.{Environment}
use Rattle.theory_relations.specs.Standing.{AllStand, readers_of}
use Rattle.theory_relations.specs.Standing.{ParametersStand}
use Rattle.theory_simulation.proofs.Held.{AllHeld, held_append, held_length}
use Rattle.theory_simulation.proofs.Pieces.{Call, state_with, honest, Faithful}
use Rattle.theory_simulation.proofs.Expressions.{CallStands}
use Rattle.theory_typing.proofs.Links.{no_links_sound}
use Rattle.theory_simulation.proofs.Constraints.{constraints_hold, constraints_hold_append, held_under_holds}
use Rattle.theory_simulation.proofs.Passages.{walk, walk_is_done, walk_steps, done_steps, Done}
use Rattle.theory_simulation.proofs.Statements.{After, StatementRuns, statement_runs}
use Rattle.theory_simulation.proofs.Openings.{private_parameters_law, openings_faithful}

module _ (c : Call) where
  -- A verify at the end changes no state, and fails no call whose constraints hold.
  walk_verify : (cs : List Constraint) (s : State) (command : Command) → walk c s (with_verify cs command) ≡ walk c s command
  unfolding state_after
  walk_verify [] s command = refl
  walk_verify (k ∷ cs) s command = refl

  done_verify : (cs : List Constraint) (s : State) (command : Command) (b : Bool) → walk_is_done c s command ≡ b
      → (b ≡ true → constraints_hold c (walk c s command).variables c.constraints ≡ true) → walk_is_done c s (with_verify cs command) ≡ b
  unfolding walk_completes constraints_hold
  done_verify [] s command b e h = e
  done_verify (k ∷ cs) s command true e h = rw (e, h refl)
  done_verify (k ∷ cs) s command false e h = rw e

module _ (scope : Scope) (body : Statement) (address_of : Name → ℕ) (call : ℕ) (arguments numbers : List ℕ) (parameters contents : List Content) where
  abbrev pub written : WrittenFunction
  written = rewrite_function scope.fields (record { parameters = scope.parameters; body = body })

  abbrev pub opening : Piece (Unit {0})
  opening = openings (private_parameters 0 scope.parameters) 0

  -- The honest call's first state, and its last.
  abbrev pub honest_start : State
  honest_start =
      record {
        places = contents;
        variables =
            honest_contents scope address_of call arguments numbers 0 opening.variables
            ++ honest_variables scope address_of call arguments body numbers always (length opening.variables);
      }

  abbrev pub honest_end : State
  honest_end = state_after address_of scope.fields parameters honest_start written.body

  abbrev pub original_is_done : Bool
  original_is_done = completes scope.fields address_of arguments numbers body

  -- The walk ends where the original completes; then the places stand for the original's places, every constraint holds, and the
  -- variables are as many as the function has, each plain 0 or a content that stands for a number of its type.
  pub record HonestCall : Type 0 where
    pub ends : walk_completes address_of scope.fields parameters written.constraints honest_start written.body ≡ original_is_done
    pub places : original_is_done ≡ true → AllStand (readers_of address_of scope.fields) honest_end.places
        (places_after scope.fields address_of arguments numbers body)
    pub constraints : original_is_done ≡ true → all (constraint_holds address_of honest_end.variables) written.constraints ≡ true
    pub variables : original_is_done ≡ true → AllHeld scope address_of written.variables honest_end.variables

  abbrev the_call : Call
  the_call = record {
    scope = scope;
    address_of = address_of;
    number = call;
    arguments = arguments;
    parameters = parameters;
    constraints = written.constraints;
  }

  abbrev passage : Passage
  passage = rewrite_statement scope body always (length opening.variables)

  module _ (opens : Faithful the_call contents numbers {R = Unit {0}} (λ variables form. tt) (λ variables form. true) (λ result. Unit {0})
      (openings (private_parameters 0 scope.parameters)) true 0)
      (runs : StatementRuns the_call no_links body always (length opening.variables) contents numbers) where
    abbrev given : List Content
    given = honest_variables scope address_of call arguments body numbers always (length opening.variables)

    steps_walked_law : opens.walked_before ≡ true
    steps_walked_law = and_left opens.walked_before opens.walked_then opens.both

    abbrev middle : State
    middle = state_with the_call contents (opens.finals ++ given)

    passage_ends : walk_is_done the_call middle passage.command ≡ original_is_done
    passage_ends = rw (append-nil given) at (runs.ends opens.finals [] (held_length opens.held))

    module _ (done : Done the_call passage given contents (After the_call no_links body numbers) (length opening.variables)) where
      passage_walks : walk the_call middle passage.command ≡ state_with the_call done.places_then (opens.finals ++ done.finals)
      passage_walks = rw (append-nil given, append-nil done.finals) at (done.walks opens.finals [] (held_length opens.held))

      all_hold_law : constraints_hold the_call (opens.finals ++ done.finals) written.constraints ≡ true
      unfolding rewrite_function
      all_hold_law =
          rw (
            constraints_hold_append the_call,
            held_under_holds the_call (opens.finals ++ done.finals) always opening.claims
                (opens.claims [] done.finals refl),
          )
          (rw (append-nil done.finals) at (done.constraints opens.finals [] (held_length opens.held)))

      call_walks : honest_end ≡ state_with the_call done.places_then (opens.finals ++ done.finals)
      unfolding rewrite_function
      call_walks =
          walk_steps the_call contents (honest the_call numbers 0 opening.variables ++ given) opening.steps
          (with_verify written.constraints passage.command)
          ∙ ap (λ variables. walk the_call (state_with the_call contents variables) (with_verify written.constraints passage.command))
          (opens.steps [] given refl)
          ∙ walk_verify the_call written.constraints middle passage.command ∙ passage_walks

    call_ends : walk_completes address_of scope.fields parameters written.constraints honest_start written.body ≡ original_is_done
    unfolding rewrite_function
    call_ends =
        done_steps the_call contents (honest the_call numbers 0 opening.variables ++ given) opening.steps
        (with_verify written.constraints passage.command)
        ∙ rw (opens.steps_walk [] given refl, steps_walked_law, opens.steps [] given refl)
        (done_verify the_call written.constraints middle passage.command original_is_done passage_ends
        (λ d. rw (passage_walks (runs.done d)) (all_hold_law (runs.done d))))

    call_stands : HonestCall
    unfolding rewrite_function constraints_hold
    call_stands =
        record {
          ends = call_ends;
          places = λ d. rw (call_walks (runs.done d)) (runs.done d).after.stand;
          constraints = λ d. rw (call_walks (runs.done d)) (all_hold_law (runs.done d));
          variables = λ d. rw (call_walks (runs.done d)) (held_append opens.held (runs.done d).held);
        }

  pub honest_call : AcceptedBody scope body → Environment scope address_of arguments numbers
      → AllStand (readers_of address_of scope.fields) contents numbers
      → ParametersStand scope address_of parameters arguments → HonestCall
  honest_call accepted environment stand parameters_stand =
      let stands : CallStands the_call contents numbers = record {
        fields = accepted.fields;
        environment = environment;
        places = stand;
        parameters = parameters_stand;
      } in
      call_stands (openings_faithful the_call contents numbers stands (private_parameters 0 scope.parameters)
      (private_parameters_law scope.parameters) 0)
      (statement_runs the_call no_links body always (length opening.variables) contents numbers stands (no_links_sound address_of)
      accepted.faultless accepted.constants)
