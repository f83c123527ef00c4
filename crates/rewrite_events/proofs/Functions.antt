-- The variables and constraints of a rewritten function: those of its private parameters, then those of its body's events.
use Rattle.std.specs.Prelude.{◌≡◌, ◌++◌}
use Rattle.kit.specs.Names.{ap, sym, List, length}
use Rattle.definitions.specs.ContractFile.{Field, Function, Scope}
use Rattle.definitions.specs.Rewriting.{Variable, Constraint, always, Piece, held_under, private_parameters, openings, rewrite_function}
use Rattle.rewrite_events.specs.Events.{Event, variables_of, constraints_of, statement_events}
use Rattle.rewrite_events.proofs.Statements.{statement_made}

module _ (fields : List Field) (g : Function) where
  abbrev pub opening : Piece (Unit {0})
  opening = openings (private_parameters 0 g.parameters) 0

  abbrev pub function_scope : Scope
  function_scope = record { fields = fields; parameters = g.parameters }

  abbrev pub function_events : List Event
  function_events = statement_events function_scope g.body always (length opening.variables)

  pub function_variables : (rewrite_function fields g).variables ≡ opening.variables ++ variables_of function_events
  unfolding rewrite_function
  function_variables =
      ap (λ (l : List Variable). opening.variables ++ l) (sym (statement_made function_scope g.body always (length opening.variables)).variables)

  pub function_constraints : (rewrite_function fields g).constraints ≡ held_under always opening.claims ++ constraints_of function_scope function_events
  unfolding rewrite_function
  function_constraints =
      ap (λ (l : List Constraint). held_under always opening.claims ++ l) (sym (statement_made function_scope g.body always (length opening.variables)).constraints)
