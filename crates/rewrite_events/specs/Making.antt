-- When events make a piece, or a statement's passage: the same variables, steps and constraints.
use Rattle.std.specs.Prelude.{◌≡◌}
use Rattle.kit.specs.Names.{List}
use Rattle.definitions.specs.ContractFile.{Scope}
use Rattle.definitions.specs.Rewriting.{Guard, Piece, Passage, held_under}
use Rattle.rewrite_events.specs.Events.{Event, variables_of, steps_of, constraints_of}

pub record MakesPiece (scope : Scope) (g : Guard) (events : List Event) {A : Type 0} (piece : Piece A) : Type 0 where
  pub variables : variables_of events ≡ piece.variables
  pub steps : steps_of scope events ≡ piece.steps
  pub constraints : constraints_of scope events ≡ held_under g piece.claims

pub record MakesPassage (scope : Scope) (events : List Event) (passage : Passage) : Type 0 where
  pub variables : variables_of events ≡ passage.variables
  pub constraints : constraints_of scope events ≡ passage.constraints
