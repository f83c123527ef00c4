-- A statement that holds no other: its events make its piece, and its command is its form behind the steps of its reads.
use Rattle.std.specs.Prelude.{◌≡◌, ◌+◌}
use Rattle.kit.specs.Names.{ap, sym, List, ℕ, length}
use Rattle.definitions.specs.ContractFile.{Expression, Scope}
use Rattle.definitions.specs.Owners.{owner_of}
use Rattle.definitions.specs.Rewriting.{Command, Guard, Step, in_body, steps_before, in_branch, in_branches, StatementGenerator}
use Rattle.rewrite_events.specs.Events.{steps_of, body_events}
use Rattle.rewrite_events.proofs.Pieces.{body_made}

same_steps : {steps other : List Step} (rest : Command) → steps ≡ other → steps_before steps rest ≡ steps_before other rest
same_steps rest e = ap (λ (l : List Step). steps_before l rest) e

module _ (scope : Scope) (g : Guard) (i : ℕ) where
  -- The steps of a condition stand before the whole branching.
  pub conditional_command : (condition : Expression) (then else : StatementGenerator)
      → let start = i + length (in_body (owner_of scope) condition i).variables in
      (in_branches (in_body (owner_of scope) condition) then else g i).command
      ≡ steps_before (steps_of scope (body_events scope g condition i))
      (Command.conditional (in_body (owner_of scope) condition i).form (in_branch then start).command (in_branch else (start + length (in_branch then start).variables)).command)
  unfolding in_branches
  conditional_command condition then else = same_steps _ (sym (body_made scope g condition i).steps)
