-- The command of a sequence and of a conditional from those of its parts.
use Rattle.std.specs.Prelude.{◌≡◌, ◌+◌}
use Rattle.kit.specs.Names.{refl, ap, ap₂, sym, ◌∙◌, ℕ, suc, add-one, length}
use Rattle.definitions.specs.ContractFile.{boolean, Expression, Statement, Scope}
use Rattle.definitions.specs.Owners.{owner_of}
use Rattle.definitions.specs.Rewriting.{BodyExpression, Command, Guard, always, under, steps_before, in_body, single, in_sequence, in_branch, in_branches, rewrite_statement}
use Rattle.rewrite_events.specs.Events.{variable_count, variables_of, body_events, branch_events}
use Rattle.rewrite_events.proofs.Pieces.{ended_made, body_made}
use Rattle.rewrite_events.proofs.Statements.{statement_made}
use Rattle.write_bodies.specs.Parts.{command_of, events_of, branch_command, branch_of, condition_of}
use Rattle.write_bodies.proofs.Guards.{statement_alike}

module _ (scope : Scope) where
  counted : (s : Statement) (g : Guard) (i : ℕ) → length (rewrite_statement scope s g i).variables ≡ variable_count (events_of scope s i)
  counted s g i = ap length (sym (statement_made scope s g i).variables) ∙ (statement_alike scope s g always).variables i i

  pub sequence_command : (first second : Statement) (g : Guard) (i : ℕ)
      → (rewrite_statement scope (Statement.sequence first second) g i).command
      ≡ Command.sequence (rewrite_statement scope first g i).command (rewrite_statement scope second g (i + variable_count (events_of scope first i))).command
  unfolding rewrite_statement in_sequence
  sequence_command first second g i =
      ap (λ (n : ℕ). Command.sequence (rewrite_statement scope first g i).command (rewrite_statement scope second g (i + n)).command) (counted first g i)

  -- No command depends on the guard.
  pub command_same : (s : Statement) (g k : Guard) (i : ℕ) → (rewrite_statement scope s g i).command ≡ (rewrite_statement scope s k i).command
  unfolding rewrite_statement single in_branches
  command_same Statement.skip g k i = refl
  command_same (Statement.sequence first second) g k i =
      sequence_command first second g i ∙ ap₂ Command.sequence (command_same first g k i) (command_same second g k (i + variable_count (events_of scope first i)))
      ∙ sym (sequence_command first second k i)
  command_same (Statement.assign_field f value) g k i = refl
  command_same (Statement.assign_entry f key value) g k i = refl
  command_same (Statement.require condition) g k i = refl
  command_same (Statement.conditional condition then else) g k i = refl

  -- A branch, whose guard is variable j.
  branch_command_law : (s : Statement) (j : ℕ) → (in_branch (rewrite_statement scope s) j).command ≡ branch_command scope s j
  unfolding in_branch
  branch_command_law s j =
      ap (Command.sequence (Command.set_variable j (BodyExpression.constant boolean 1)))
      (command_same s (under j) always (suc j) ∙ ap (λ (n : ℕ). command_of scope s n) (sym (add-one j)))

  branch_made : (s : Statement) (j : ℕ) → length (in_branch (rewrite_statement scope s) j).variables ≡ variable_count (branch_of scope s j)
  unfolding in_branch branch_events variables_of
  branch_made s j = ap suc (ap length (sym (statement_made scope s (under j) (suc j)).variables))

  module _ (condition : Expression) (then else : Statement) (i : ℕ) where
    abbrev first : ℕ
    first = i + variable_count (condition_of scope condition i)

    abbrev second : ℕ
    second = first + variable_count (branch_of scope then first)

    abbrev shaped : Command → Command → Command
    shaped a b = steps_before (in_body (owner_of scope) condition i).steps (Command.conditional (in_body (owner_of scope) condition i).form a b)

    condition_made : length (in_body (owner_of scope) condition i).variables ≡ variable_count (condition_of scope condition i)
    condition_made = ap length (sym (ended_made scope always _ (body_events scope always condition) i (body_made scope always condition i)).variables)

    pub branching_command : command_of scope (Statement.conditional condition then else) i
        ≡ shaped (branch_command scope then first) (branch_command scope else second)
    unfolding rewrite_statement in_branches
    branching_command =
        ap (λ (n : ℕ). shaped (in_branch (rewrite_statement scope then) (i + n)).command
        (in_branch (rewrite_statement scope else) (i + n + length (in_branch (rewrite_statement scope then) (i + n)).variables)).command)
        condition_made
        ∙ ap₂ (λ (a : Command) (n : ℕ). shaped a (in_branch (rewrite_statement scope else) (first + n)).command) (branch_command_law then first) (branch_made then first)
        ∙ ap (shaped (branch_command scope then first)) (branch_command_law else second)
