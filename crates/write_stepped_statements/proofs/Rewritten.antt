-- What is written of a statement that holds no other is the tree of its rewritten command.
use Rattle.std.specs.Prelude.{◌≡◌}
use Rattle.kit.specs.Names.{refl, ap, sym, ◌∙◌, true, false≢true, List, none, ℕ, length}
use Rattle.definitions.specs.ContractFile.{Statement, Scope, field_at}
use Rattle.definitions.specs.Owners.{name_of, place_owner, owner_of}
use Rattle.definitions.specs.Rewriting.{Command, Guard, Step, single, steps_before, in_body, in_place, rewrite_statement, command_tree}
use Rattle.theory_trees.specs.Trees.{statement_in}
use Rattle.file_accepted.specs.Context.{nodes_in, scope_in}
use Rattle.rewrite_events.specs.Events.{steps_of, no_events, in_turn, body_events, place_events, statement_events}
use Rattle.rewrite_events.specs.Ends.{is_simple}
use Rattle.rewrite_events.proofs.Pieces.{kept_made, ended_made, one_made, two_made, body_made, place_made}
use Rattle.rewrite_log.specs.Entries.{Entries}
use Rattle.write_simple_statements.specs.Statements.{simple}
use Rattle.write_logged_steps.specs.Held.{Holds}
use Rattle.write_logged_steps.proofs.Logged.{steps_logged}
use Rattle.write_stepped_statements.specs.Single.{single_tree}

module _ (scope : Scope) (g : Guard) (i : ℕ) where
  pub simple_command : (s : Statement) → is_simple s ≡ true → (rewrite_statement scope s g i).command ≡ steps_before (simple scope s i).steps (simple scope s i).form
  unfolding rewrite_statement single simple
  simple_command Statement.skip h = refl
  simple_command (Statement.sequence first second) h = absurd (false≢true h)
  simple_command (Statement.assign_field f value) h = refl
  simple_command (Statement.assign_entry f key value) h = refl
  simple_command (Statement.require condition) h = refl
  simple_command (Statement.conditional condition then else) h = absurd (false≢true h)

  pub simple_steps : (s : Statement) → is_simple s ≡ true → steps_of scope (statement_events scope s g i) ≡ (simple scope s i).steps
  unfolding statement_events simple
  simple_steps Statement.skip h = (ended_made scope g _ no_events i (kept_made scope g Command.skip i)).steps
  simple_steps (Statement.sequence first second) h = absurd (false≢true h)
  simple_steps (Statement.assign_field f value) h =
      let o = place_owner (field_at scope.fields f).owner none in
      (ended_made scope g _ (place_events scope g o value) i (one_made scope g (Command.assign_field f) (in_place (owner_of scope) o value) (place_events scope g o value i) i (place_made scope g o value i))).steps
  simple_steps (Statement.assign_entry f key value) h =
      let o = place_owner (field_at scope.fields f).owner (name_of scope key) in
      (ended_made scope g _ (in_turn (body_events scope g key) (place_events scope g o value)) i
      (two_made scope g (Command.assign_entry f) (in_body (owner_of scope) key) (in_place (owner_of scope) o value) (body_events scope g key) (place_events scope g o value) (body_made scope g key) (place_made scope g o value) i)).steps
  simple_steps (Statement.require condition) h =
      (ended_made scope g _ (body_events scope g condition) i
      (one_made scope g Command.require (in_body (owner_of scope) condition) (body_events scope g condition i) i (body_made scope g condition i))).steps
  simple_steps (Statement.conditional condition then else) h = absurd (false≢true h)

pub single_rewritten : (file : List ℕ) (function_start : ℕ) (log : List ℕ) (n i : ℕ) (g : Guard) (numbers : List ℕ) (from : ℕ)
    → is_simple (statement_in (nodes_in file) n) ≡ true
    → Entries (nodes_in file) (statement_events (scope_in file function_start) (statement_in (nodes_in file) n) g i) numbers → Holds log numbers from
    → single_tree file function_start log from (length (statement_events (scope_in file function_start) (statement_in (nodes_in file) n) g i)) n i
    ≡ command_tree (rewrite_statement (scope_in file function_start) (statement_in (nodes_in file) n) g i).command
single_rewritten file function_start log n i g numbers from plain entries holds =
    let scope = scope_in file function_start in
    let s = statement_in (nodes_in file) n in
    let steps = steps_logged scope (nodes_in file) log (statement_events scope s g i) numbers entries from holds ∙ simple_steps scope g i s plain in
    ap (λ (x : List Step). command_tree (steps_before x (simple scope s i).form)) steps ∙ ap command_tree (sym (simple_command scope g i s plain))
