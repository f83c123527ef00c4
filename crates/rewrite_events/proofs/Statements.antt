-- The events of a statement make its passage.
use Rattle.std.specs.Prelude.{◌≡◌, ◌∷◌, ◌++◌, ◌+◌}
use Rattle.kit.specs.Names.{ap, ap₂, ◌∙◌, List, none, ℕ, suc, length}
use Rattle.definitions.specs.ContractFile.{Statement, Scope, field_at}
use Rattle.definitions.specs.Owners.{name_of, place_owner, owner_of}
use Rattle.definitions.specs.Rewriting.{Variable, BodyExpression, Command, Guard, under, guard, Generator, kept, in_body, in_place, StatementGenerator, single, in_sequence, in_branch, in_branches, rewrite_statement}
use Rattle.rewrite_events.specs.Events.{variables_of, constraints_of, Events, in_turn, ended, branch_events, statement_events}
use Rattle.rewrite_events.specs.Making.{MakesPiece, MakesPassage}
use Rattle.rewrite_events.proofs.Appended.{variables_append, constraints_append}
use Rattle.rewrite_events.proofs.Pieces.{kept_made, ended_made, one_made, two_made, body_made, place_made}

module _ (scope : Scope) where
  single_made : (m : Generator Command) (g : Guard) (i : ℕ) (events : Events) → MakesPiece scope g (events i) (m i) → MakesPassage scope (ended events i) (single m g i)
  unfolding single
  single_made m g i events h =
      let made = ended_made scope g (m i) events i h in
      record { variables = made.variables; constraints = made.constraints }

  sequence_made : (first second : StatementGenerator) (g : Guard) (a b : Events) → ((i : ℕ) → MakesPassage scope (a i) (first g i))
      → ((i : ℕ) → MakesPassage scope (b i) (second g i)) → (i : ℕ) → MakesPassage scope (in_turn a b i) (in_sequence first second g i)
  unfolding in_sequence in_turn
  sequence_made first second g a b h k i =
      let p = h i in
      let j : i + length (variables_of (a i)) ≡ i + length (first g i).variables = ap (λ (l : List Variable). i + length l) p.variables in
      let q = k (i + length (first g i).variables) in
      record {
        variables = rw j (variables_append (a i) _ ∙ ap₂ ◌++◌ p.variables q.variables);
        constraints = rw j (constraints_append scope (a i) _ ∙ ap₂ ◌++◌ p.constraints q.constraints);
      }

  branch_made : (inside : StatementGenerator) (events : Guard → Events) → ((g : Guard) (i : ℕ) → MakesPassage scope (events g i) (inside g i))
      → (i : ℕ) → MakesPassage scope (branch_events events i) (in_branch inside i)
  unfolding in_branch branch_events variables_of constraints_of
  branch_made inside events h i =
      record { variables = ap (λ (l : List Variable). guard ∷ l) (h (under i) (suc i)).variables; constraints = (h (under i) (suc i)).constraints }

  branches_made : (condition : Generator BodyExpression) (then else : StatementGenerator) (g : Guard) (c : Events) (a b : Guard → Events)
      → ((i : ℕ) → MakesPiece scope g (c i) (condition i)) → ((g : Guard) (i : ℕ) → MakesPassage scope (a g i) (then g i))
      → ((g : Guard) (i : ℕ) → MakesPassage scope (b g i) (else g i))
      → (i : ℕ) → MakesPassage scope (in_turn (ended c) (in_turn (branch_events a) (branch_events b)) i) (in_branches condition then else g i)
  unfolding in_branches in_turn
  branches_made condition then else g c a b h k l i =
      let p = ended_made scope g (condition i) c i (h i) in
      let j : i + length (variables_of (ended c i)) ≡ i + length (condition i).variables = ap (λ (l : List Variable). i + length l) p.variables in
      let start = i + length (condition i).variables in
      let q = branch_made then a k start in
      let j' : start + length (variables_of (branch_events a start)) ≡ start + length (in_branch then start).variables = ap (λ (l : List Variable). start + length l) q.variables in
      let r = branch_made else b l (start + length (in_branch then start).variables) in
      record {
        variables = rw (j, j') (variables_append (ended c i) _ ∙ ap₂ ◌++◌ p.variables (variables_append (branch_events a start) _ ∙ ap₂ ◌++◌ q.variables r.variables));
        constraints = rw (j, j') (constraints_append scope (ended c i) _ ∙ ap₂ ◌++◌ p.constraints (constraints_append scope (branch_events a start) _ ∙ ap₂ ◌++◌ q.constraints r.constraints));
      }

  pub statement_made : (s : Statement) (g : Guard) (i : ℕ) → MakesPassage scope (statement_events scope s g i) (rewrite_statement scope s g i)
  unfolding statement_events rewrite_statement
  statement_made Statement.skip g i = single_made (kept Command.skip) g i _ (kept_made scope g Command.skip i)
  statement_made (Statement.sequence first second) g i =
      sequence_made (rewrite_statement scope first) (rewrite_statement scope second) g _ _ (statement_made first g) (statement_made second g) i
  statement_made (Statement.assign_field f value) g i =
      single_made _ g i _ (one_made scope g _ (in_place (owner_of scope) (place_owner (field_at scope.fields f).owner none) value) _ i (place_made scope g (place_owner (field_at scope.fields f).owner none) value i))
  statement_made (Statement.assign_entry f key value) g i =
      single_made _ g i _ (two_made scope g (Command.assign_entry f) (in_body (owner_of scope) key) _ _ _ (body_made scope g key) (place_made scope g (place_owner (field_at scope.fields f).owner (name_of scope key)) value) i)
  statement_made (Statement.require condition) g i = single_made _ g i _ (one_made scope g _ (in_body (owner_of scope) condition) _ i (body_made scope g condition i))
  statement_made (Statement.conditional condition then else) g i =
      branches_made (in_body (owner_of scope) condition) (rewrite_statement scope then) (rewrite_statement scope else) g _ _ _ (body_made scope g condition) (statement_made then) (statement_made else) i
