-- Steps of a walk as code takes them: what one command makes of the flat contents, and how a sequence and an if hand the walk on.
use Rattle.std.specs.Prelude.{◌≡◌, ◌&&◌, ◌<◌, ◌≤◌}
use Rattle.kit.specs.Names.{refl, ap, sym, ◌∙◌, Bool, true, false, cond, false≢true, List, ℕ, arith, set, eqb-true}
use Rattle.kit.specs.Names.{ne_eqb}
use Rattle.definitions.specs.Basics.{is_true}
use Rattle.definitions.specs.ContractFile.{NodeRecord}
use Rattle.definitions.specs.Original.{position}
use Rattle.definitions.specs.Rewriting.{BodyExpression, Command, Constraint}
use Rattle.definitions.specs.Ledger as ledger
use Rattle.file_accepted.specs.Context.{fields_in}
use Rattle.ledger_contents.specs.Contents.{content_of_code, contents_of}
use Rattle.write_trees.specs.Trees.{command_in}
use Rattle.ledger_circuits.specs.Circuits.{all_hold}
use Rattle.walk_expressions.specs.Evaluation.{state_of, content_from, walked_from, Gives}
use Rattle.walk_numbers.specs.declared.Walked.{Walked}
use Rattle.walk_expressions.proofs.ExpressionsByKind.{Answers}
use Rattle.walk_steps.specs.Walk.{after_from, completes_from, Ran, hands_on}

pub ran_same : (c d : Bool) (a b end : ledger.State) (r : Bool) → Ran c a end r → c ≡ d → a ≡ b → Ran d b end r
ran_same c d a b end r h e k = record { done = h.done ∙ e; state = λ t. h.state t ∙ k }

pub ran_fails : (d : Bool) (b end : ledger.State) → false ≡ d → Ran d b end false
ran_fails d b end e = record { done = e; state = λ t. absurd (false≢true t) }

pub if_kind : (kind : ℕ) → hands_on kind ≡ true → (kind ≡ 17 → ⊥) → kind ≡ 21
if_kind kind h k = eqb-true kind 21 (rw (ne_eqb kind 17 k) at h)

pub no_sequence : (kind : ℕ) → hands_on kind ≡ false → kind ≡ 17 → ⊥
no_sequence kind h e = false≢true (sym h ∙ (rw e))

pub no_conditional : (kind : ℕ) → hands_on kind ≡ false → kind ≡ 21 → ⊥
no_conditional kind h e = false≢true (sym h ∙ (rw e))

pub hands_sequence : (kind : ℕ) → kind ≡ 17 → true ≡ hands_on kind
hands_sequence kind e = rw e

pub hands_conditional : (kind : ℕ) → kind ≡ 21 → true ≡ hands_on kind
hands_conditional kind e = rw e

pub hands_nothing : (kind : ℕ) → (kind ≡ 17 → ⊥) → (kind ≡ 21 → ⊥) → false ≡ hands_on kind
hands_nothing kind h k = rw (ne_eqb kind 17 h, ne_eqb kind 21 k)

pub branch_third : (number v second third : ℕ) → number ≡ v → number ≡ 0 → third ≡ cond (is_true v) second third
branch_third number v second third e z = rw (← e, z)

pub branch_second : (number v second third : ℕ) → number ≡ v → (number ≡ 0 → ⊥) → second ≡ cond (is_true v) second third
branch_second number v second third e z = rw (← e, ne_eqb number 0 z)

picked : {A : Type 0} (f : ℕ → A) (t : Bool) (x y : ℕ) → f (cond t x y) ≡ cond t (f x) (f y)
picked f true x y = refl
picked f false x y = refl

module _ (file addresses parameters : List ℕ) where
  module _ (constraints : List Constraint) (places variables : List ℕ) (command : Command) (r : Bool) where
    pub field_ran : (f : ℕ) (a : BodyExpression) (value : Walked) (next : List ℕ) → command ≡ Command.assign_field f a
        → Answers file addresses parameters places variables a value
        → contents_of next ≡ set (contents_of places) (position (fields_in file) f 0) (content_of_code value.content) → r ≡ value.walked
        → Ran (completes_from file addresses parameters constraints (state_of places variables) command)
        (after_from file addresses parameters (state_of places variables) command) (state_of next variables) r
    unfolding completes_from after_from ledger.walk_completes ledger.state_after walked_from content_from
    field_ran f a value next h p k e = record { done = rw h (e ∙ p.is_walked); state = λ t. rw (h, k, p.same) }

    pub entry_ran : (f number : ℕ) (a b : BodyExpression) (key value : Walked) (next : List ℕ) → command ≡ Command.assign_entry f a b
        → Answers file addresses parameters places variables a key → Answers file addresses parameters places variables b value
        → number ≡ ledger.plain_number (content_of_code key.content)
        → contents_of next ≡ set (contents_of places) (position (fields_in file) f number) (content_of_code value.content) → r ≡ key.walked && value.walked
        → Ran (completes_from file addresses parameters constraints (state_of places variables) command)
        (after_from file addresses parameters (state_of places variables) command) (state_of next variables) r
    unfolding completes_from after_from ledger.walk_completes ledger.state_after walked_from content_from
    entry_ran f number a b key value next h p q m k e =
        record { done = rw (h, ← p.is_walked, ← q.is_walked) e; state = λ t. rw (h, k, m, p.same, q.same) }

    pub require_ran : (a : BodyExpression) (condition : Walked) → command ≡ Command.require a
        → Answers file addresses parameters places variables a condition
        → r ≡ condition.walked && is_true (ledger.plain_number (content_of_code condition.content))
        → Ran (completes_from file addresses parameters constraints (state_of places variables) command)
        (after_from file addresses parameters (state_of places variables) command) (state_of places variables) r
    unfolding completes_from after_from ledger.walk_completes ledger.state_after walked_from content_from
    require_ran a condition h p e = record { done = rw (h, ← p.is_walked, ← p.same) e; state = λ t. rw h }

    pub variable_ran : (i : ℕ) (a : BodyExpression) (value : Walked) (next : List ℕ) → command ≡ Command.set_variable i a
        → Answers file addresses parameters places variables a value
        → contents_of next ≡ set (contents_of variables) i (content_of_code value.content) → r ≡ value.walked
        → Ran (completes_from file addresses parameters constraints (state_of places variables) command)
        (after_from file addresses parameters (state_of places variables) command) (state_of places next) r
    unfolding completes_from after_from ledger.walk_completes ledger.state_after walked_from content_from
    variable_ran i a value next h p k e = record { done = rw h (e ∙ p.is_walked); state = λ t. rw (h, k, p.same) }

    pub verify_ran : command ≡ Command.verify → r ≡ all_hold addresses variables constraints
        → Ran (completes_from file addresses parameters constraints (state_of places variables) command)
        (after_from file addresses parameters (state_of places variables) command) (state_of places variables) r
    unfolding completes_from after_from ledger.walk_completes ledger.state_after all_hold
    verify_ran h e = record { done = rw h e; state = λ t. rw h }

    pub skip_ran : command ≡ Command.skip → r ≡ true
        → Ran (completes_from file addresses parameters constraints (state_of places variables) command)
        (after_from file addresses parameters (state_of places variables) command) (state_of places variables) r
    unfolding completes_from after_from ledger.walk_completes ledger.state_after
    skip_ran h e = record { done = rw h e; state = λ t. rw h }

  module _ (constraints : List Constraint) (s : ledger.State) (command : Command) where
    abbrev completes : ledger.State → Command → Bool
    completes = completes_from file addresses parameters constraints

    abbrev after : ledger.State → Command → ledger.State
    after = after_from file addresses parameters

    sequence_completes : (a b : Command) → command ≡ Command.sequence a b → completes s command ≡ completes s a && completes (after s a) b
    unfolding completes_from after_from ledger.walk_completes
    sequence_completes a b h = rw h

    sequence_after : (a b : Command) → command ≡ Command.sequence a b → after s command ≡ after (after s a) b
    unfolding after_from ledger.state_after
    sequence_after a b h = rw h

    if_completes : (a : BodyExpression) (b d : Command) → command ≡ Command.conditional a b d
        → completes s command
        ≡ walked_from file addresses parameters s a && cond (is_true (ledger.plain_number (content_from file addresses parameters s a))) (completes s b) (completes s d)
    unfolding completes_from ledger.walk_completes walked_from content_from
    if_completes a b d h = rw h

    if_after : (a : BodyExpression) (b d : Command) → command ≡ Command.conditional a b d
        → after s command ≡ cond (is_true (ledger.plain_number (content_from file addresses parameters s a))) (after s b) (after s d)
    unfolding after_from ledger.state_after content_from
    if_after a b d h = rw h

    module _ (goal : Bool) (inv : completes s command ≡ goal) where
      pub sequence_fails : (a b : Command) (end : ledger.State) (first : Bool) → command ≡ Command.sequence a b → Ran (completes s a) (after s a) end first
          → first ≡ false → false ≡ goal
      sequence_fails a b end first h ran f =
          let x : completes s a ≡ false = sym ran.done ∙ f in
          sym (rw x at (sequence_completes a b h)) ∙ inv

      pub sequence_next : (a b : Command) (end : ledger.State) (first : Bool) → command ≡ Command.sequence a b → Ran (completes s a) (after s a) end first
          → first ≡ true → completes end b ≡ goal
      sequence_next a b end first h ran t =
          let x : completes s a ≡ true = sym ran.done ∙ t in
          ap (λ (q : ledger.State). completes q b) (ran.state t) ∙ sym (rw x at (sequence_completes a b h)) ∙ inv

      pub if_fails : (a : BodyExpression) (b d : Command) (condition : Walked) → command ≡ Command.conditional a b d
          → Gives (walked_from file addresses parameters s a) (content_from file addresses parameters s a) condition → condition.walked ≡ false → false ≡ goal
      if_fails a b d condition h p f =
          let x : walked_from file addresses parameters s a ≡ false = sym p.is_walked ∙ f in
          sym (rw x at (if_completes a b d h)) ∙ inv

      pub if_next : (nodes : List NodeRecord) (a : BodyExpression) (second third next : ℕ) (condition : Walked)
          → command ≡ Command.conditional a (command_in nodes second) (command_in nodes third)
          → Gives (walked_from file addresses parameters s a) (content_from file addresses parameters s a) condition → condition.walked ≡ true
          → next ≡ cond (is_true (ledger.plain_number (content_of_code condition.content))) second third → completes s (command_in nodes next) ≡ goal
      if_next nodes a second third next condition h p t e =
          let x : walked_from file addresses parameters s a ≡ true = sym p.is_walked ∙ t in
          let whole = rw x at (if_completes a (command_in nodes second) (command_in nodes third) h) in
          let branch = ap (λ (m : ℕ). completes s (command_in nodes m)) e
          ∙ picked (λ (m : ℕ). completes s (command_in nodes m)) (is_true (ledger.plain_number (content_of_code condition.content))) second third in
          (rw p.same at branch) ∙ sym whole ∙ inv

    module _ (goal : ledger.State) (inv : after s command ≡ goal) where
      pub sequence_goes_on : (a b : Command) (end : ledger.State) (first : Bool) → command ≡ Command.sequence a b → Ran (completes s a) (after s a) end first
          → first ≡ true → after end b ≡ goal
      sequence_goes_on a b end first h ran t = ap (λ (q : ledger.State). after q b) (ran.state t) ∙ sym (sequence_after a b h) ∙ inv

      pub if_goes_on : (nodes : List NodeRecord) (a : BodyExpression) (second third next : ℕ) (condition : Walked)
          → command ≡ Command.conditional a (command_in nodes second) (command_in nodes third)
          → Gives (walked_from file addresses parameters s a) (content_from file addresses parameters s a) condition
          → next ≡ cond (is_true (ledger.plain_number (content_of_code condition.content))) second third → after s (command_in nodes next) ≡ goal
      if_goes_on nodes a second third next condition h p e =
          let branch = ap (λ (m : ℕ). after s (command_in nodes m)) e
          ∙ picked (λ (m : ℕ). after s (command_in nodes m)) (is_true (ledger.plain_number (content_of_code condition.content))) second third in
          (rw p.same at branch) ∙ sym (if_after a (command_in nodes second) (command_in nodes third) h) ∙ inv

pub handed : (r q : NodeRecord) (b t : Bool) → r ≡ q → b ≡ hands_on r.kind → b ≡ t → hands_on q.kind ≡ t
handed r q b t e h k = rw e at (sym h ∙ k)

pub still_there : (at n count : ℕ) → at ≤ n → n < count → at < count
still_there at n count h k = omega arith

pub branch_below : (t : Bool) (second third next at : ℕ) → next ≡ cond t second third → second < at → third < at → next < at
branch_below true second third next at e h k = rw e h
branch_below false second third next at e h k = rw e k
