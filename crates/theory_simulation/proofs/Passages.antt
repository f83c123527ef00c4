-- The walk of what rewriting makes of statements, by its combinators: single, in sequence, in a branch, and steps before the rest.
use Rattle.std.specs.Prelude.{◌≡◌, ◌&&◌, ◌∷◌, ◌++◌, ◌+◌}
use Rattle.kit.specs.Names.{refl, ap, ap₂, sym, ◌∙◌, Bool, true, false, cond, false≢true, and_assoc, List, []}
use Rattle.kit.specs.Names.{append_assoc, ℕ, suc, length, set, length-append, set_at, append_snoc}
use Rattle.definitions.specs.Basics.{is_true}
use Rattle.definitions.specs.ContractFile.{boolean}
use Rattle.definitions.specs.Rewriting.{BodyExpression, Command, Guard, under, Step, Generator, steps_before, Passage, StatementGenerator, single, in_sequence, in_branch}
use Rattle.definitions.specs.Ledger.{Content, plain, plain_number, State, content_of, is_walked, state_after, walk_completes}
use Rattle.theory_simulation.proofs.Truth.{cut_first, cut_second, length_with_one}
use Rattle.theory_simulation.proofs.Standing.{plain_stands}
use Rattle.theory_simulation.proofs.Held.{holding, AllHeld, next, held_append, held_length}
use Rattle.theory_simulation.proofs.Pieces.{Call, state_with, content_in, walked_in, after_steps, steps_walked, honest, Faithful}
use Rattle.theory_simulation.proofs.Constraints.{constraints_hold, constraints_hold_append, held_under_holds}

module _ (c : Call) where
  abbrev pub walk : State → Command → State
  walk s command = state_after c.address_of c.scope.fields c.parameters s command

  abbrev pub walk_is_done : State → Command → Bool
  walk_is_done s command = walk_completes c.address_of c.scope.fields c.parameters c.constraints s command

  -- The walk's clauses, for where it stays shut.
  pub walk_steps : (places variables : List Content) (steps : List Step) (rest : Command)
      → walk (state_with c places variables) (steps_before steps rest) ≡ walk (state_with c places (after_steps c places variables steps)) rest
  unfolding state_after steps_before
  walk_steps places variables [] rest = refl
  walk_steps places variables (s ∷ steps) rest = walk_steps places (set variables s.variable (content_in c places variables s.value)) steps rest

  pub done_steps : (places variables : List Content) (steps : List Step) (rest : Command)
      → walk_is_done (state_with c places variables) (steps_before steps rest)
      ≡ steps_walked c places variables steps && walk_is_done (state_with c places (after_steps c places variables steps)) rest
  unfolding state_after walk_completes steps_before
  done_steps places variables [] rest = refl
  done_steps places variables (s ∷ steps) rest =
      rw (done_steps places (set variables s.variable (content_in c places variables s.value)) steps rest)
      (sym (and_assoc (walked_in c places variables s.value) _ _))

  walk_sequence : (s s' : State) (first second : Command) → walk s first ≡ s' → walk s (Command.sequence first second) ≡ walk s' second
  unfolding state_after
  walk_sequence s s' first second e = ap (λ x. walk x second) e

  done_sequence : (s s' : State) (first second : Command) → walk s first ≡ s'
      → walk_is_done s (Command.sequence first second) ≡ walk_is_done s first && walk_is_done s' second
  unfolding walk_completes
  done_sequence s s' first second e = ap (λ x. walk_is_done s first && walk_is_done x second) e

  pub walk_conditional : (s : State) (e : BodyExpression) (then else : Command) → walk s (Command.conditional e then else)
      ≡ cond (is_true (plain_number (content_of c.address_of c.scope.fields c.parameters s e))) (walk s then) (walk s else)
  unfolding state_after
  walk_conditional s e then else = refl

  pub done_conditional : (s : State) (e : BodyExpression) (then else : Command) → walk_is_done s (Command.conditional e then else)
      ≡ is_walked c.address_of c.scope.fields c.parameters s e
      && cond (is_true (plain_number (content_of c.address_of c.scope.fields c.parameters s e))) (walk_is_done s then) (walk_is_done s else)
  unfolding walk_completes
  done_conditional s e then else = refl

  walk_guard : (places xs ys : List Content) (j : ℕ) (rest : Command) → length xs ≡ j
      → walk (state_with c places (xs ++ (plain 0 ∷ ys))) (Command.sequence (Command.set_variable j (BodyExpression.constant boolean 1)) rest)
      ≡ walk (state_with c places ((xs ++ (plain 1 ∷ [])) ++ ys)) rest
  unfolding state_after content_of
  walk_guard places xs ys j rest z = ap (λ variables. walk (state_with c places variables) rest)
      (set_at xs (plain 0) ys (plain 1) j z ∙ sym (append_snoc xs (plain 1) ys))

  done_guard : (places xs ys : List Content) (j : ℕ) (rest : Command) → length xs ≡ j
      → walk_is_done (state_with c places (xs ++ (plain 0 ∷ ys))) (Command.sequence (Command.set_variable j (BodyExpression.constant boolean 1)) rest)
      ≡ walk_is_done (state_with c places ((xs ++ (plain 1 ∷ [])) ++ ys)) rest
  unfolding state_after walk_completes content_of is_walked
  done_guard places xs ys j rest z = ap (λ variables. walk_is_done (state_with c places variables) rest)
      (set_at xs (plain 0) ys (plain 1) j z ∙ sym (append_snoc xs (plain 1) ys))

  -- A passage that is walked to its end from places, its variables honestly supplied; After holds of the places then.
  pub record Done (p : Passage) (given : List Content) (places : List Content) (After : List Content → Type 0) (i : ℕ) : Type 0 where
    pub finals : List Content
    pub held : AllHeld c.scope c.address_of p.variables finals
    pub places_then : List Content
    pub after : After places_then
    pub walks : (xs ys : List Content) → length xs ≡ i → walk (state_with c places (xs ++ (given ++ ys))) p.command
        ≡ state_with c places_then (xs ++ (finals ++ ys))
    pub constraints : (xs ys : List Content) → length xs ≡ i → constraints_hold c (xs ++ (finals ++ ys)) p.constraints ≡ true

  pub record Runs (p : Passage) (given : List Content) (places : List Content) (completes : Bool) (After : List Content → Type 0)
      (i : ℕ) : Type 0 where
    pub ends : (xs ys : List Content) → length xs ≡ i → walk_is_done (state_with c places (xs ++ (given ++ ys))) p.command ≡ completes
    pub done : completes ≡ true → Done p given places After i

  pub runs_for : {p : Passage} {given places : List Content} {completes : Bool} {After Other : List Content → Type 0} {i : ℕ}
      → ((then : List Content) → After then → Other then)
      → Runs p given places completes After i → Runs p given places completes Other i
  runs_for f x =
      record {
        ends = x.ends;
        done = λ d.
            let u = x.done d in
            record {
              finals = u.finals;
              held = u.held;
              places_then = u.places_then;
              after = f u.places_then u.after;
              walks =
                  u.walks;
              constraints = u.constraints;
            };
      }

  -- A statement that holds no other statement.
  abbrev pub CommandFaithful : List Content → List ℕ → (List Content → Type 0) → Generator Command → Bool → ℕ → Type 0
  CommandFaithful places numbers After =
      Faithful c places numbers (λ variables command. (walk (state_with c places variables) command).places)
      (λ variables command. walk_is_done (state_with c places variables) command) After

  pub single_runs : {places : List Content} {numbers : List ℕ} {Good After : List Content → Type 0} {m : Generator Command} {completes : Bool}
      (g : Guard) (i : ℕ)
      → ((variables : List Content) → (walk (state_with c places variables) (m i).form).variables ≡ variables)
      → CommandFaithful places numbers Good m completes i
      → (completes ≡ true → (then : List Content) → Good then → After then)
      → Runs (single m g i) (honest c numbers i (m i).variables) places completes After i
  unfolding single
  single_runs {m = m} g i keeps u f =
      record {
        ends = λ xs ys z. rw (done_steps, u.steps_walk xs ys z, u.steps xs ys z, u.form_walks xs ys z) u.both;
        done = λ d.
            record {
              finals = u.finals;
              held = u.held;
              places_then = u.result;
              after = f d u.result u.good;
              walks = λ xs ys z. rw (walk_steps, u.steps xs ys z) (λ j. record
                  { places = u.gives xs ys z j; variables = keeps (xs ++ (u.finals ++ ys)) j });
              constraints = λ xs ys z. held_under_holds c (xs ++ (u.finals ++ ys)) g (m i).claims (u.claims xs ys z);
            };
      }

  sequence_done : (m n : StatementGenerator) (g : Guard) (i : ℕ) {given given' places : List Content} {After Then : List Content → Type 0}
      (u : Done (m g i) given places After i)
      → Done (n g (i + length (m g i).variables)) given' u.places_then Then (i + length (m g i).variables)
      → Done (in_sequence m n g i) (given ++ given') places Then i
  unfolding in_sequence
  sequence_done m n g i {given} {given'} {places} u w =
      let j = i + length (m g i).variables in
      let there : (xs : List Content) → length xs ≡ i → length (xs ++ u.finals) ≡ j = λ xs z. rw (length-append, z, held_length u.held) in
      record {
        finals = u.finals ++ w.finals;
        held = held_append u.held w.held;
        places_then = w.places_then;
        after = w.after;
        walks = λ xs ys z.
            ap (λ variables. walk (state_with c places variables) (Command.sequence (m g i).command (n g j).command))
            (cut_first xs given given' ys)
            ∙ walk_sequence _ _ _ _ (u.walks xs (given' ++ ys) z)
            ∙ ap (λ variables. walk (state_with c u.places_then variables) (n g j).command) (sym (append_assoc xs u.finals (given' ++ ys)))
            ∙ w.walks (xs ++ u.finals) ys (there xs z)
            ∙ ap (state_with c w.places_then) (sym (cut_second xs u.finals w.finals ys));
        constraints = λ xs ys z.
            rw (
              constraints_hold_append,
              cut_first xs u.finals w.finals ys,
              u.constraints xs (w.finals ++ ys) z,
              ← append_assoc xs u.finals (w.finals ++ ys),
            ) (w.constraints (xs ++ u.finals) ys (there xs z));
      }

  pub sequence_runs : (m n : StatementGenerator) (g : Guard) (i : ℕ) {given given' places : List Content} {After Then : List Content → Type 0}
      {b b' : Bool} → Runs (m g i) given places b After i
      → ((u : Done (m g i) given places After i) → Runs (n g (i + length (m g i).variables)) given' u.places_then b' Then
      (i + length (m g i).variables))
      → Runs (in_sequence m n g i) (given ++ given') places (b && b') Then i
  unfolding in_sequence
  sequence_runs m n g i {given} {given'} {places} {b = true} {b'} x y =
      let j = i + length (m g i).variables in
      let u = x.done refl in
      let w = y u in
      record {
        ends = λ xs ys z.
            ap (λ variables. walk_is_done (state_with c places variables) (Command.sequence (m g i).command (n g j).command))
            (cut_first xs given given' ys)
            ∙ done_sequence _ _ _ _ (u.walks xs (given' ++ ys) z)
            ∙ ap₂ ◌&&◌ (x.ends xs (given' ++ ys) z)
            (ap (λ variables. walk_is_done (state_with c u.places_then variables) (n g j).command)
            (sym (append_assoc xs u.finals (given' ++ ys)))
            ∙ w.ends (xs ++ u.finals) ys (rw (length-append, z, held_length u.held)));
        done = λ d. sequence_done m n g i u (w.done d);
      }
  sequence_runs m n g i {given} {given'} {places} {b = false} x y =
      record {
        ends = λ xs ys z.
            ap (λ variables. walk_is_done (state_with c places variables) (Command.sequence (m g i).command
            (n g (i + length (m g i).variables)).command)) (cut_first xs given given' ys)
            ∙ done_sequence _ _ _ _ refl ∙ rw (x.ends xs (given' ++ ys) z);
        done = λ d. absurd (false≢true d);
      }

  -- A branch that is taken.
  pub branch_runs : (m : StatementGenerator) {given places : List Content} {After : List Content → Type 0} {completes : Bool} (i : ℕ)
      → Runs (m (under i) (suc i)) given places completes After (suc i)
      → Runs (in_branch m i) (plain 0 ∷ given) places completes After i
  unfolding in_branch
  branch_runs m {given} {places} i x =
      let set = plain 1 ∷ [] in
      record {
        ends = λ xs ys z. done_guard places xs (given ++ ys) i _ z ∙ x.ends (xs ++ set) ys (length_with_one xs (plain 1) i z);
        done = λ d.
            let u = x.done d in
            record {
              finals = plain 1 ∷ u.finals;
              held = next (holding 1 refl (plain_stands refl)) u.held;
              places_then = u.places_then;
              after = u.after;
              walks = λ xs ys z.
                  walk_guard places xs (given ++ ys) i _ z ∙ u.walks (xs ++ set) ys (length_with_one xs (plain 1) i z)
                  ∙ ap (state_with c u.places_then) (append_snoc xs (plain 1) (u.finals ++ ys));
              constraints = λ xs ys z. rw (← append_snoc xs (plain 1) (u.finals ++ ys))
                  (u.constraints (xs ++ set) ys (length_with_one xs (plain 1) i z));
            };
      }
