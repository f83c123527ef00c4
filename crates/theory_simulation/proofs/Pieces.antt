-- The pieces that rewriting makes, in a call: what stands in their variables after their steps, whatever stands before and after them.
use Rattle.std.specs.Prelude.{◌≡◌, ◌&&◌, ◌∷◌, ◌++◌, ◌+◌}
use Rattle.kit.specs.Names.{refl, ap, ap₂, sym, ◌∙◌, Bool, true, and_assoc, List, [], append_assoc, ℕ, suc}
use Rattle.kit.specs.Names.{add-zero, add-suc, suc-add, length, set}
use Rattle.definitions.specs.Basics.{all}
use Rattle.definitions.specs.ContractFile.{Name, Scope}
use Rattle.definitions.specs.Rewriting.{BodyExpression, Variable, Claim, Constraint, Step, Generator, kept, one_part, two_parts}
use Rattle.definitions.specs.Ledger.{Content, State, content_of, is_walked, claim_holds, honest_contents}
use Rattle.theory_simulation.proofs.Held.{AllHeld, none, held_append, held_length}
use Rattle.theory_simulation.proofs.Truth.{and_exchange, all_append, cut_first, cut_second, length_with}

-- What a call is given: names' addresses, its number, the arguments and the parameters that stand for them; and the constraints of
-- the function that is called.
pub record Call : Type 0 where
  pub scope : Scope
  pub address_of : Name → ℕ
  pub number : ℕ
  pub arguments : List ℕ
  pub parameters : List Content
  pub constraints : List Constraint

module _ (c : Call) where
  unfoldable pub claims_hold : List Content → List Claim → Bool
  claims_hold variables claims = all (claim_holds c.address_of variables) claims

  pub claims_hold_append : (variables : List Content) (l m : List Claim)
      → claims_hold variables (l ++ m) ≡ claims_hold variables l && claims_hold variables m
  unfolding claims_hold
  claims_hold_append variables l m = all_append (claim_holds c.address_of variables) l m

  -- What the original's numbers give the variables of a piece, from number i on.
  abbrev pub honest : List ℕ → ℕ → List Variable → List Content
  honest numbers i vs = honest_contents c.scope c.address_of c.number c.arguments numbers i vs

  pub honest_append : (numbers : List ℕ) (i : ℕ) (l m : List Variable)
      → honest numbers i (l ++ m) ≡ honest numbers i l ++ honest numbers (i + length l) m
  unfolding honest_contents
  honest_append numbers i [] m = rw add-zero
  honest_append numbers i (v ∷ l) m = rw (honest_append numbers (suc i) l m, suc-add, ← add-suc i (length l)) refl

  module _ (places : List Content) where
    abbrev pub state_with : List Content → State
    state_with variables = record { places = places; variables = variables }

    abbrev pub content_in : List Content → BodyExpression → Content
    content_in variables e = content_of c.address_of c.scope.fields c.parameters (state_with variables) e

    abbrev pub walked_in : List Content → BodyExpression → Bool
    walked_in variables e = is_walked c.address_of c.scope.fields c.parameters (state_with variables) e

    abbrev pub after_steps : List Content → List Step → List Content
    after_steps variables [] = variables
    after_steps variables (s ∷ steps) = after_steps (set variables s.variable (content_in variables s.value)) steps

    abbrev pub steps_walked : List Content → List Step → Bool
    steps_walked variables [] = true
    steps_walked variables (s ∷ steps) = walked_in variables s.value
        && steps_walked (set variables s.variable (content_in variables s.value)) steps

    pub after_steps_append : (variables : List Content) (l m : List Step) → after_steps variables (l ++ m) ≡ after_steps (after_steps variables l) m
    after_steps_append variables [] m = refl
    after_steps_append variables (s ∷ l) m = after_steps_append (set variables s.variable (content_in variables s.value)) l m

    pub steps_walked_append : (variables : List Content) (l m : List Step)
        → steps_walked variables (l ++ m) ≡ steps_walked variables l && steps_walked (after_steps variables l) m
    steps_walked_append variables [] m = refl
    steps_walked_append variables (s ∷ l) m =
        rw (steps_walked_append (set variables s.variable (content_in variables s.value)) l m)
        (sym (and_assoc (walked_in variables s.value) _ _))

    module _ (numbers : List ℕ) where
      -- A generator's piece, from variable i on, with its variables honestly supplied: after its steps the variables are `finals`,
      -- the piece's form gives `result`, its claims hold, and it is walked to its end exactly where the original is worked out.
      pub record Faithful {A R : Type 0} (evaluate : List Content → A → R) (walks : List Content → A → Bool) (Good : R → Type 0) (m : Generator A)
          (worked_out : Bool) (i : ℕ) : Type 0 where
        pub finals : List Content
        pub held : AllHeld c.scope c.address_of (m i).variables finals
        pub result : R
        pub good : Good result
        pub walked_before : Bool
        pub walked_then : Bool
        pub both : walked_before && walked_then ≡ worked_out
        pub steps : (xs ys : List Content) → length xs ≡ i → after_steps (xs ++ (honest numbers i (m i).variables ++ ys)) (m i).steps
            ≡ xs ++ (finals ++ ys)
        pub steps_walk : (xs ys : List Content) → length xs ≡ i → steps_walked (xs ++ (honest numbers i (m i).variables ++ ys)) (m i).steps
            ≡ walked_before
        pub gives : (xs ys : List Content) → length xs ≡ i → evaluate (xs ++ (finals ++ ys)) (m i).form ≡ result
        pub form_walks : (xs ys : List Content) → length xs ≡ i → walks (xs ++ (finals ++ ys)) (m i).form ≡ walked_then
        pub claims : (xs ys : List Content) → length xs ≡ i → claims_hold (xs ++ (finals ++ ys)) (m i).claims ≡ true

      module _ {A R : Type 0} {evaluate : List Content → A → R} {walks : List Content → A → Bool} {Good : R → Type 0} where
        pub faithful_when : {m : Generator A} {s t : Bool} {i : ℕ} → s ≡ t → Faithful evaluate walks Good m s i → Faithful evaluate walks Good m t i
        faithful_when e u = rw (← e) u

        pub faithful_for : {Other : R → Type 0} {m : Generator A} {s : Bool} {i : ℕ} → ((r : R) → Good r → Other r)
            → Faithful evaluate walks Good m s i → Faithful evaluate walks Other m s i
        faithful_for f u =
            record {
              finals = u.finals;
              held = u.held;
              result = u.result;
              good = f u.result u.good;
              walked_before = u.walked_before;
              walked_then = u.walked_then;
              both = u.both;
              steps = u.steps;
              steps_walk = u.steps_walk;
              gives = u.gives;
              form_walks = u.form_walks;
              claims = u.claims;
            }

        pub kept_faithful :
            (form : A) (r : R) (i : ℕ) → Good r → ((variables : List Content) → evaluate variables form ≡ r)
            → ((variables : List Content) → walks variables form ≡ true)
            → Faithful evaluate walks Good (kept form) true i
        unfolding kept honest_contents claims_hold all
        kept_faithful form r i h e w =
            record {
              finals = [];
              held = none;
              result = r;
              good = h;
              walked_before = true;
              walked_then = true;
              both = refl;
              steps = λ xs ys z. refl;
              steps_walk = λ xs ys z. refl;
              gives = λ xs ys z. e (xs ++ ys);
              form_walks = λ xs ys z. w (xs ++ ys);
              claims = λ xs ys z. refl;
            }

      pub one_part_faithful :
          {A D Ra RD : Type 0} {evaluate_a : List Content → A → Ra} {walks_a : List Content → A → Bool} {GoodA : Ra → Type 0} {m : Generator A}
          {s : Bool}
          (evaluate : List Content → D → RD) (walks : List Content → D → Bool) (Good : RD → Type 0) (f : A → D) (h : Ra → RD) (t : Ra → Bool) (i : ℕ)
          → ((variables : List Content) (x : A) → evaluate variables (f x) ≡ h (evaluate_a variables x))
          → ((variables : List Content) (x : A) → walks variables (f x) ≡ walks_a variables x && t (evaluate_a variables x))
          → (u : Faithful evaluate_a walks_a GoodA m s i) → Good (h u.result) → Faithful evaluate walks Good (one_part f m) (s && t u.result) i
      unfolding one_part
      one_part_faithful evaluate walks Good f h t i he hw u k =
          record {
            finals = u.finals;
            held = u.held;
            result = h u.result;
            good = k;
            walked_before = u.walked_before;
            walked_then = u.walked_then && t u.result;
            both = sym (and_assoc u.walked_before u.walked_then (t u.result)) ∙ ap (λ x. x && t u.result) u.both;
            steps = u.steps;
            steps_walk = u.steps_walk;
            gives = λ xs ys z. rw (he, u.gives xs ys z);
            form_walks = λ xs ys z. rw (hw, u.form_walks xs ys z, u.gives xs ys z);
            claims = u.claims;
          }

      pub two_parts_faithful :
          {A B D Ra RB RD : Type 0} {evaluate_a : List Content → A → Ra} {evaluate_b : List Content → B → RB} {walks_a : List Content → A → Bool}
          {walks_b : List Content → B → Bool}
          {GoodA : Ra → Type 0} {GoodB : RB → Type 0} {m : Generator A} {n : Generator B} {s s' : Bool}
          (evaluate : List Content → D → RD) (walks : List Content → D → Bool) (Good : RD → Type 0) (f : A → B → D) (h : Ra → RB → RD)
          (t : Ra → RB → Bool) (i : ℕ)
          → ((variables : List Content) (x : A) (y : B) → evaluate variables (f x y) ≡ h (evaluate_a variables x) (evaluate_b variables y))
          → ((variables : List Content) (x : A) (y : B) → walks variables (f x y) ≡ walks_a variables x && walks_b variables y
          && t (evaluate_a variables x) (evaluate_b variables y))
          → (u : Faithful evaluate_a walks_a GoodA m s i) (w : Faithful evaluate_b walks_b GoodB n s' (i + length (m i).variables))
          → Good (h u.result w.result) → Faithful evaluate walks Good (two_parts f m n) (s && s' && t u.result w.result) i
      unfolding two_parts
      two_parts_faithful {m = m} {n} evaluate walks Good f h t i he hw u w k =
          let va = (m i).variables in
          let j = i + length va in
          let vb = (n j).variables in
          let there : (xs : List Content) → length xs ≡ i → length (xs ++ u.finals) ≡ j =
          λ xs z. length_with xs u.finals va i z (held_length u.held) in
          record {
            finals = u.finals ++ w.finals;
            held = held_append u.held w.held;
            result = h u.result w.result;
            good = k;
            walked_before = u.walked_before && w.walked_before;
            walked_then = u.walked_then && w.walked_then && t u.result w.result;
            both =
                and_exchange u.walked_before w.walked_before u.walked_then w.walked_then (t u.result w.result)
                ∙ ap₂ (λ x y. x && y && t u.result w.result) u.both w.both;
            steps = λ xs ys z.
                rw (
                  honest_append numbers i va vb,
                  cut_first xs (honest numbers i va) (honest numbers j vb) ys,
                  after_steps_append,
                  u.steps xs (honest numbers j vb ++ ys) z,
                  ← append_assoc xs u.finals (honest numbers j vb ++ ys),
                  w.steps (xs ++ u.finals) ys (there xs z),
                ) (sym (cut_second xs u.finals w.finals ys));
            steps_walk = λ xs ys z.
                rw (
                  honest_append numbers i va vb,
                  cut_first xs (honest numbers i va) (honest numbers j vb) ys,
                  steps_walked_append,
                  u.steps_walk xs (honest numbers j vb ++ ys) z,
                  u.steps xs (honest numbers j vb ++ ys) z,
                  ← append_assoc xs u.finals (honest numbers j vb ++ ys),
                  w.steps_walk (xs ++ u.finals) ys (there xs z),
                ) refl;
            gives = λ xs ys z.
                rw (
                  he,
                  cut_first xs u.finals w.finals ys,
                  u.gives xs (w.finals ++ ys) z,
                  ← append_assoc xs u.finals (w.finals ++ ys),
                  w.gives (xs ++ u.finals) ys (there xs z),
                );
            form_walks = λ xs ys z.
                rw (
                  hw,
                  cut_first xs u.finals w.finals ys,
                  u.form_walks xs (w.finals ++ ys) z,
                  u.gives xs (w.finals ++ ys) z,
                  ← append_assoc xs u.finals (w.finals ++ ys),
                  w.form_walks (xs ++ u.finals) ys (there xs z),
                  w.gives (xs ++ u.finals) ys (there xs z),
                );
            claims = λ xs ys z.
                rw (
                  claims_hold_append,
                  cut_first xs u.finals w.finals ys,
                  u.claims xs (w.finals ++ ys) z,
                  ← append_assoc xs u.finals (w.finals ++ ys),
                ) (w.claims (xs ++ u.finals) ys (there xs z));
          }
