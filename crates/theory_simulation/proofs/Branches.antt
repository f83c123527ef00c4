-- One of two branches is walked, by a public condition; the other's variables stay plain 0.
use Rattle.std.specs.Prelude.{◌≡◌, ◌&&◌, ◌++◌, ◌+◌}
use Rattle.kit.specs.Names.{ap, sym, ◌∙◌, Bool, true, false, cond, and_assoc, List, append_assoc, ℕ, length}
use Rattle.kit.specs.Names.{replicate, length-append, length-replicate}
use Rattle.definitions.specs.Basics.{is_true}
use Rattle.definitions.specs.ContractFile.{everyone}
use Rattle.definitions.specs.Rewriting.{BodyExpression, Guard, Generator, held_under, StatementGenerator, in_branch, in_branches}
use Rattle.definitions.specs.Ledger.{Content, plain}
use Rattle.theory_laws.proofs.TruthValues.{and_right}
use Rattle.theory_simulation.proofs.Truth.{cut_first_of_three, cut_second_of_three, cut_third_of_three, length_with}
use Rattle.theory_simulation.proofs.Held.{AllHeld, held_append, held_length, all_unset}
use Rattle.theory_simulation.proofs.Pieces.{Call, state_with, honest}
use Rattle.theory_simulation.proofs.Variables.{BodyFaithful}
use Rattle.theory_simulation.proofs.Constraints.{zeros_between, constraints_hold, constraints_hold_three, held_under_holds, Untaken, branch_untaken}
use Rattle.theory_simulation.proofs.Passages.{walk, walk_is_done, walk_steps, done_steps, walk_conditional, done_conditional, Runs}

module _ (c : Call) (condition : Generator BodyExpression) (m n : StatementGenerator) (g : Guard) (i : ℕ) (places : List Content) (numbers : List ℕ)
    (v : ℕ) (b : Bool)
    (u : BodyFaithful c places numbers everyone v condition b i) where
  -- The first variable of each branch; the honest contents of the condition's variables, and of an untaken branch's.
  abbrev then_from : ℕ
  then_from = i + length (condition i).variables

  abbrev else_from : ℕ
  else_from = then_from + length (in_branch m then_from).variables

  abbrev given : List Content
  given = honest c numbers i (condition i).variables

  abbrev then_untaken : List Content
  then_untaken = replicate (length (in_branch m then_from).variables) (plain 0)

  abbrev else_untaken : List Content
  else_untaken = replicate (length (in_branch n else_from).variables) (plain 0)

  at_then : (xs : List Content) → length xs ≡ i → length (xs ++ u.finals) ≡ then_from
  at_then xs z = length_with xs u.finals (condition i).variables i z (held_length u.held)

  at_else : (xs : List Content) → length xs ≡ i → length ((xs ++ u.finals) ++ then_untaken) ≡ else_from
  at_else xs z = rw (length-append, at_then xs z, length-replicate)

  -- After the condition's steps, the branch is the original's.
  branches_done : (d : Bool) → is_true v ≡ d → (xs rest : List Content) → length xs ≡ i
      → walk_is_done c (state_with c places (xs ++ (given ++ rest))) (in_branches condition m n g i).command
      ≡ b && cond d (walk_is_done c (state_with c places ((xs ++ u.finals) ++ rest)) (in_branch m then_from).command)
      (walk_is_done c (state_with c places ((xs ++ u.finals) ++ rest)) (in_branch n else_from).command)
  unfolding in_branches
  branches_done d e xs rest z =
      rw (
        done_steps c,
        u.steps_walk xs rest z,
        u.steps xs rest z,
        done_conditional c,
        u.form_walks xs rest z,
        u.gives xs rest z,
        u.good.is,
        e,
        append_assoc xs u.finals rest,
        ← u.both,
      ) (sym (and_assoc u.walked_before u.walked_then _))

  branches_walk : (d : Bool) → is_true v ≡ d → (xs rest : List Content) → length xs ≡ i
      → walk c (state_with c places (xs ++ (given ++ rest))) (in_branches condition m n g i).command
      ≡ cond d (walk c (state_with c places ((xs ++ u.finals) ++ rest)) (in_branch m then_from).command)
      (walk c (state_with c places ((xs ++ u.finals) ++ rest)) (in_branch n else_from).command)
  unfolding in_branches
  branches_walk d e xs rest z = rw (
    walk_steps c,
    u.steps xs rest z,
    walk_conditional c,
    u.gives xs rest z,
    u.good.is,
    e,
    append_assoc xs u.finals rest,
  )

  branches_constraints : (xs then else ys : List Content) → length xs ≡ i
      → constraints_hold c ((xs ++ u.finals) ++ (then ++ (else ++ ys))) (in_branch m then_from).constraints ≡ true
      → constraints_hold c (((xs ++ u.finals) ++ then) ++ (else ++ ys)) (in_branch n else_from).constraints ≡ true
      → constraints_hold c (xs ++ ((u.finals ++ (then ++ else)) ++ ys)) (in_branches condition m n g i).constraints ≡ true
  unfolding in_branches
  branches_constraints xs then else ys z h l =
      constraints_hold_three c (xs ++ ((u.finals ++ (then ++ else)) ++ ys)) (held_under g (condition i).claims) (in_branch m then_from).constraints
      (in_branch n else_from).constraints
      (rw (cut_first_of_three xs u.finals then else ys) (held_under_holds c _ g (condition i).claims (u.claims xs (then ++ (else ++ ys)) z)))
      (rw (cut_second_of_three xs u.finals then else ys) h) (rw (cut_third_of_three xs u.finals then else ys) l)

  branches_held : {then else : List Content} → AllHeld c.scope c.address_of (in_branch m then_from).variables then
      → AllHeld c.scope c.address_of (in_branch n else_from).variables else
      → AllHeld c.scope c.address_of (in_branches condition m n g i).variables (u.finals ++ (then ++ else))
  unfolding in_branches
  branches_held h l = held_append u.held (held_append h l)

  pub then_runs : {s : List Content} {d : Bool} {After : List Content → Type 0} → Untaken c n → is_true v ≡ true
      → Runs c (in_branch m then_from) s places d After then_from
      → Runs c (in_branches condition m n g i) (given ++ (s ++ else_untaken)) places (b && d) After i
  then_runs {s} {d} untaken e r =
      record {
        ends = λ xs ys z.
            rw (cut_first_of_three xs given s else_untaken ys)
            (branches_done true e xs (s ++ (else_untaken ++ ys)) z ∙ ap (λ o. b && o) (r.ends (xs ++ u.finals) (else_untaken ++ ys) (at_then xs z)));
        done = λ o.
            let w = r.done (and_right b d o) in
            record {
              finals = u.finals ++ (w.finals ++ else_untaken);
              held = branches_held w.held (all_unset c.scope c.address_of (in_branch n else_from).variables);
              places_then = w.places_then;
              after = w.after;
              walks = λ xs ys z.
                  rw (cut_first_of_three xs given s else_untaken ys)
                  (branches_walk true e xs (s ++ (else_untaken ++ ys)) z ∙ w.walks (xs ++ u.finals) (else_untaken ++ ys) (at_then xs z)
                  ∙ ap (state_with c w.places_then) (sym (cut_second_of_three xs u.finals w.finals else_untaken ys)));
              constraints = λ xs ys z.
                  let there : length ((xs ++ u.finals) ++ w.finals) ≡ else_from = rw (length-append, at_then xs z, held_length w.held) in
                  branches_constraints xs w.finals else_untaken ys z (w.constraints (xs ++ u.finals) (else_untaken ++ ys) (at_then xs z))
                  (branch_untaken c untaken else_from _ (zeros_between ((xs ++ u.finals) ++ w.finals) ys else_from
                  (length (in_branch n else_from).variables) there));
            };
      }

  pub else_runs : {s : List Content} {d : Bool} {After : List Content → Type 0} → Untaken c m → is_true v ≡ false
      → Runs c (in_branch n else_from) s places d After else_from
      → Runs c (in_branches condition m n g i) (given ++ (then_untaken ++ s)) places (b && d) After i
  else_runs {s} {d} untaken e r =
      record {
        ends = λ xs ys z.
            rw (cut_first_of_three xs given then_untaken s ys)
            (branches_done false e xs (then_untaken ++ (s ++ ys)) z
            ∙ ap (λ variables. b && walk_is_done c (state_with c places variables) (in_branch n else_from).command)
            (sym (append_assoc (xs ++ u.finals) then_untaken (s ++ ys)))
            ∙ ap (λ o. b && o) (r.ends ((xs ++ u.finals) ++ then_untaken) ys (at_else xs z)));
        done = λ o.
            let w = r.done (and_right b d o) in
            record {
              finals = u.finals ++ (then_untaken ++ w.finals);
              held = branches_held (all_unset c.scope c.address_of (in_branch m then_from).variables) w.held;
              places_then = w.places_then;
              after = w.after;
              walks = λ xs ys z.
                  rw (cut_first_of_three xs given then_untaken s ys)
                  (branches_walk false e xs (then_untaken ++ (s ++ ys)) z
                  ∙ ap (λ variables. walk c (state_with c places variables) (in_branch n else_from).command)
                  (sym (append_assoc (xs ++ u.finals) then_untaken (s ++ ys)))
                  ∙ w.walks ((xs ++ u.finals) ++ then_untaken) ys (at_else xs z)
                  ∙ ap (state_with c w.places_then) (sym (cut_third_of_three xs u.finals then_untaken w.finals ys)));
              constraints = λ xs ys z.
                  branches_constraints xs then_untaken w.finals ys z
                  (branch_untaken c untaken then_from _ (zeros_between (xs ++ u.finals) (w.finals ++ ys) then_from
                  (length (in_branch m then_from).variables) (at_then xs z)))
                  (w.constraints ((xs ++ u.finals) ++ then_untaken) ys (at_else xs z));
            };
      }
