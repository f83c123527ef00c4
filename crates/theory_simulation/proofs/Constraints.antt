-- Constraints under a guard, and those of a branch that is not taken: its guard is plain 0, and they hold.
use Rattle.std.specs.Prelude.{◌≡◌, ◌&&◌, ◌∷◌, ◌++◌, ◌+◌, ◌-◌, ◌≤◌, ◌<◌}
use Rattle.kit.specs.Names.{refl, Bool, true, false, not, List, [], ℕ, suc, arith, length}
use Rattle.kit.specs.Names.{replicate, length-append, length-replicate, get_or_append, get_or-replicate, get_or-append-add}
use Rattle.definitions.specs.Basics.{all}
use Rattle.definitions.specs.ContractFile.{Scope, Statement, skip, sequence, assign_field, assign_entry, require, conditional}
use Rattle.definitions.specs.Owners.{owner_of}
use Rattle.definitions.specs.Rewriting.{BodyExpression, Command, Claim, Guard, under, Constraint, Generator, kept, in_body, held_under, StatementGenerator, single, in_sequence, in_branch, in_branches, rewrite_statement}
use Rattle.definitions.specs.Ledger.{Content, plain, content_at, is_set, claim_holds, constraint_holds}
use Rattle.theory_laws.proofs.TruthValues.{and_left, and_right}
use Rattle.theory_simulation.proofs.Truth.{or_of_right, all_append}
use Rattle.theory_simulation.proofs.Pieces.{Call, claims_hold}

-- The variables from i on, as many as told, are plain 0.
abbrev pub Zeros : List Content → ℕ → ℕ → Type 0
Zeros variables i count = (j : ℕ) → i ≤ j → j < i + count → content_at variables j ≡ plain 0

pub zeros_between : (before after : List Content) (i count : ℕ) → length before ≡ i → Zeros (before ++ (replicate count (plain 0) ++ after)) i count
zeros_between before after i count e j h k =
    let m = j - i in
    let d : j ≡ length before + m = omega arith in
    let b : m < length (replicate count (plain 0)) = rw (length-replicate count (plain 0)) (omega arith) in
    rw (
      d,
      get_or-append-add before (replicate count (plain 0) ++ after) m (plain 0),
      get_or_append (replicate count (plain 0)) after (plain 0) m b,
      get_or-replicate count m (plain 0) (plain 0) (omega arith),
    )

module _ (c : Call) where
  unfoldable pub constraints_hold : List Content → List Constraint → Bool
  constraints_hold variables constraints = all (constraint_holds c.address_of variables) constraints

  pub constraints_hold_append : (variables : List Content) (l m : List Constraint)
      → constraints_hold variables (l ++ m) ≡ constraints_hold variables l && constraints_hold variables m
  unfolding constraints_hold
  constraints_hold_append variables l m = all_append (constraint_holds c.address_of variables) l m

  pub constraints_hold_three : (variables : List Content) (k l m : List Constraint) → constraints_hold variables k ≡ true
      → constraints_hold variables l ≡ true → constraints_hold variables m ≡ true
      → constraints_hold variables (k ++ (l ++ m)) ≡ true
  constraints_hold_three variables k l m e f g = rw (constraints_hold_append, constraints_hold_append, e, f) g

  pub held_under_holds : (variables : List Content) (g : Guard) (claims : List Claim) → claims_hold c variables claims ≡ true
      → constraints_hold variables (held_under g claims) ≡ true
  unfolding constraints_hold claims_hold all
  held_under_holds variables g [] e = refl
  held_under_holds variables g (k ∷ claims) e =
      let rest = all (claim_holds c.address_of variables) claims in
      rw (or_of_right (not (is_set variables g)) (claim_holds c.address_of variables k) (and_left (claim_holds c.address_of variables k) rest e))
      (held_under_holds variables g claims (and_right (claim_holds c.address_of variables k) rest e))

  held_under_unset : (variables : List Content) (g : Guard) (claims : List Claim) → is_set variables g ≡ false
      → constraints_hold variables (held_under g claims) ≡ true
  unfolding constraints_hold all
  held_under_unset variables g [] e = refl
  held_under_unset variables g (k ∷ claims) e = rw e (held_under_unset variables g claims e)

  -- A statement whose variables are all plain 0, under a guard that isn't set.
  pub record Untaken (m : StatementGenerator) : Type 0 where
    pub holds : (g : Guard) (i : ℕ) (variables : List Content) → Zeros variables i (length (m g i).variables) → is_set variables g ≡ false
        → constraints_hold variables (m g i).constraints ≡ true

  single_untaken : (m : Generator Command) → Untaken (single m)
  unfolding single
  single_untaken m = record { holds = λ g i variables z e. held_under_unset variables g (m i).claims e }

  sequence_untaken : {m n : StatementGenerator} → Untaken m → Untaken n → Untaken (in_sequence m n)
  unfolding in_sequence
  sequence_untaken {m} {n} h k =
      record {
        holds = λ g i variables z e.
            let va = (m g i).variables in
            let vb = (n g (i + length va)).variables in
            let z' : Zeros variables i (length va + length vb) = rw (length-append va vb) at z in
            rw (constraints_hold_append, h.holds g i variables (λ j x y. z' j x (omega arith)) e)
            (k.holds g (i + length va) variables (λ j x y. z' j (omega arith) (omega arith)) e);
      }

  pub branch_untaken : {m : StatementGenerator} → Untaken m → (i : ℕ) (variables : List Content)
      → Zeros variables i (length (in_branch m i).variables)
      → constraints_hold variables (in_branch m i).constraints ≡ true
  unfolding in_branch
  branch_untaken h i variables z = h.holds (under i) (suc i) variables (λ j x y. z j (omega arith) (omega arith))
      (rw (z i (omega arith) (omega arith)))

  branches_untaken : (condition : Generator BodyExpression) {m n : StatementGenerator} → Untaken m → Untaken n → Untaken (in_branches condition m n)
  unfolding in_branches
  branches_untaken condition {m} {n} h k =
      record {
        holds = λ g i variables z e.
            let vc = (condition i).variables in
            let j = i + length vc in
            let va = (in_branch m j).variables in
            let l = j + length va in
            let vb = (in_branch n l).variables in
            let z' : Zeros variables i (length vc + (length va + length vb)) = rw (length-append vc (va ++ vb), length-append va vb) at z in
            constraints_hold_three variables (held_under g (condition i).claims) (in_branch m j).constraints (in_branch n l).constraints
            (held_under_unset variables g (condition i).claims e) (branch_untaken h j variables (λ p x y. z' p (omega arith) (omega arith)))
            (branch_untaken k l variables (λ p x y. z' p (omega arith) (omega arith)));
      }

  pub untaken_holds : (scope : Scope) (s : Statement) → Untaken (rewrite_statement scope s)
  unfolding rewrite_statement
  untaken_holds scope skip = single_untaken (kept Command.skip)
  untaken_holds scope (sequence first second) = sequence_untaken (untaken_holds scope first) (untaken_holds scope second)
  untaken_holds scope (assign_field f e) = single_untaken _
  untaken_holds scope (assign_entry f key e) = single_untaken _
  untaken_holds scope (require condition) = single_untaken _
  untaken_holds scope (conditional condition then else) = branches_untaken (in_body (owner_of scope) condition) (untaken_holds scope then)
      (untaken_holds scope else)
