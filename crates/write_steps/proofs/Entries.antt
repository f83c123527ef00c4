-- The steps of a log's entries, one entry after another.
use Rattle.std.specs.Prelude.{◌≡◌, ◌∷◌, ◌+◌, ◌*◌, ◌-◌, ◌<◌, ◌≤◌}
use Rattle.kit.specs.Names.{refl, List, [], ℕ, zero, suc, arith, get_or, eq-eqb, ne_eqb}
use Rattle.definitions.specs.ContractFile.{Scope, node_count, Node}
use Rattle.theory_trees.specs.Trees.{expression_in}
use Rattle.file_accepted.specs.Context.{nodes_in, scope_in}
use Rattle.write_variable_counts.specs.Counts.{body_count}
use Rattle.write_steps.specs.Steps.{step_at, logged_steps, Readable}

module _ (scope : Scope) (nodes : List Node) (log : List ℕ) (from : ℕ) where
  pub steps_none : (left : ℕ) → left ≡ 0 → logged_steps scope nodes log from left ≡ []
  unfolding logged_steps
  steps_none zero h = refl
  steps_none (suc left) h = absurd (omega arith)

  pub steps_read : (left : ℕ) → (left ≡ 0 → ⊥) → get_or log from 0 ≡ 2
      → logged_steps scope nodes log from left ≡ step_at scope nodes log from ∷ logged_steps scope nodes log (from + 5) (left - 1)
  unfolding logged_steps
  steps_read zero h e = absurd (h refl)
  steps_read (suc left) h e =
      let less : suc left - 1 ≡ left = omega arith in
      rw (eq-eqb (get_or log from 0) 2 e, less)

  pub steps_other : (left : ℕ) → (left ≡ 0 → ⊥) → (get_or log from 0 ≡ 2 → ⊥)
      → logged_steps scope nodes log from left ≡ logged_steps scope nodes log (from + 5) (left - 1)
  unfolding logged_steps
  steps_other zero h e = absurd (h refl)
  steps_other (suc left) h e =
      let less : suc left - 1 ≡ left = omega arith in
      rw (ne_eqb (get_or log from 0) 2 e, less)

module _ (file : List ℕ) (function_start : ℕ) (log : List ℕ) (from left : ℕ) (some : left ≡ 0 → ⊥) (readable : Readable file function_start log from left) where
  pub readable_next : Readable file function_start log (from + 5) (left - 1)
  readable_next =
      record {
        space = omega (arith, readable.space);
        inside = λ k h. (let e : from + 5 + 5 * k ≡ from + 5 * suc k = omega arith in rw e (readable.inside (suc k) (omega arith)));
        few = λ k h. (let e : from + 5 + 5 * k ≡ from + 5 * suc k = omega arith in rw e (readable.few (suc k) (omega arith)));
      }

  first_place : from + 5 * 0 ≡ from
  first_place = omega arith

  pub readable_inside : get_or log from 0 ≡ 2 → get_or log (from + 3) 0 < node_count file
  readable_inside = rw first_place at (readable.inside 0 (omega arith))

  pub readable_few : get_or log from 0 ≡ 2
      → get_or log (from + 4) 0 + body_count (scope_in file function_start) (expression_in (nodes_in file) (get_or log (from + 3) 0)) ≤ 65535
  readable_few = rw first_place at (readable.few 0 (omega arith))
