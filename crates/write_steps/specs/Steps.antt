-- 01, Rewriting: "Steps nest rightwards: (step, rest)".
-- The nodes of the steps, then those of the rest, then a sequence for each step, the last one's first.
use Rattle.std.specs.Prelude.{◌≡◌, ◌∷◌, ◌++◌, ◌+◌, ◌*◌, ◌-◌, ◌<◌, ◌≤◌}
use Rattle.kit.specs.Names.{Bool, cond, List, [], map, ℕ, zero, suc, eqb, length, get_or}
use Rattle.definitions.specs.Basics.{flat_map}
use Rattle.definitions.specs.ContractFile.{Scope, NodeRecord, node_count, node, Node}
use Rattle.definitions.specs.Owners.{owner_of}
use Rattle.definitions.specs.Rewriting.{Step, in_body, Tree, setting, size, sizes, numbered_all, node_bytes, body_tree}
use Rattle.theory_trees.specs.Trees.{expression_in}
use Rattle.memory_buffer.specs.Buffer.{stored}
use Rattle.file_accepted.specs.Context.{nodes_in, scope_in}
use Rattle.write_variable_counts.specs.Counts.{body_count}
use Rattle.write_steps.specs.declared.Steps.{Steps}

abbrev pub step_tree : Step → Tree
step_tree s = setting s.variable (body_tree s.value)

abbrev pub step_trees : List Step → List Tree
step_trees steps = map step_tree steps

unfoldable pub step_roots : ℕ → List Step → List ℕ
step_roots base [] = []
step_roots base (s ∷ steps) = (base + size (step_tree s) - 1) ∷ step_roots (base + size (step_tree s)) steps

-- The sequences of steps with these roots before a rest whose root is `top`, the node before the first sequence.
unfoldable pub closers : List ℕ → ℕ → List NodeRecord
closers [] top = []
closers (root ∷ roots) top = closers roots top ++ (node 17 0 root (top + length roots) 0 ∷ [])

-- An entry of a log is five numbers: tag (2 for a read variable), variable, owner code, node, and the first variable of what is read.
abbrev pub is_read_at : List ℕ → ℕ → Bool
is_read_at log from = eqb (get_or log from 0) 2

abbrev pub step_at : Scope → List Node → List ℕ → ℕ → Step
step_at scope nodes log from = record {
  variable = get_or log (from + 1) 0;
  value = (in_body (owner_of scope) (expression_in nodes (get_or log (from + 3) 0)) (get_or log (from + 4) 0)).form;
}

-- The steps of the read variables among so many entries of a log.
unfoldable pub logged_steps : Scope → List Node → List ℕ → ℕ → ℕ → List Step
logged_steps scope nodes log from zero = []
logged_steps scope nodes log from (suc left) =
    cond (is_read_at log from)
    (step_at scope nodes log from ∷ logged_steps scope nodes log (from + 5) left)
    (logged_steps scope nodes log (from + 5) left)

abbrev pub steps_in : List ℕ → ℕ → List ℕ → ℕ → ℕ → List Step
steps_in file function_start log from left = logged_steps (scope_in file function_start) (nodes_in file) log from left

-- The entries are there, and what they read can be written.
pub record Readable (file : List ℕ) (function_start : ℕ) (log : List ℕ) (from left : ℕ) : Type 0 where
  pub space : from + 5 * left ≤ length log
  pub inside : (k : ℕ) → k < left → get_or log (from + 5 * k) 0 ≡ 2 → get_or log (from + 5 * k + 3) 0 < node_count file
  pub few : (k : ℕ) → k < left → get_or log (from + 5 * k) 0 ≡ 2
      → get_or log (from + 5 * k + 4) 0
      + body_count (scope_in file function_start) (expression_in (nodes_in file) (get_or log (from + 5 * k + 3) 0)) ≤ 65535

-- There is room for the nodes of the steps, and for their roots.
pub record StepsRoom (out roots : List ℕ) (at base from : ℕ) (steps : List Step) : Type 0 where
  pub bytes : at + 8 * sizes (step_trees steps) ≤ length out
  pub numbers : base + sizes (step_trees steps) ≤ 65535
  pub space : from + length steps ≤ length roots

-- The nodes of the steps are stored in one buffer and their roots in another, and they are so many.
pub record StepsPut (out after roots roots_after : List ℕ) (at base from : ℕ) (steps : List Step) (r : Steps) : Type 0 where
  pub contents : after ≡ stored out at (flat_map node_bytes (numbered_all base (step_trees steps)))
  pub noted : roots_after ≡ stored roots from (step_roots base steps)
  pub nodes : r.nodes ≡ sizes (step_trees steps)
  pub count : r.count ≡ length steps
