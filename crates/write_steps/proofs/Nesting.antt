-- The nodes of steps before a rest: those of the steps, those of the rest, and the sequences.
use Rattle.std.specs.Prelude.{◌≡◌, ◌∷◌, ◌++◌, ◌+◌, ◌-◌}
use Rattle.kit.specs.Names.{refl, ap, ap₂, sym, ◌∙◌, List, [], append_assoc, append-nil, ℕ, suc, arith, add-zero}
use Rattle.kit.specs.Names.{length, length-append}
use Rattle.definitions.specs.ContractFile.{NodeRecord, node}
use Rattle.definitions.specs.Rewriting.{Command, Step, steps_before, size, sizes, numbered, numbered_all, command_tree}
use Rattle.write_nodes.proofs.TreeNodes.{size_positive}
use Rattle.write_steps.specs.Steps.{step_tree, step_trees, step_roots, closers}

pub roots_length : (base : ℕ) (steps : List Step) → length (step_roots base steps) ≡ length steps
unfolding step_roots
roots_length base [] = refl
roots_length base (s ∷ steps) = ap suc (roots_length (base + size (step_tree s)) steps)

pub nested_size : (steps : List Step) (rest : Command) → size (command_tree (steps_before steps rest)) ≡ sizes (step_trees steps) + size (command_tree rest) + length steps
unfolding steps_before command_tree size sizes
nested_size [] rest = omega arith
nested_size (s ∷ steps) rest = let h = nested_size steps rest in omega arith

pub nested_nodes : (base : ℕ) (steps : List Step) (rest : Command)
    → numbered base (command_tree (steps_before steps rest))
    ≡ numbered_all base (step_trees steps) ++ (numbered (base + sizes (step_trees steps)) (command_tree rest)
    ++ closers (step_roots base steps) (base + sizes (step_trees steps) + size (command_tree rest) - 1))
unfolding steps_before command_tree numbered numbered_all sizes step_roots closers
nested_nodes base [] rest = rw (add-zero base) (sym (append-nil (numbered base (command_tree rest))))
nested_nodes base (s ∷ steps) rest =
    let a = size (step_tree s) in
    let later = base + a in
    let own = numbered base (step_tree s) in
    let others = numbered_all later (step_trees steps) in
    let rest_nodes = numbered (later + sizes (step_trees steps)) (command_tree rest) in
    let ends = closers (step_roots later steps) (later + sizes (step_trees steps) + size (command_tree rest) - 1) in
    let place : base + (a + sizes (step_trees steps)) ≡ later + sizes (step_trees steps) = omega arith in
    let root_count = roots_length later steps in
    let total = nested_size steps rest in
    let positive = size_positive (command_tree rest) in
    let root : later + size (command_tree (steps_before steps rest)) - 1 ≡ later + sizes (step_trees steps) + size (command_tree rest) - 1 + length (step_roots later steps) = omega arith in
    let last : ℕ → List NodeRecord = λ n. node 17 0 (later - 1) n 0 ∷ [] in
    ap₂ (λ (x : List NodeRecord) (n : ℕ). own ++ x ++ last n) (nested_nodes later steps rest) root
    ∙ regroup own others rest_nodes ends (last (later + sizes (step_trees steps) + size (command_tree rest) - 1 + length (step_roots later steps)))
    ∙ ap (λ (n : ℕ). (own ++ others) ++ (numbered n (command_tree rest) ++ (closers (step_roots later steps) (n + size (command_tree rest) - 1)
    ++ last (n + size (command_tree rest) - 1 + length (step_roots later steps))))) (sym place)
  where
    regroup : (a b c d e : List NodeRecord) → a ++ (b ++ (c ++ d)) ++ e ≡ (a ++ b) ++ (c ++ (d ++ e))
    regroup a b c d e = simp append_assoc

-- The last of the roots is closed first.
pub closers_last : (roots : List ℕ) (root top : ℕ) → closers (roots ++ (root ∷ [])) top ≡ node 17 0 root top 0 ∷ closers roots (top + 1)
unfolding closers
closers_last [] root top = rw (add-zero top)
closers_last (first ∷ roots) root top =
    let long = length-append roots (root ∷ []) in
    let place : top + length (roots ++ (root ∷ [])) ≡ top + 1 + length roots = omega arith in
    ap₂ (λ (x : List NodeRecord) (n : ℕ). x ++ (node 17 0 first n 0 ∷ [])) (closers_last roots root top) place
