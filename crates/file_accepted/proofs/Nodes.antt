-- The nodes of a file by number, and that a decoded record is a node's.
use Rattle.std.specs.Prelude.{◌≡◌, ◌+◌, ◌*◌, ◌<◌, ◌≤◌}
use Rattle.kit.specs.Names.{refl, ap, sym, subst, ◌∙◌, Bool, true, false, List, ℕ, arith, ltb}
use Rattle.kit.specs.Names.{length-map, get_or_eq_default, length, ltb-true, ltb-false}
use Rattle.definitions.specs.ContractFile.{Expression, Statement, NodeRecord, node, nodes_at, node_count, node_record, sections_of, Kind, kind_of, unknown_node, node_of, node_at}
use Rattle.definitions.specs.Numbers.{kind_in_tables}
use Rattle.theory_trees.specs.Trees.{Falling, Keeps, Reads}
use Rattle.theory_trees.proofs.Kept.{unknown_keeps}
use Rattle.theory_trees.proofs.Unfolding.{nodes_read_law}
use Rattle.file_bytes.proofs.Sections.{node_of_law, count_of_nodes}
use Rattle.file_decoded.specs.Slices.{record_at}
use Rattle.file_accepted.specs.Context.{nodes_in, Context}
use Rattle.file_accepted.proofs.Accepted.{mapped_at}

pub node_read_law : (file : List ℕ) (n : ℕ) → n < node_count file → node_at (nodes_in file) n ≡ node_of (node_record file (nodes_at file + 2 + 8 * n))
unfolding nodes_in
node_read_law file n inside =
    mapped_at node_of (sections_of file).nodes n unknown_node (node 0 0 0 0 0) (omega (arith, count_of_nodes file))
    ∙ ap (λ (r : NodeRecord). node_of r) (node_of_law file n (node 0 0 0 0 0) inside)

pub nodes_counted_law : (file : List ℕ) → length (nodes_in file) ≡ node_count file
unfolding nodes_in
nodes_counted_law file = length-map (sections_of file).nodes node_of ∙ count_of_nodes file

pub node_past : (file : List ℕ) (n : ℕ) → node_count file ≤ n → node_at (nodes_in file) n ≡ unknown_node
node_past file n h = get_or_eq_default (nodes_in file) unknown_node (omega (arith, nodes_counted_law file))

-- What the nodes of a file keep, its whole table keeps.
pub nodes_keep : (P : Expression → Type 0) (Q : Statement → Type 0) → P Expression.me → Q Statement.skip → (file : List ℕ)
    → ((n : ℕ) → n < node_count file → Keeps P Q (node_of (node_record file (nodes_at file + 2 + 8 * n)))) → (n : ℕ) → Keeps P Q (node_at (nodes_in file) n)
nodes_keep P Q leaf nothing file keep n = go (ltb n (node_count file)) refl
  where
    go : (inside : Bool) → ltb n (node_count file) ≡ inside → Keeps P Q (node_at (nodes_in file) n)
    go true e = let h = ltb-true n (node_count file) e in subst (Keeps P Q) (sym (node_read_law file n h)) (keep n h)
    go false e = subst (Keeps P Q) (sym (node_past file n (ltb-false n (node_count file) e))) (unknown_keeps P Q leaf nothing)

pub context_falls : (file : List ℕ) (function_start : ℕ) (source : List ℕ) → Context file function_start source → Falling (nodes_in file)
unfolding nodes_in
context_falls file function_start source context = record { read = nodes_read_law (sections_of file).nodes; below = context.below }

module _ (file : List ℕ) (function_start : ℕ) (source : List ℕ) (context : Context file function_start source) (n : ℕ) (inside : n < node_count file) (r : NodeRecord)
    (same : r ≡ record_at source n) where
  -- A decoded record is that of the file's node.
  pub node_reads : Reads (nodes_in file) n r
  node_reads = record {
    falling = context_falls file function_start source context;
    named = node_read_law file n inside ∙ ap (λ (x : NodeRecord). node_of x) (sym (same ∙ context.read n inside));
  }

  pub listed_is : (k : Kind) → kind_of r.kind ≡ k → kind_in_tables k r ≡ true
  listed_is k e = rw (← e, same) (context.node_listed n inside)
