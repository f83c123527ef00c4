-- The node that a number names among the decoded ones; the numbers of the nodes fall from parent to child.
use Rattle.std.specs.Prelude.{◌≡◌, ◌+◌, ◌*◌, ◌/◌, ◌<◌}
use Rattle.kit.specs.Names.{refl, ap, sym, ◌∙◌, Bool, true, false, List, ℕ, arith, ltb, length, ltb-false}
use Rattle.kit.specs.Names.{ltb-true}
use Rattle.definitions.specs.Basics.{all}
use Rattle.definitions.specs.ContractFile.{NodeRecord, node, unknown_node, node_of, node_at, children, expression_parts, statement_parts}
use Rattle.theory_trees.specs.Trees.{Falling, Reads}
use Rattle.theory_trees.proofs.Unfolding.{nodes_read_law}
use Rattle.theory_trees.proofs.Falls.{none_above}
use Rattle.file_decoded.specs.Slices.{number_at, node_from, nodes_from}
use Rattle.file_decoded.proofs.Records.{node_within, node_past}
use Rattle.rules_scopes.specs.Trees.{nodes_in}
use Rattle.rules_scopes.specs.Scopes.{NodesReady}

module _ (nodes : List ℕ) (n : ℕ) where
  pub node_named : n < length nodes / 5 → node_at (nodes_in nodes) n ≡ node_of (node_from nodes (5 * n))
  node_named inside =
      let e : 0 + 5 * n ≡ 5 * n = omega arith in
      rw e at (node_within (length nodes / 5) nodes 0 n inside)

  -- A node whose numbers a function has read.
  pub read_five : (kind arg first second third : ℕ) → kind ≡ number_at nodes (5 * n) → arg ≡ number_at nodes (5 * n + 1) → first ≡ number_at nodes (5 * n + 2)
      → second ≡ number_at nodes (5 * n + 3) → third ≡ number_at nodes (5 * n + 4) → node kind arg first second third ≡ node_from nodes (5 * n)
  read_five kind arg first second third a b c d e = rw (a, b, c, d, e)

no_children : (n : ℕ) (x : _) → x ≡ unknown_node → all (λ child. ltb child n) (children x) ≡ true
unfolding expression_parts statement_parts all
no_children n x e = rw e

module _ (fields nodes : List ℕ) (ready : NodesReady fields nodes) where
  -- A child's number is below its parent's.
  pub falling : Falling (nodes_in nodes)
  falling = record { read = nodes_read_law (nodes_from (length nodes / 5) nodes 0); below = λ n. go n (ltb n (length nodes / 5)) refl }
    where
      go : (n : ℕ) (b : Bool) → ltb n (length nodes / 5) ≡ b → all (λ child. ltb child n) (children (node_at (nodes_in nodes) n)) ≡ true
      go n true e =
          let inside = ltb-true n (length nodes / 5) e in
          rw (node_named nodes n inside) (none_above n (children (node_of (node_from nodes (5 * n)))) (ready.falling n inside))
      go n false e = no_children n (node_at (nodes_in nodes) n) (node_past (length nodes / 5) nodes 0 n (ltb-false n (length nodes / 5) e))

  -- A decoded record is that of the node.
  pub node_reads : (n : ℕ) → n < length nodes / 5 → (r : NodeRecord) → r ≡ node_from nodes (5 * n) → Reads (nodes_in nodes) n r
  node_reads n inside r same = record { falling = falling; named = node_named nodes n inside ∙ ap (λ (x : NodeRecord). node_of x) (sym same) }
