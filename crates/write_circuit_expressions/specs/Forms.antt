-- 01, Rewriting: what code makes of an expression's form in a circuit.
use Rattle.std.specs.Prelude.{◌≡◌, ◌+◌}
use Rattle.kit.specs.Names.{List, ℕ}
use Rattle.theory_trees.specs.Trees.{expression_in}
use Rattle.file_accepted.specs.Context.{nodes_in, scope_in}
use Rattle.write_nodes.specs.Numbering.{Numbered}
use Rattle.write_variable_counts.specs.Counts.{circuit_count}
use Rattle.write_reads.specs.Forms.{circuit_form}
use Rattle.write_circuit_expressions.specs.declared.FormExtent.{FormExtent}

-- The nodes of node n's form are stored and counted, and the next variable is the one behind those that the form makes from number i on.
pub record FormWritten (file : List ℕ) (function_start n i : ℕ) (out after : List ℕ) (at base : ℕ) (r : FormExtent) : Type 0 where
  pub form : Numbered out after at base (circuit_form (scope_in file function_start) (expression_in (nodes_in file) n) i) r.nodes
  pub next : r.next ≡ i + circuit_count (scope_in file function_start) (expression_in (nodes_in file) n)
