-- The form and the count of a node's statement, by the kind of its record and what code has found out about it.
use Rattle.std.specs.Prelude.{◌≡◌, ◌+◌, ◌<◌}
use Rattle.kit.specs.Names.{ap, sym, ◌∙◌, Bool, List, none, ℕ}
use Rattle.definitions.specs.ContractFile.{NodeRecord, node_count}
use Rattle.definitions.specs.Rewriting.{Tree, one_child, two_children}
use Rattle.theory_trees.specs.Trees.{expression_in, statement_in}
use Rattle.file_accepted.specs.Context.{Context, nodes_in, scope_in}
use Rattle.theory_trees.proofs.ByKind.{assign_field_is, assign_entry_is, require_is}
use Rattle.file_accepted.proofs.Nodes.{node_reads}
use Rattle.write_variable_counts.specs.Counts.{body_count}
use Rattle.write_reads.specs.Forms.{body_form}
use Rattle.write_simple_statements.specs.Places.{placed_form, placed_count, PrivatePlace}
use Rattle.write_simple_statements.specs.Statements.{simple_form, simple_count}
use Rattle.write_simple_statements.proofs.Statements.{form_of_require, count_of_require, form_of_field, count_of_field, form_of_entry, count_of_entry}
use Rattle.file_decoded.specs.Slices.{record_at}

abbrev pub simple_at : List ℕ → ℕ → ℕ → ℕ → Tree
simple_at file function_start n i = simple_form (scope_in file function_start) (statement_in (nodes_in file) n) i

abbrev pub simple_count_at : List ℕ → ℕ → ℕ → ℕ
simple_count_at file function_start n = simple_count (scope_in file function_start) (statement_in (nodes_in file) n)

abbrev pub placed_at : List ℕ → ℕ → Bool → ℕ → ℕ → Tree
placed_at file function_start private n i = placed_form (scope_in file function_start) private (expression_in (nodes_in file) n) i

abbrev pub placed_count_at : List ℕ → ℕ → Bool → ℕ → ℕ
placed_count_at file function_start private n = placed_count (scope_in file function_start) private (expression_in (nodes_in file) n)

abbrev pub body_at : List ℕ → ℕ → ℕ → ℕ → Tree
body_at file function_start n i = body_form (scope_in file function_start) (expression_in (nodes_in file) n) i

abbrev pub count_at : List ℕ → ℕ → ℕ → ℕ
count_at file function_start n = body_count (scope_in file function_start) (expression_in (nodes_in file) n)

module _ (file : List ℕ) (function_start : ℕ) (source : List ℕ) (context : Context file function_start source) (n : ℕ) (inside : n < node_count file) (r : NodeRecord)
    (same : r ≡ record_at source n) where
  pub require_form : (i : ℕ) → r.kind ≡ 20 → simple_at file function_start n i ≡ one_child 20 0 (body_at file function_start r.first i)
  require_form i e = form_of_require _ _ i _ (require_is (node_reads file function_start source context n inside r same) e)

  pub require_count : r.kind ≡ 20 → count_at file function_start r.first ≡ simple_count_at file function_start n
  require_count e = count_of_require _ _ _ (require_is (node_reads file function_start source context n inside r same) e)

  module _ (private : Bool) (found : PrivatePlace file r.arg private) where
    pub field_form : (i : ℕ) → r.kind ≡ 18 → simple_at file function_start n i ≡ one_child 18 r.arg (placed_at file function_start private r.first i)
    field_form i e = form_of_field _ _ _ _ (assign_field_is (node_reads file function_start source context n inside r same) e) private (found.test none) i

    pub field_count_law : r.kind ≡ 18 → placed_count_at file function_start private r.first ≡ simple_count_at file function_start n
    field_count_law e = count_of_field _ _ _ _ (assign_field_is (node_reads file function_start source context n inside r same) e) private (found.test none)

    pub entry_form_law : (i : ℕ) → r.kind ≡ 19 → (more : ℕ) → more ≡ count_at file function_start r.first
        → simple_at file function_start n i ≡ two_children 19 r.arg (body_at file function_start r.first i) (placed_at file function_start private r.second (i + more))
    entry_form_law i e more counted =
        form_of_entry _ _ _ _ _ (assign_entry_is (node_reads file function_start source context n inside r same) e) private (found.test _) i
        ∙ ap (λ (j : ℕ). two_children 19 r.arg (body_at file function_start r.first i) (placed_at file function_start private r.second (i + j))) (sym counted)

    pub entry_count : r.kind ≡ 19 → count_at file function_start r.first + placed_count_at file function_start private r.second ≡ simple_count_at file function_start n
    entry_count e = count_of_entry _ _ _ _ _ (assign_entry_is (node_reads file function_start source context n inside r same) e) private (found.test _)
