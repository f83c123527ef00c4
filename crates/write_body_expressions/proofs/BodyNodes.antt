-- The tree of a node's form in a body, by the kind of its record and what code has found out about it.
use Rattle.std.specs.Prelude.{◌≡◌, ◌+◌, ◌<◌, ◌≤◌}
use Rattle.kit.specs.Names.{ap, sym, ◌∙◌, Bool, true, false, List, ℕ}
use Rattle.definitions.specs.ContractFile.{NodeRecord, node_count}
use Rattle.definitions.specs.Owners.{is_public}
use Rattle.definitions.specs.Rewriting.{Tree, leaf, one_child, two_children}
use Rattle.theory_trees.specs.Trees.{expression_in}
use Rattle.file_accepted.specs.Context.{Context, nodes_in, scope_in}
use Rattle.theory_trees.proofs.ByKind.{constant_is, field_is, entry_is, parameter_is, operator_is, negation_is, reveal_is, other_is, Unlisted}
use Rattle.file_accepted.proofs.Nodes.{node_reads}
use Rattle.write_variable_counts.specs.Counts.{body_count}
use Rattle.write_variable_counts.proofs.Steps.{body_entry, body_operator, body_negation}
use Rattle.write_reads.specs.Forms.{body_form}
use Rattle.write_body_expressions.proofs.Bodies.{body_of_constant, body_of_me, body_of_field, body_of_parameter, body_of_entry, body_of_operator, body_of_supplied_operator, body_of_negation, body_of_supplied_negation, body_of_reveal}
use Rattle.write_body_expressions.proofs.Listed.{operator_kept, constant_kept}
use Rattle.file_decoded.specs.Slices.{record_at}

abbrev pub body_at : List ℕ → ℕ → ℕ → ℕ → Tree
body_at file function_start n i = body_form (scope_in file function_start) (expression_in (nodes_in file) n) i

abbrev pub count_at : List ℕ → ℕ → ℕ → ℕ
count_at file function_start n = body_count (scope_in file function_start) (expression_in (nodes_in file) n)

abbrev pub public_at : List ℕ → ℕ → ℕ → Bool
public_at file function_start n = is_public (scope_in file function_start) (expression_in (nodes_in file) n)

module _ (file : List ℕ) (function_start : ℕ) (source : List ℕ) (context : Context file function_start source) (n : ℕ) (inside : n < node_count file) (r : NodeRecord)
    (same : r ≡ record_at source n) where
  pub constant_body : (i : ℕ) → r.kind ≡ 1 → r.first ≤ 65535 → body_at file function_start n i ≡ leaf 1 r.arg r.first r.second
  constant_body i e small =
      body_of_constant _ _ i _ _ (constant_is (node_reads file function_start source context n inside r same) e) ∙ constant_kept file function_start source context n inside r same e small

  pub field_body : (i : ℕ) → r.kind ≡ 3 → body_at file function_start n i ≡ leaf 3 r.arg 0 0
  field_body i e = body_of_field _ _ i _ (field_is (node_reads file function_start source context n inside r same) e)

  pub entry_body : (i : ℕ) → r.kind ≡ 4 → body_at file function_start n i ≡ one_child 4 r.arg (body_at file function_start r.first i)
  entry_body i e = body_of_entry _ _ i _ _ (entry_is (node_reads file function_start source context n inside r same) e)

  pub parameter_body : (i : ℕ) → r.kind ≡ 5 → body_at file function_start n i ≡ leaf 5 r.arg 0 0
  parameter_body i e = body_of_parameter _ _ i _ (parameter_is (node_reads file function_start source context n inside r same) e)

  pub reveal_body : (i : ℕ) → r.kind ≡ 8 → body_at file function_start n i ≡ leaf 9 0 i 0
  reveal_body i e = body_of_reveal _ _ i _ _ (reveal_is (node_reads file function_start source context n inside r same) e)

  pub other_body : (i : ℕ) → Unlisted r.kind → body_at file function_start n i ≡ leaf 2 0 0 0
  other_body i u = body_of_me _ _ i (other_is (node_reads file function_start source context n inside r same) u)

  pub entry_count : r.kind ≡ 4 → count_at file function_start r.first ≡ count_at file function_start n
  entry_count e = body_entry _ _ _ _ (entry_is (node_reads file function_start source context n inside r same) e)

  module _ (flag : Bool) (found : flag ≡ public_at file function_start n) where
    pub operator_body : flag ≡ true → (i : ℕ) → r.kind ≡ 6 → (more : ℕ) → more ≡ count_at file function_start r.first
        → body_at file function_start n i ≡ two_children 6 r.arg (body_at file function_start r.first i) (body_at file function_start r.second (i + more))
    operator_body public i e more counted =
        body_of_operator _ _ i _ _ _ (operator_is (node_reads file function_start source context n inside r same) e) (sym found ∙ public)
        ∙ ap (λ (code : ℕ). two_children 6 code (body_at file function_start r.first i) (body_at file function_start r.second (i + count_at file function_start r.first)))
        (operator_kept file function_start source context n inside r same e)
        ∙ ap (λ (j : ℕ). two_children 6 r.arg (body_at file function_start r.first i) (body_at file function_start r.second (i + j))) (sym counted)

    pub operator_count_law : flag ≡ true → r.kind ≡ 6 → count_at file function_start r.first + count_at file function_start r.second ≡ count_at file function_start n
    operator_count_law public e = body_operator _ _ _ _ _ (operator_is (node_reads file function_start source context n inside r same) e) (sym found ∙ public)

    pub supplied_operator_body : flag ≡ false → (i : ℕ) → r.kind ≡ 6 → body_at file function_start n i ≡ leaf 9 0 i 0
    supplied_operator_body private i e =
        body_of_supplied_operator _ _ i _ _ _ (operator_is (node_reads file function_start source context n inside r same) e) (sym found ∙ private)

    pub negation_body : flag ≡ true → (i : ℕ) → r.kind ≡ 7 → body_at file function_start n i ≡ one_child 7 0 (body_at file function_start r.first i)
    negation_body public i e = body_of_negation _ _ i _ (negation_is (node_reads file function_start source context n inside r same) e) (sym found ∙ public)

    pub negation_count : flag ≡ true → r.kind ≡ 7 → count_at file function_start r.first ≡ count_at file function_start n
    negation_count public e = body_negation _ _ _ (negation_is (node_reads file function_start source context n inside r same) e) (sym found ∙ public)

    pub supplied_negation_body : flag ≡ false → (i : ℕ) → r.kind ≡ 7 → body_at file function_start n i ≡ leaf 9 0 i 0
    supplied_negation_body private i e = body_of_supplied_negation _ _ i _ (negation_is (node_reads file function_start source context n inside r same) e) (sym found ∙ private)
