-- The tree of a node's form in a circuit, by the kind of its record and what code has found out about it.
use Rattle.std.specs.Prelude.{◌≡◌, ◌&&◌, ◌+◌, ◌<◌, ◌≤◌}
use Rattle.kit.specs.Names.{ap, sym, ◌∙◌, Bool, true, false, List, ℕ}
use Rattle.definitions.specs.ContractFile.{is_division, NodeRecord, node_count, operator_of}
use Rattle.definitions.specs.Rewriting.{Tree, leaf, one_child, two_children}
use Rattle.theory_trees.specs.Trees.{expression_in}
use Rattle.file_accepted.specs.Context.{Context, nodes_in, scope_in}
use Rattle.theory_trees.proofs.ByKind.{constant_is, field_is, entry_is, parameter_is, operator_is, negation_is, reveal_is, other_is, Unlisted}
use Rattle.file_accepted.proofs.Nodes.{node_reads}
use Rattle.write_variable_counts.specs.Counts.{circuit_count}
use Rattle.write_variable_counts.proofs.Steps.{circuit_constant, circuit_me, circuit_field, circuit_parameter, circuit_entry, circuit_division, circuit_operator, circuit_negation, circuit_reveal}
use Rattle.write_reads.specs.Forms.{circuit_form, read_kind}
use Rattle.write_circuit_expressions.proofs.Circuits.{circuit_of_constant, circuit_of_me, circuit_of_field, circuit_of_parameter, circuit_of_entry, circuit_of_division, circuit_of_operator, circuit_of_negation, circuit_of_reveal}
use Rattle.write_body_expressions.proofs.Listed.{operator_kept, constant_kept}
use Rattle.write_body_expressions.proofs.BodyNodes.{count_at, public_at}
use Rattle.file_decoded.specs.Slices.{record_at}

abbrev pub circuit_at : List ℕ → ℕ → ℕ → ℕ → Tree
circuit_at file function_start n i = circuit_form (scope_in file function_start) (expression_in (nodes_in file) n) i

abbrev pub circuit_count_at : List ℕ → ℕ → ℕ → ℕ
circuit_count_at file function_start n = circuit_count (scope_in file function_start) (expression_in (nodes_in file) n)

module _ (file : List ℕ) (function_start : ℕ) (source : List ℕ) (context : Context file function_start source) (n : ℕ) (inside : n < node_count file) (r : NodeRecord)
    (same : r ≡ record_at source n) where
  pub constant_circuit : (i : ℕ) → r.kind ≡ 1 → r.first ≤ 65535 → circuit_at file function_start n i ≡ leaf 1 r.arg r.first r.second
  constant_circuit i e small =
      circuit_of_constant _ _ i _ _ (constant_is (node_reads file function_start source context n inside r same) e) ∙ constant_kept file function_start source context n inside r same e small

  pub negation_circuit : (i : ℕ) → r.kind ≡ 7 → circuit_at file function_start n i ≡ one_child 7 0 (circuit_at file function_start r.first i)
  negation_circuit i e = circuit_of_negation _ _ i _ (negation_is (node_reads file function_start source context n inside r same) e)

  pub reveal_circuit : (i : ℕ) → r.kind ≡ 8 → circuit_at file function_start n i ≡ circuit_at file function_start r.first i
  reveal_circuit i e = circuit_of_reveal _ _ i _ _ (reveal_is (node_reads file function_start source context n inside r same) e)

  pub other_circuit : (i : ℕ) → Unlisted r.kind → circuit_at file function_start n i ≡ leaf 2 0 0 0
  other_circuit i u = circuit_of_me _ _ i (other_is (node_reads file function_start source context n inside r same) u)

  pub constant_variables : r.kind ≡ 1 → 0 ≡ circuit_count_at file function_start n
  constant_variables e = circuit_constant _ _ _ _ (constant_is (node_reads file function_start source context n inside r same) e)

  pub field_variables : r.kind ≡ 3 → 1 ≡ circuit_count_at file function_start n
  field_variables e = circuit_field _ _ _ (field_is (node_reads file function_start source context n inside r same) e)

  pub parameter_variables : r.kind ≡ 5 → 1 ≡ circuit_count_at file function_start n
  parameter_variables e = circuit_parameter _ _ _ (parameter_is (node_reads file function_start source context n inside r same) e)

  pub other_variables : Unlisted r.kind → 0 ≡ circuit_count_at file function_start n
  other_variables u = circuit_me _ _ (other_is (node_reads file function_start source context n inside r same) u)

  pub entry_variables : r.kind ≡ 4 → count_at file function_start r.first + 1 ≡ circuit_count_at file function_start n
  entry_variables e = circuit_entry _ _ _ _ (entry_is (node_reads file function_start source context n inside r same) e)

  pub negation_variables : r.kind ≡ 7 → circuit_count_at file function_start r.first ≡ circuit_count_at file function_start n
  negation_variables e = circuit_negation _ _ _ (negation_is (node_reads file function_start source context n inside r same) e)

  pub reveal_variables : r.kind ≡ 8 → circuit_count_at file function_start r.first ≡ circuit_count_at file function_start n
  reveal_variables e = circuit_reveal _ _ _ _ (reveal_is (node_reads file function_start source context n inside r same) e)

  -- A read, whose kind tells whether it is public.
  module _ (flag : Bool) (found : flag ≡ public_at file function_start n) (i : ℕ) where
    pub field_circuit : r.kind ≡ 3 → circuit_at file function_start n i ≡ leaf (read_kind flag) 0 i 0
    field_circuit e = circuit_of_field _ _ i _ (field_is (node_reads file function_start source context n inside r same) e) ∙ ap (λ (b : Bool). leaf (read_kind b) 0 i 0) (sym found)

    pub parameter_circuit : r.kind ≡ 5 → circuit_at file function_start n i ≡ leaf (read_kind flag) 0 i 0
    parameter_circuit e = circuit_of_parameter _ _ i _ (parameter_is (node_reads file function_start source context n inside r same) e) ∙ ap (λ (b : Bool). leaf (read_kind b) 0 i 0) (sym found)

    pub entry_circuit : r.kind ≡ 4 → (more : ℕ) → more ≡ count_at file function_start r.first → circuit_at file function_start n i ≡ leaf (read_kind flag) 0 (i + more) 0
    entry_circuit e more counted =
        circuit_of_entry _ _ i _ _ (entry_is (node_reads file function_start source context n inside r same) e)
        ∙ ap (λ (b : Bool). leaf (read_kind b) 0 (i + count_at file function_start r.first) 0) (sym found)
        ∙ ap (λ (j : ℕ). leaf (read_kind flag) 0 (i + j) 0) (sym counted)

  module _ (flag : Bool) (found : flag ≡ (public_at file function_start n && is_division (operator_of r.arg))) where
    pub division_circuit : flag ≡ true → (i : ℕ) → r.kind ≡ 6 → (left right : ℕ) → left ≡ count_at file function_start r.first
        → right ≡ count_at file function_start r.second → circuit_at file function_start n i ≡ leaf 9 0 (i + left + right) 0
    division_circuit h i e left right counted_left counted_right =
        circuit_of_division _ _ i _ _ _ (operator_is (node_reads file function_start source context n inside r same) e) (sym found ∙ h)
        ∙ ap (λ (j : ℕ). leaf 9 0 (i + j + count_at file function_start r.second) 0) (sym counted_left)
        ∙ ap (λ (j : ℕ). leaf 9 0 (i + left + j) 0) (sym counted_right)

    pub division_variables : flag ≡ true → r.kind ≡ 6
        → count_at file function_start r.first + count_at file function_start r.second + 1 ≡ circuit_count_at file function_start n
    division_variables h e = circuit_division _ _ _ _ _ (operator_is (node_reads file function_start source context n inside r same) e) (sym found ∙ h)

    pub operator_circuit : flag ≡ false → (i : ℕ) → r.kind ≡ 6 → (next : ℕ) → next ≡ i + circuit_count_at file function_start r.first
        → circuit_at file function_start n i ≡ two_children 6 r.arg (circuit_at file function_start r.first i) (circuit_at file function_start r.second next)
    operator_circuit h i e next counted =
        circuit_of_operator _ _ i _ _ _ (operator_is (node_reads file function_start source context n inside r same) e) (sym found ∙ h)
        ∙ ap (λ (code : ℕ). two_children 6 code (circuit_at file function_start r.first i) (circuit_at file function_start r.second (i + circuit_count_at file function_start r.first)))
        (operator_kept file function_start source context n inside r same e)
        ∙ ap (λ (j : ℕ). two_children 6 r.arg (circuit_at file function_start r.first i) (circuit_at file function_start r.second j)) (sym counted)

    pub operator_variables : flag ≡ false → r.kind ≡ 6
        → circuit_count_at file function_start r.first + circuit_count_at file function_start r.second ≡ circuit_count_at file function_start n
    operator_variables h e = circuit_operator _ _ _ _ _ (operator_is (node_reads file function_start source context n inside r same) e) (sym found ∙ h)
