-- A statement holds no other if and only if its node's kind is not a sequence's or a conditional's.
use Rattle.std.specs.Prelude.{◌≡◌, ◌<◌}
use Rattle.kit.specs.Names.{refl, ap, sym, ◌∙◌, Bool, true, false, false≢true, List, ℕ, eqb, eqb-true, eqb-false}
use Rattle.definitions.specs.ContractFile.{NodeRecord, node_count}
use Rattle.theory_trees.specs.Trees.{statement_in}
use Rattle.file_decoded.specs.Slices.{record_at}
use Rattle.file_accepted.specs.Context.{Context, nodes_in}
use Rattle.theory_trees.proofs.ByKind.{still_is, sequence_is, assign_field_is, assign_entry_is, require_is, conditional_is}
use Rattle.file_accepted.proofs.Nodes.{node_reads}
use Rattle.rewrite_events.specs.Ends.{is_simple}

module _ (file : List ℕ) (function_start : ℕ) (source : List ℕ) (context : Context file function_start source) (n : ℕ) (inside : n < node_count file)
    (r : NodeRecord) (same : r ≡ record_at source n) where
  pub others_simple : (r.kind ≡ 17 → ⊥) → (r.kind ≡ 21 → ⊥) → is_simple (statement_in (nodes_in file) n) ≡ true
  others_simple a b = by18 (eqb r.kind 18) refl
    where
      by20 : (r.kind ≡ 18 → ⊥) → (r.kind ≡ 19 → ⊥) → (t : Bool) → eqb r.kind 20 ≡ t → is_simple (statement_in (nodes_in file) n) ≡ true
      by20 c d true e = ap is_simple (require_is (node_reads file function_start source context n inside r same) (eqb-true r.kind 20 e))
      by20 c d false e =
          ap is_simple (still_is (node_reads file function_start source context n inside r same)
          (record { sequence = a; assign_field = c; assign_entry = d; require = eqb-false r.kind 20 e; conditional = b }))

      by19 : (r.kind ≡ 18 → ⊥) → (t : Bool) → eqb r.kind 19 ≡ t → is_simple (statement_in (nodes_in file) n) ≡ true
      by19 c true e = ap is_simple (assign_entry_is (node_reads file function_start source context n inside r same) (eqb-true r.kind 19 e))
      by19 c false e = by20 c (eqb-false r.kind 19 e) (eqb r.kind 20) refl

      by18 : (t : Bool) → eqb r.kind 18 ≡ t → is_simple (statement_in (nodes_in file) n) ≡ true
      by18 true e = ap is_simple (assign_field_is (node_reads file function_start source context n inside r same) (eqb-true r.kind 18 e))
      by18 false e = by19 (eqb-false r.kind 18 e) (eqb r.kind 19) refl

  module _ (simple : is_simple (statement_in (nodes_in file) n) ≡ true) where
    pub no_sequence : r.kind ≡ 17 → ⊥
    no_sequence k = false≢true (sym (ap is_simple (sequence_is (node_reads file function_start source context n inside r same) k)) ∙ simple)

    pub no_conditional : r.kind ≡ 21 → ⊥
    no_conditional k = false≢true (sym (ap is_simple (conditional_is (node_reads file function_start source context n inside r same) k)) ∙ simple)
