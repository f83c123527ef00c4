-- A node's expression by the kind of its record.
use Rattle.std.specs.Prelude.{◌≡◌, ◌+◌, ◌*◌, ◌<◌}
use Rattle.kit.specs.Names.{refl, Bool, true, false, List, ℕ, eqb, eqb-true, eqb-false}
use Rattle.definitions.specs.ContractFile.{Expression, NodeRecord, node_count, data_type_of, owner_of_code, operator_of}
use Rattle.file_accepted.specs.Context.{Context}
use Rattle.theory_trees.proofs.ByKind.{constant_is, field_is, entry_is, parameter_is, operator_is, negation_is, reveal_is, other_is}
use Rattle.file_accepted.proofs.Nodes.{node_reads}
use Rattle.rewrite_plans.specs.Plans.{node_expression}
use Rattle.file_decoded.specs.Slices.{record_at}

pub data Seen (file : List ℕ) (n : ℕ) (r : NodeRecord) : Type 0 where
  seen_constant : r.kind ≡ 1 → node_expression file n ≡ Expression.constant (data_type_of r.arg) (r.first + 65536 * r.second) → Seen file n r
  seen_field : r.kind ≡ 3 → node_expression file n ≡ Expression.field r.arg → Seen file n r
  seen_entry : r.kind ≡ 4 → node_expression file n ≡ Expression.entry r.arg (node_expression file r.first) → Seen file n r
  seen_parameter : r.kind ≡ 5 → node_expression file n ≡ Expression.parameter r.arg → Seen file n r
  seen_operator : r.kind ≡ 6 → node_expression file n ≡ Expression.operator (operator_of r.arg) (node_expression file r.first) (node_expression file r.second) → Seen file n r
  seen_negation : r.kind ≡ 7 → node_expression file n ≡ Expression.negation (node_expression file r.first) → Seen file n r
  seen_reveal : r.kind ≡ 8 → node_expression file n ≡ Expression.reveal (node_expression file r.first) (owner_of_code r.arg) → Seen file n r
  seen_me : node_expression file n ≡ Expression.me → Seen file n r

module _ (file : List ℕ) (function_start : ℕ) (source : List ℕ) (context : Context file function_start source) (n : ℕ) (inside : n < node_count file) (r : NodeRecord)
    (same : r ≡ record_at source n) where
  seen_from_8 : (a : Bool) → eqb r.kind 8 ≡ a → (r.kind ≡ 1 → ⊥) → (r.kind ≡ 3 → ⊥) → (r.kind ≡ 4 → ⊥) → (r.kind ≡ 5 → ⊥) → (r.kind ≡ 6 → ⊥) → (r.kind ≡ 7 → ⊥) → Seen file n r
  seen_from_8 true e a b c d f g = seen_reveal (eqb-true _ _ e) (reveal_is (node_reads file function_start source context n inside r same) (eqb-true _ _ e))
  seen_from_8 false e a b c d f g =
      seen_me (other_is (node_reads file function_start source context n inside r same) (record { constant = a; field = b; entry = c; parameter = d; operator = f; negation = g; reveal = eqb-false _ _ e }))

  seen_from_6 : (a b : Bool) → eqb r.kind 6 ≡ a → eqb r.kind 7 ≡ b → (r.kind ≡ 1 → ⊥) → (r.kind ≡ 3 → ⊥) → (r.kind ≡ 4 → ⊥) → (r.kind ≡ 5 → ⊥) → Seen file n r
  seen_from_6 true q e f a b c d = seen_operator (eqb-true _ _ e) (operator_is (node_reads file function_start source context n inside r same) (eqb-true _ _ e))
  seen_from_6 false true e f a b c d = seen_negation (eqb-true _ _ f) (negation_is (node_reads file function_start source context n inside r same) (eqb-true _ _ f))
  seen_from_6 false false e f a b c d = seen_from_8 (eqb r.kind 8) refl a b c d (eqb-false _ _ e) (eqb-false _ _ f)

  seen_from_4 : (a b : Bool) → eqb r.kind 4 ≡ a → eqb r.kind 5 ≡ b → (r.kind ≡ 1 → ⊥) → (r.kind ≡ 3 → ⊥) → Seen file n r
  seen_from_4 true q e f a b = seen_entry (eqb-true _ _ e) (entry_is (node_reads file function_start source context n inside r same) (eqb-true _ _ e))
  seen_from_4 false true e f a b = seen_parameter (eqb-true _ _ f) (parameter_is (node_reads file function_start source context n inside r same) (eqb-true _ _ f))
  seen_from_4 false false e f a b = seen_from_6 (eqb r.kind 6) (eqb r.kind 7) refl refl a b (eqb-false _ _ e) (eqb-false _ _ f)

  seen_from_1 : (a b : Bool) → eqb r.kind 1 ≡ a → eqb r.kind 3 ≡ b → Seen file n r
  seen_from_1 true q e f = seen_constant (eqb-true _ _ e) (constant_is (node_reads file function_start source context n inside r same) (eqb-true _ _ e))
  seen_from_1 false true e f = seen_field (eqb-true _ _ f) (field_is (node_reads file function_start source context n inside r same) (eqb-true _ _ f))
  seen_from_1 false false e f = seen_from_4 (eqb r.kind 4) (eqb r.kind 5) refl refl (eqb-false _ _ e) (eqb-false _ _ f)

  pub seen : Seen file n r
  seen = seen_from_1 (eqb r.kind 1) (eqb r.kind 3) refl refl
