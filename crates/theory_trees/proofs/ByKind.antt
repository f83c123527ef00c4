-- The tree of a node by its kind; the numbers of its parts are below its own.
use Rattle.std.specs.Prelude.{◌≡◌, ◌∷◌, ◌+◌, ◌*◌, ◌<◌}
use Rattle.kit.specs.Names.{refl, ap, ◌∙◌, Bool, true, false, cond, List, [], ℕ, eqb, ltb, ne_eqb, ltb-true}
use Rattle.definitions.specs.Basics.{all}
use Rattle.definitions.specs.ContractFile.{Expression, Statement, NodeRecord, data_type_of, operator_of, owner_of_code, constant_kind, me_kind, field_kind, entry_kind, parameter_kind, operator_kind, negation_kind, reveal_kind, skip_kind, sequence_kind, assign_field_kind, assign_entry_kind, require_kind, conditional_kind, no_kind, kind_of, Node, node_of, node_of_kind, children, expression_parts, statement_parts, expression_of, statement_of}
use Rattle.theory_laws.proofs.TruthValues.{and_left, and_right}
use Rattle.theory_trees.specs.Trees.{expression_in, statement_in, Reads}
use Rattle.theory_trees.proofs.Unfolding.{expression_unfolds, statement_unfolds}

-- A kind that makes no expression but me, and one that makes no statement but skip.
pub record Unlisted (kind : ℕ) : Type 0 where
  pub constant : kind ≡ 1 → ⊥
  pub field : kind ≡ 3 → ⊥
  pub entry : kind ≡ 4 → ⊥
  pub parameter : kind ≡ 5 → ⊥
  pub operator : kind ≡ 6 → ⊥
  pub negation : kind ≡ 7 → ⊥
  pub reveal : kind ≡ 8 → ⊥

pub record Still (kind : ℕ) : Type 0 where
  pub sequence : kind ≡ 17 → ⊥
  pub assign_field : kind ≡ 18 → ⊥
  pub assign_entry : kind ≡ 19 → ⊥
  pub require : kind ≡ 20 → ⊥
  pub conditional : kind ≡ 21 → ⊥

module _ (r : NodeRecord) (below : ℕ → Expression) (beneath : ℕ → Statement) where
  other_expressions : (b2 b16 b17 b18 b19 b20 b21 : Bool) → expression_of
      (node_of_kind (cond false constant_kind (cond b2 me_kind
      (cond false field_kind (cond false entry_kind
      (cond false parameter_kind (cond false operator_kind
      (cond false negation_kind (cond false reveal_kind
      (cond b16 skip_kind (cond b17 sequence_kind
      (cond b18 assign_field_kind (cond b19 assign_entry_kind
      (cond b20 require_kind (cond b21 conditional_kind no_kind)))))))))))))) r) below ≡ Expression.me
  unfolding node_of_kind expression_of
  other_expressions true b16 b17 b18 b19 b20 b21 = refl
  other_expressions false true b17 b18 b19 b20 b21 = refl
  other_expressions false false true b18 b19 b20 b21 = refl
  other_expressions false false false true b19 b20 b21 = refl
  other_expressions false false false false true b20 b21 = refl
  other_expressions false false false false false true b21 = refl
  other_expressions false false false false false false true = refl
  other_expressions false false false false false false false = refl

  other_expression : Unlisted r.kind → expression_of (node_of r) below ≡ Expression.me
  unfolding kind_of
  other_expression u = rw (
    ne_eqb _ _ u.constant,
    ne_eqb _ _ u.field,
    ne_eqb _ _ u.entry,
    ne_eqb _ _ u.parameter,
    ne_eqb _ _ u.operator,
    ne_eqb _ _ u.negation,
    ne_eqb _ _ u.reveal,
  ) (other_expressions (eqb r.kind 2) (eqb r.kind 16) (eqb r.kind 17) (eqb r.kind 18) (eqb r.kind 19) (eqb r.kind 20)
      (eqb r.kind 21))

  other_statements : (b1 b2 b3 b4 b5 b6 b7 b8 b16 : Bool) → statement_of
      (node_of_kind (cond b1 constant_kind (cond b2 me_kind
      (cond b3 field_kind (cond b4 entry_kind (cond b5 parameter_kind
      (cond b6 operator_kind (cond b7 negation_kind
      (cond b8 reveal_kind (cond b16 skip_kind (cond false sequence_kind
      (cond false assign_field_kind (cond false assign_entry_kind
      (cond false require_kind (cond false conditional_kind no_kind)))))))))))))) r) below beneath ≡ Statement.skip
  unfolding node_of_kind statement_of
  other_statements true b2 b3 b4 b5 b6 b7 b8 b16 = refl
  other_statements false true b3 b4 b5 b6 b7 b8 b16 = refl
  other_statements false false true b4 b5 b6 b7 b8 b16 = refl
  other_statements false false false true b5 b6 b7 b8 b16 = refl
  other_statements false false false false true b6 b7 b8 b16 = refl
  other_statements false false false false false true b7 b8 b16 = refl
  other_statements false false false false false false true b8 b16 = refl
  other_statements false false false false false false false true b16 = refl
  other_statements false false false false false false false false true = refl
  other_statements false false false false false false false false false = refl

  other_statement : Still r.kind → statement_of (node_of r) below beneath ≡ Statement.skip
  unfolding kind_of
  other_statement s =
      rw (ne_eqb _ _ s.sequence, ne_eqb _ _ s.assign_field, ne_eqb _ _ s.assign_entry, ne_eqb _ _ s.require, ne_eqb _ _ s.conditional)
      (other_statements (eqb r.kind 1) (eqb r.kind 2) (eqb r.kind 3) (eqb r.kind 4) (eqb r.kind 5) (eqb r.kind 6)
      (eqb r.kind 7) (eqb r.kind 8) (eqb r.kind 16))

module _ (n : ℕ) where
  abbrev under : List ℕ → Type 0
  under parts = all (λ part. ltb part n) parts ≡ true

  first_under : (a : ℕ) (rest : List ℕ) → under (a ∷ rest) → a < n
  unfolding all
  first_under a rest h = ltb-true a n (and_left (ltb a n) _ h)

  rest_under : (a : ℕ) (rest : List ℕ) → under (a ∷ rest) → under rest
  unfolding all
  rest_under a rest h = and_right (ltb a n) _ h

  two_under : (a b : ℕ) → under (a ∷ b ∷ []) → (a < n) × (b < n)
  two_under a b h = (first_under a (b ∷ []) h, first_under b [] (rest_under a (b ∷ []) h))

  three_under : (a b c : ℕ) → under (a ∷ b ∷ c ∷ []) → (a < n) × ((b < n) × (c < n))
  three_under a b c h = (first_under a (b ∷ c ∷ []) h, two_under b c (rest_under a (b ∷ c ∷ []) h))

module _ {nodes : List Node} {n : ℕ} {r : NodeRecord} (reads : Reads nodes n r) where
  pub expression_read : expression_in nodes n ≡ expression_of (node_of r) (expression_in nodes)
  expression_read =
      expression_unfolds nodes reads.falling n ∙ ap (λ (node : Node). expression_of node (expression_in nodes)) reads.named

  statement_read : statement_in nodes n ≡ statement_of (node_of r) (expression_in nodes) (statement_in nodes)
  statement_read =
      statement_unfolds nodes reads.falling n
      ∙ ap (λ (node : Node). statement_of node (expression_in nodes) (statement_in nodes)) reads.named

  parts_under : under n (children (node_of r))
  parts_under = rw (← reads.named) (reads.falling.below n)

  pub constant_is : r.kind ≡ 1 → expression_in nodes n ≡ Expression.constant (data_type_of r.arg) (r.first + 65536 * r.second)
  unfolding kind_of node_of_kind expression_of
  constant_is e = expression_read ∙ rw e

  pub field_is : r.kind ≡ 3 → expression_in nodes n ≡ Expression.field r.arg
  unfolding kind_of node_of_kind expression_of
  field_is e = expression_read ∙ rw e

  pub entry_is : r.kind ≡ 4 → expression_in nodes n ≡ Expression.entry r.arg (expression_in nodes r.first)
  unfolding kind_of node_of_kind expression_of
  entry_is e = expression_read ∙ rw e

  pub parameter_is : r.kind ≡ 5 → expression_in nodes n ≡ Expression.parameter r.arg
  unfolding kind_of node_of_kind expression_of
  parameter_is e = expression_read ∙ rw e

  pub operator_is : r.kind ≡ 6
      → expression_in nodes n ≡ Expression.operator (operator_of r.arg) (expression_in nodes r.first) (expression_in nodes r.second)
  unfolding kind_of node_of_kind expression_of
  operator_is e = expression_read ∙ rw e

  pub negation_is : r.kind ≡ 7 → expression_in nodes n ≡ Expression.negation (expression_in nodes r.first)
  unfolding kind_of node_of_kind expression_of
  negation_is e = expression_read ∙ rw e

  pub reveal_is : r.kind ≡ 8 → expression_in nodes n ≡ Expression.reveal (expression_in nodes r.first) (owner_of_code r.arg)
  unfolding kind_of node_of_kind expression_of
  reveal_is e = expression_read ∙ rw e

  pub other_is : Unlisted r.kind → expression_in nodes n ≡ Expression.me
  other_is u = expression_read ∙ other_expression r (expression_in nodes) (statement_in nodes) u

  pub sequence_is : r.kind ≡ 17 → statement_in nodes n ≡ Statement.sequence (statement_in nodes r.first) (statement_in nodes r.second)
  unfolding kind_of node_of_kind statement_of
  sequence_is e = statement_read ∙ rw e

  pub assign_field_is : r.kind ≡ 18 → statement_in nodes n ≡ Statement.assign_field r.arg (expression_in nodes r.first)
  unfolding kind_of node_of_kind statement_of
  assign_field_is e = statement_read ∙ rw e

  pub assign_entry_is : r.kind ≡ 19
      → statement_in nodes n ≡ Statement.assign_entry r.arg (expression_in nodes r.first) (expression_in nodes r.second)
  unfolding kind_of node_of_kind statement_of
  assign_entry_is e = statement_read ∙ rw e

  pub require_is : r.kind ≡ 20 → statement_in nodes n ≡ Statement.require (expression_in nodes r.first)
  unfolding kind_of node_of_kind statement_of
  require_is e = statement_read ∙ rw e

  pub conditional_is : r.kind ≡ 21
      → statement_in nodes n ≡ Statement.conditional (expression_in nodes r.first) (statement_in nodes r.second) (statement_in nodes r.third)
  unfolding kind_of node_of_kind statement_of
  conditional_is e = statement_read ∙ rw e

  pub still_is : Still r.kind → statement_in nodes n ≡ Statement.skip
  still_is s = statement_read ∙ other_statement r (expression_in nodes) (statement_in nodes) s

  pub key_below : r.kind ≡ 4 → r.first < n
  unfolding kind_of node_of_kind expression_parts statement_parts
  key_below e = first_under n r.first [] (rw e at parts_under)

  pub operands_below : r.kind ≡ 6 → (r.first < n) × (r.second < n)
  unfolding kind_of node_of_kind expression_parts statement_parts
  operands_below e = two_under n r.first r.second (rw e at parts_under)

  pub part_below : r.kind ≡ 7 → r.first < n
  unfolding kind_of node_of_kind expression_parts statement_parts
  part_below e = first_under n r.first [] (rw e at parts_under)

  pub revealed_below : r.kind ≡ 8 → r.first < n
  unfolding kind_of node_of_kind expression_parts statement_parts
  revealed_below e = first_under n r.first [] (rw e at parts_under)

  pub steps_below : r.kind ≡ 17 → (r.first < n) × (r.second < n)
  unfolding kind_of node_of_kind expression_parts statement_parts
  steps_below e = two_under n r.first r.second (rw e at parts_under)

  pub value_below : r.kind ≡ 18 → r.first < n
  unfolding kind_of node_of_kind expression_parts statement_parts
  value_below e = first_under n r.first [] (rw e at parts_under)

  pub key_and_value_below : r.kind ≡ 19 → (r.first < n) × (r.second < n)
  unfolding kind_of node_of_kind expression_parts statement_parts
  key_and_value_below e = two_under n r.first r.second (rw e at parts_under)

  pub required_below : r.kind ≡ 20 → r.first < n
  unfolding kind_of node_of_kind expression_parts statement_parts
  required_below e = first_under n r.first [] (rw e at parts_under)

  pub branches_below : r.kind ≡ 21 → (r.first < n) × ((r.second < n) × (r.third < n))
  unfolding kind_of node_of_kind expression_parts statement_parts
  branches_below e = three_under n r.first r.second r.third (rw e at parts_under)
