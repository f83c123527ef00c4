-- The tree of a node unfolds into its children's trees: more levels than a node's number change nothing.
use Rattle.std.specs.Prelude.{◌≡◌, ◌∷◌, ◌<◌}
use Rattle.kit.specs.Names.{refl, ap, ap₂, true, List, [], map, ℕ, zero, suc, arith, ltb, ltb→lt}
use Rattle.definitions.specs.Basics.{all}
use Rattle.definitions.specs.ContractFile.{Expression, Statement, NodeRecord, node, owner_of_code, operator_of, Kind, constant_kind, me_kind, field_kind, entry_kind, parameter_kind, operator_kind, negation_kind, reveal_kind, skip_kind, sequence_kind, assign_field_kind, assign_entry_kind, require_kind, conditional_kind, no_kind, kind_of, Node, node_of_kind, node_of, node_at, expression_parts, statement_parts, children, expression_of, expression_at, statement_of, statement_at}
use Rattle.theory_laws.proofs.TruthValues.{and_left, and_right}
use Rattle.theory_trees.specs.Trees.{expression_in, statement_in, IsRead, Falling}

below_is : (m n : ℕ) → ltb m n ≡ true → m < n
below_is m n e = ltb→lt m n (rw e tt)

-- Every node of a file's table is read from a record, the one for a number past the end from a record of no kind.
pub nodes_read_law : (rs : List NodeRecord) (n : ℕ) → IsRead (node_at (map node_of rs) n)
unfolding kind_of node_of_kind
nodes_read_law [] n = (node 0 0 0 0 0, refl)
nodes_read_law (r ∷ rs) zero = (r, refl)
nodes_read_law (r ∷ rs) (suc n) = nodes_read_law rs n

-- Two readings of the children agree below n, so the node's tree is the same by either.
module _ (n : ℕ) (f g : ℕ → Expression) (same : (m : ℕ) → m < n → f m ≡ g m) where
  expression_same : (k : Kind) (r : NodeRecord) → all (λ child. ltb child n) (children (node_of_kind k r)) ≡ true
      → expression_of (node_of_kind k r) f ≡ expression_of (node_of_kind k r) g
  unfolding node_of_kind expression_of expression_parts statement_parts all
  expression_same constant_kind r h = refl
  expression_same me_kind r h = refl
  expression_same field_kind r h = refl
  expression_same entry_kind r h = ap (Expression.entry r.arg) (same r.first (below_is r.first n (and_left _ _ h)))
  expression_same parameter_kind r h = refl
  expression_same operator_kind r h =
      ap₂ (Expression.operator (operator_of r.arg)) (same r.first (below_is r.first n (and_left _ _ h)))
      (same r.second (below_is r.second n (and_left _ _ (and_right (ltb r.first n) _ h))))
  expression_same negation_kind r h = ap Expression.negation (same r.first (below_is r.first n (and_left _ _ h)))
  expression_same reveal_kind r h =
      ap (λ (e : Expression). Expression.reveal e (owner_of_code r.arg)) (same r.first (below_is r.first n (and_left _ _ h)))
  expression_same skip_kind r h = refl
  expression_same sequence_kind r h = refl
  expression_same assign_field_kind r h = refl
  expression_same assign_entry_kind r h = refl
  expression_same require_kind r h = refl
  expression_same conditional_kind r h = refl
  expression_same no_kind r h = refl

  expression_same_of : (x : Node) → IsRead x → all (λ child. ltb child n) (children x) ≡ true → expression_of x f ≡ expression_of x g
  expression_same_of x (r, e) h = rw e (expression_same (kind_of r.kind) r (rw e at h))

  module _ (s t : ℕ → Statement) (alike : (m : ℕ) → m < n → s m ≡ t m) where
    statement_same : (k : Kind) (r : NodeRecord) → all (λ child. ltb child n) (children (node_of_kind k r)) ≡ true
        → statement_of (node_of_kind k r) f s ≡ statement_of (node_of_kind k r) g t
    unfolding node_of_kind statement_of expression_parts statement_parts all
    statement_same constant_kind r h = refl
    statement_same me_kind r h = refl
    statement_same field_kind r h = refl
    statement_same entry_kind r h = refl
    statement_same parameter_kind r h = refl
    statement_same operator_kind r h = refl
    statement_same negation_kind r h = refl
    statement_same reveal_kind r h = refl
    statement_same skip_kind r h = refl
    statement_same sequence_kind r h =
        ap₂ Statement.sequence (alike r.first (below_is r.first n (and_left _ _ h)))
        (alike r.second (below_is r.second n (and_left _ _ (and_right (ltb r.first n) _ h))))
    statement_same assign_field_kind r h = ap (Statement.assign_field r.arg) (same r.first (below_is r.first n (and_left _ _ h)))
    statement_same assign_entry_kind r h =
        ap₂ (Statement.assign_entry r.arg) (same r.first (below_is r.first n (and_left _ _ h)))
        (same r.second (below_is r.second n (and_left _ _ (and_right (ltb r.first n) _ h))))
    statement_same require_kind r h = ap Statement.require (same r.first (below_is r.first n (and_left _ _ h)))
    statement_same conditional_kind r h =
        let later = and_right (ltb r.first n) _ h in
        λ i. Statement.conditional (same r.first (below_is r.first n (and_left _ _ h)) i) (alike r.second (below_is r.second n (and_left _ _ later)) i)
        (alike r.third (below_is r.third n (and_left _ _ (and_right (ltb r.second n) _ later))) i)
    statement_same no_kind r h = refl

    statement_same_of : (x : Node) → IsRead x → all (λ child. ltb child n) (children x) ≡ true → statement_of x f s ≡ statement_of x g t
    statement_same_of x (r, e) h = rw e (statement_same (kind_of r.kind) r (rw e at h))

module _ (nodes : List Node) (falling : Falling nodes) where
  pub expression_levels : (k m n : ℕ) → n < k → n < m → expression_at k nodes n ≡ expression_at m nodes n
  unfolding expression_at
  expression_levels zero m n a b = absurd (omega arith)
  expression_levels (suc k) zero n a b = absurd (omega arith)
  expression_levels (suc k) (suc m) n a b =
      expression_same_of n (expression_at k nodes) (expression_at m nodes) (λ c h. expression_levels k m c (omega arith) (omega arith)) (node_at nodes n) (falling.read n) (falling.below n)

  pub statement_levels : (k m n : ℕ) → n < k → n < m → statement_at k nodes n ≡ statement_at m nodes n
  unfolding statement_at
  statement_levels zero m n a b = absurd (omega arith)
  statement_levels (suc k) zero n a b = absurd (omega arith)
  statement_levels (suc k) (suc m) n a b =
      statement_same_of n (expression_at k nodes) (expression_at m nodes) (λ c h. expression_levels k m c (omega arith) (omega arith))
      (statement_at k nodes) (statement_at m nodes) (λ c h. statement_levels k m c (omega arith) (omega arith)) (node_at nodes n) (falling.read n) (falling.below n)

  pub expression_unfolds : (n : ℕ) → expression_in nodes n ≡ expression_of (node_at nodes n) (expression_in nodes)
  unfolding expression_at
  expression_unfolds n =
      expression_same_of n (expression_at n nodes) (expression_in nodes) (λ c h. expression_levels n (suc c) c h (omega arith)) (node_at nodes n) (falling.read n) (falling.below n)

  pub statement_unfolds : (n : ℕ) → statement_in nodes n ≡ statement_of (node_at nodes n) (expression_in nodes) (statement_in nodes)
  unfolding statement_at
  statement_unfolds n =
      statement_same_of n (expression_at n nodes) (expression_in nodes) (λ c h. expression_levels n (suc c) c h (omega arith))
      (statement_at n nodes) (statement_in nodes) (λ c h. statement_levels n (suc c) c h (omega arith)) (node_at nodes n) (falling.read n) (falling.below n)
