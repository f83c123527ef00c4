-- What marking leaves of the nodes under a node, by its kind: what marking its parts left, one after the other, and then its own owner.
use Rattle.std.specs.Prelude.{◌≡◌, ◌∷◌, ◌++◌}
use Rattle.kit.specs.Names.{refl, ap, sym, ◌∙◌, Bool, true, false, cond, List, [], map, ℕ, eqb, set, eqb-true}
use Rattle.definitions.specs.Basics.{flat_map}
use Rattle.definitions.specs.ContractFile.{NodeRecord, Node, Kind, constant_kind, me_kind, field_kind, entry_kind, parameter_kind, operator_kind}
use Rattle.definitions.specs.ContractFile.{negation_kind, reveal_kind, skip_kind, sequence_kind, assign_field_kind, assign_entry_kind, require_kind, conditional_kind, no_kind, kind_of, node_of, node_of_kind, node_at, expression_parts, statement_parts}
use Rattle.theory_trees.specs.Trees.{Falling}
use Rattle.theory_trees.proofs.ByKind.{Unlisted}
use Rattle.rules_marks.specs.Marks.{parts_of_expression, expressions_of_statement, Place, expression, statement, parts_at, own_at}
use Rattle.rules_marks.specs.Marks.{numbers_under, expressions_under, statements_under, marked}
use Rattle.rules_marks.proofs.Marking.{marked_append, numbers_unfold}

-- What holds of each kind holds of the kind of a number.
module _ (P : Kind → Type 0) (n : ℕ) where
  either : (k : ℕ) (x y : Kind) → (n ≡ k → P x) → P y → P (cond (eqb n k) x y)
  either k x y h l = go (eqb n k) refl
    where
      go : (b : Bool) → eqb n k ≡ b → P (cond b x y)
      go true e = h (eqb-true n k e)
      go false e = l

  by_kind : (n ≡ 1 → P constant_kind) → (n ≡ 2 → P me_kind) → (n ≡ 3 → P field_kind) → (n ≡ 4 → P entry_kind) → (n ≡ 5 → P parameter_kind) → (n ≡ 6 → P operator_kind)
      → (n ≡ 7 → P negation_kind) → (n ≡ 8 → P reveal_kind) → (n ≡ 16 → P skip_kind) → (n ≡ 17 → P sequence_kind) → (n ≡ 18 → P assign_field_kind)
      → (n ≡ 19 → P assign_entry_kind) → (n ≡ 20 → P require_kind) → (n ≡ 21 → P conditional_kind) → P no_kind → P (kind_of n)
  unfolding kind_of
  by_kind h1 h2 h3 h4 h5 h6 h7 h8 h16 h17 h18 h19 h20 h21 none =
      either 1 _ _ h1 (either 2 _ _ h2 (either 3 _ _ h3 (either 4 _ _ h4 (either 5 _ _ h5 (either 6 _ _ h6 (either 7 _ _ h7
      (either 8 _ _ h8 (either 16 _ _ h16 (either 17 _ _ h17 (either 18 _ _ h18 (either 19 _ _ h19 (either 20 _ _ h20 (either 21 _ _ h21 none)))))))))))))

-- A kind that has no parts as an expression.
pub no_parts : (r : NodeRecord) → Unlisted r.kind → parts_of_expression (node_of r) ≡ []
unfolding node_of_kind expression_parts
no_parts r u =
    by_kind (λ kind. parts_of_expression (node_of_kind kind r) ≡ []) r.kind (λ e. refl) (λ e. refl) (λ e. refl) (λ e. absurd (u.entry e)) (λ e. refl)
    (λ e. absurd (u.operator e)) (λ e. absurd (u.negation e)) (λ e. absurd (u.reveal e)) (λ e. refl) (λ e. refl) (λ e. refl) (λ e. refl) (λ e. refl) (λ e. refl) refl

module _ (nodes : List Node) (falling : Falling nodes) (owner : ℕ → ℕ) where
  -- What marking the nodes at several places leaves, one place after the other.
  unfoldable pub marked_all : List Place → List ℕ → List ℕ
  marked_all [] column = column
  marked_all (place ∷ places) column = marked_all places (marked owner (numbers_under nodes place) column)

  in_order_law : (places : List Place) (column : List ℕ) → marked owner (flat_map (numbers_under nodes) places) column ≡ marked_all places column
  unfolding flat_map marked marked_all
  in_order_law [] column = refl
  in_order_law (place ∷ places) column =
      marked_append owner (numbers_under nodes place) (flat_map (numbers_under nodes) places) column ∙ in_order_law places (marked owner (numbers_under nodes place) column)

  node_marked : (place : Place) (places : List Place) (column : List ℕ) → parts_at nodes place ≡ places
      → marked owner (numbers_under nodes place) column ≡ marked owner (own_at place) (marked_all places column)
  node_marked place places column e =
      ap (λ (l : List ℕ). marked owner l column) (numbers_unfold nodes falling place ∙ ap (λ (l : List Place). flat_map (numbers_under nodes) l ++ own_at place) e)
      ∙ (marked_append owner (flat_map (numbers_under nodes) places) (own_at place) column ∙ ap (marked owner (own_at place)) (in_order_law places column))

  module _ (n : ℕ) (r : NodeRecord) (at : node_at nodes n ≡ node_of r) where
    -- An expression's own owner comes last.
    pub expression_marked : (parts before after : List ℕ) → parts_of_expression (node_of r) ≡ parts → after ≡ set (marked_all (map expression parts) before) n (owner n)
        → after ≡ marked owner (expressions_under nodes n) before
    unfolding parts_at marked
    expression_marked parts before after are h =
        h ∙ sym (node_marked (expression n) (map expression parts) before (ap (λ (x : Node). map expression (parts_of_expression x)) at ∙ ap (map expression) are))

    -- A statement's expressions come before its statements.
    statement_marked : (parts statements before : List ℕ) → expressions_of_statement (node_of r) ≡ parts → statement_parts (node_of r) ≡ statements
        → marked_all (map expression parts ++ map statement statements) before ≡ marked owner (statements_under nodes n) before
    unfolding parts_at marked
    statement_marked parts statements before these those =
        sym (node_marked (statement n) (map expression parts ++ map statement statements) before
        ((λ i. map expression (expressions_of_statement (at i)) ++ map statement (statement_parts (at i))) ∙ λ i. map expression (these i) ++ map statement (those i)))

    pub none_marked : (before after : List ℕ) → (r.kind ≡ 17 → ⊥) → (r.kind ≡ 18 → ⊥) → (r.kind ≡ 19 → ⊥) → (r.kind ≡ 20 → ⊥) → (r.kind ≡ 21 → ⊥)
        → after ≡ before → after ≡ marked owner (statements_under nodes n) before
    unfolding marked_all node_of_kind expression_parts statement_parts
    none_marked before after h17 h18 h19 h20 h21 h =
        let none = by_kind (λ kind. (expressions_of_statement (node_of_kind kind r) ≡ []) × (statement_parts (node_of_kind kind r) ≡ [])) r.kind
        (λ e. (refl, refl)) (λ e. (refl, refl)) (λ e. (refl, refl)) (λ e. (refl, refl)) (λ e. (refl, refl)) (λ e. (refl, refl)) (λ e. (refl, refl))
        (λ e. (refl, refl)) (λ e. (refl, refl)) (λ e. absurd (h17 e)) (λ e. absurd (h18 e)) (λ e. absurd (h19 e)) (λ e. absurd (h20 e)) (λ e. absurd (h21 e))
        (refl, refl) in
        h ∙ statement_marked [] [] before none.0 none.1

    pub sequence_marked : (before mid after : List ℕ) → r.kind ≡ 17 → mid ≡ marked owner (statements_under nodes r.first) before
        → after ≡ marked owner (statements_under nodes r.second) mid → after ≡ marked owner (statements_under nodes n) before
    unfolding kind_of node_of_kind expression_parts statement_parts marked_all
    sequence_marked before mid after e one two =
        two ∙ (ap (marked owner (statements_under nodes r.second)) one ∙ statement_marked [] (r.first ∷ r.second ∷ []) before (rw e) (rw e))

    module _ (before after : List ℕ) (part : after ≡ marked owner (expressions_under nodes r.first) before) where
      pub put_marked : r.kind ≡ 18 → after ≡ marked owner (statements_under nodes n) before
      unfolding kind_of node_of_kind expression_parts statement_parts marked_all
      put_marked e = part ∙ statement_marked (r.first ∷ []) [] before (rw e) (rw e)

      pub required_marked : r.kind ≡ 20 → after ≡ marked owner (statements_under nodes n) before
      unfolding kind_of node_of_kind expression_parts statement_parts marked_all
      required_marked e = part ∙ statement_marked (r.first ∷ []) [] before (rw e) (rw e)

    pub entry_put_marked : (before mid after : List ℕ) → r.kind ≡ 19 → mid ≡ marked owner (expressions_under nodes r.first) before
        → after ≡ marked owner (expressions_under nodes r.second) mid → after ≡ marked owner (statements_under nodes n) before
    unfolding kind_of node_of_kind expression_parts statement_parts marked_all
    entry_put_marked before mid after e key value =
        value ∙ (ap (marked owner (expressions_under nodes r.second)) key ∙ statement_marked (r.first ∷ r.second ∷ []) [] before (rw e) (rw e))

    pub conditional_marked : (before mid later after : List ℕ) → r.kind ≡ 21 → mid ≡ marked owner (expressions_under nodes r.first) before
        → later ≡ marked owner (statements_under nodes r.second) mid → after ≡ marked owner (statements_under nodes r.third) later
        → after ≡ marked owner (statements_under nodes n) before
    unfolding kind_of node_of_kind expression_parts statement_parts marked_all
    conditional_marked before mid later after e condition then else =
        rw (else, then, condition) (statement_marked (r.first ∷ []) (r.second ∷ r.third ∷ []) before (rw e) (rw e))
