-- What judging a node of each kind answers, and leaves in the column of owners, from what judging its parts did.
use Rattle.std.specs.Prelude.{◌≡◌, ◌∷◌, ◌+◌, ◌*◌, ◌/◌, ◌<◌, ◌≤◌}
use Rattle.kit.specs.Names.{refl, ap, sym, ◌∙◌, Bool, List, [], map, ℕ, arith, length, set, length-map}
use Rattle.definitions.specs.ContractFile.{Node, Expression, Scope, NodeRecord, owner_of_code, constant_value, parameter_of, kind_of, node_of, node_of_kind, expression_parts}
use Rattle.definitions.specs.Numbers.{owner_fits}
use Rattle.theory_trees.specs.Trees.{expression_in, Reads}
use Rattle.file_decoded.specs.Slices.{node_from, parameters_from}
use Rattle.file_decoded.proofs.Records.{parameters_length}
use Rattle.rules_owners.specs.Numbering.{owner_with, number_of_owner}
use Rattle.rules_owners.proofs.Numbering.{number_back, target_owner}
use Rattle.rules_links.specs.Classes.{linked_by}
use Rattle.rules_scopes.specs.Trees.{nodes_in}
use Rattle.rules_scopes.specs.Scopes.{field_on, parameter_on, scope_from, IsField, IsParameter, Ready}
use Rattle.rules_scopes.specs.declared.Declared.{Declared}
use Rattle.rules_scopes.specs.declared.Given.{Given}
use Rattle.theory_trees.proofs.ByKind as trees
use Rattle.rules_scopes.proofs.Nodes.{node_reads}
use Rattle.rules_scopes.proofs.Named.{field_there, constant_listed, target_listed, target_there}
use Rattle.rules_codes.specs.Codes.{place_number, HasClass}
use Rattle.rules_codes.proofs.Codes.{place_listed}
use Rattle.rules_judgements.specs.Judging.{JudgedAs, constant_judged, me_judged, field_judged, entry_judged, parameter_judged}
use Rattle.rules_judgements.specs.declared.Judged.{Judged}
use Rattle.rules_judgements.proofs.Judging.{constant_is, me_is, field_is, entry_is, parameter_is}
use Rattle.rules_operators.specs.Operating.{operator_judged, negation_judged, reveal_judged}
use Rattle.rules_operators.proofs.Operating.{operator_is, negation_is, reveal_is}
use Rattle.rules_marks.specs.Marks.{parts_of_expression, expression, expressions_under, marked, owner_at}
use Rattle.rules_marks.proofs.Marking.{marked_length}
use Rattle.rules_marks.proofs.Parts.{no_parts, marked_all, expression_marked}
use Rattle.rules_expressions.specs.Marking.{MarkedAs}

pub marked_long : {scope : Scope} {nodes : List Node} {classes : List ℕ} {n : ℕ} {before after : List ℕ} {r : Judged}
    → MarkedAs scope nodes classes n before after r → length after ≡ length before
marked_long m = ap length m.column ∙ marked_length _ _ _

module _ (fields parameters nodes classes : List ℕ) (ready : Ready fields parameters nodes (length classes)) where
  pub enough : 10 ≤ length classes
  enough = let e = ready.numbered in omega arith

  room : 10 + length fields / 3 ≤ length classes
  room = let e = ready.numbered in omega arith

  -- A place's owner, and that of a judged expression, has a class.
  pub place_class : (f : ℕ) (d : Declared) (name : ℕ) → IsField (length fields / 3) (field_on fields f) d → name < length classes → HasClass classes (place_number d name)
  place_class f d name i h = record { enough = enough; there = place_listed (length fields / 3) (field_on fields f) d name i (length classes) room h }

  pub owner_class : {n : ℕ} {before after : List ℕ} {r : Judged} → MarkedAs (scope_from fields parameters) (nodes_in nodes) classes n before after r → HasClass classes r.owner
  owner_class m = record { enough = enough; there = m.judged.owner_listed }

  module _ (n : ℕ) (inside : n < length nodes / 5) (r : NodeRecord) (same : r ≡ node_from nodes (5 * n)) where
    reads : Reads (nodes_in nodes) n r
    reads = node_reads fields nodes ready.bodies n inside r same

    abbrev scope : Scope
    scope = scope_from fields parameters

    abbrev IsJudged : Expression → Judged → Type 0
    IsJudged e q = JudgedAs scope (linked_by classes) (length classes) e q

    -- What `mark` answers of a judgement q.
    abbrev IsMarked : List ℕ → List ℕ → Judged → Judged → Type 0
    IsMarked before after q p = (p ≡ q) × (after ≡ set before n q.owner)

    -- A judgement of the node that is marked behind what marking its parts left.
    node_judged : (parts before mid after : List ℕ) (e : Expression) (q p is : Judged) → expression_in (nodes_in nodes) n ≡ e → parts_of_expression (node_of r) ≡ parts
        → q ≡ is → IsJudged e is → mid ≡ marked_all (nodes_in nodes) reads.falling (owner_at scope (nodes_in nodes)) (map expression parts) before
        → IsMarked mid after q p → MarkedAs (scope_from fields parameters) (nodes_in nodes) classes n before after p
    node_judged parts before mid after e q p is tree are j h marks m =
        let judged : IsJudged (expression_in (nodes_in nodes) n) q = rw (tree, j) h in
        let owned : q.owner ≡ owner_at scope (nodes_in nodes) n = sym (ap number_of_owner judged.owner ∙ number_back q.owner) in
        record {
          judged = rw m.0 judged;
          column = expression_marked (nodes_in nodes) reads.falling (owner_at scope (nodes_in nodes)) n r reads.named parts before after are
              (m.1 ∙ λ i. set (marks i) n (owned i));
        }

    pub constant_judged_law : (before after : List ℕ) (q p : Judged) → r.kind ≡ 1 → q ≡ constant_judged r.arg → IsMarked before after q p
        → MarkedAs (scope_from fields parameters) (nodes_in nodes) classes n before after p
    unfolding kind_of node_of_kind expression_parts marked_all
    constant_judged_law before after q p e j m =
        node_judged [] before before after _ q p _ (trees.constant_is reads e) (rw e) j
        (constant_is scope (linked_by classes) (length classes) enough r.arg (constant_value r) (constant_listed fields nodes ready.bodies n inside r same e)) refl m

    pub field_judged_law : (before after : List ℕ) (d : Declared) (q p : Judged) → r.kind ≡ 3 → IsField (length fields / 3) (field_on fields r.arg) d
        → q ≡ field_judged (linked_by classes) r.arg d → IsMarked before after q p → MarkedAs (scope_from fields parameters) (nodes_in nodes) classes n before after p
    unfolding kind_of node_of_kind expression_parts marked_all
    field_judged_law before after d q p e i j m =
        let there = field_there fields nodes ready.bodies n inside r same e in
        let long = ready.numbered in
        node_judged [] before before after _ q p _ (trees.field_is reads e) (rw e) j
        (field_is scope (linked_by classes) (length classes) enough (length fields / 3) r.arg d room (omega arith) i) refl m

    pub parameter_judged_law : (before after : List ℕ) (g : Given) (q p : Judged) → r.kind ≡ 5 → IsParameter r.arg (parameter_on parameters r.arg) g
        → q ≡ parameter_judged (linked_by classes) r.arg (length parameters / 2) g → IsMarked before after q p
        → MarkedAs (scope_from fields parameters) (nodes_in nodes) classes n before after p
    unfolding kind_of node_of_kind expression_parts marked_all
    parameter_judged_law before after g q p e i j m =
        let records = parameters_from (length parameters / 2) parameters 0 in
        node_judged [] before before after _ q p _ (trees.parameter_is reads e) (rw e) j
        (parameter_is scope (linked_by classes) (length classes) enough r.arg (length parameters / 2) g
        (length-map records parameter_of ∙ parameters_length (length parameters / 2) parameters 0) i) refl m

    pub me_judged_law : (before after : List ℕ) (q p : Judged) → trees.Unlisted r.kind → q ≡ me_judged → IsMarked before after q p
        → MarkedAs (scope_from fields parameters) (nodes_in nodes) classes n before after p
    unfolding marked_all
    me_judged_law before after q p none j m =
        node_judged [] before before after _ q p _ (trees.other_is reads none) (no_parts r none) j (me_is scope (linked_by classes) (length classes) enough) refl m

    module _ (before mid after : List ℕ) (part q p : Judged) (h : MarkedAs (scope_from fields parameters) (nodes_in nodes) classes r.first before mid part) (m : IsMarked mid after q p) where
      pub entry_judged_law : (d : Declared) → r.kind ≡ 4 → IsField (length fields / 3) (field_on fields r.arg) d → q ≡ entry_judged (linked_by classes) d part
          → MarkedAs (scope_from fields parameters) (nodes_in nodes) classes n before after p
      unfolding kind_of node_of_kind expression_parts marked_all
      entry_judged_law d e i j =
          node_judged (r.first ∷ []) before mid after _ q p _ (trees.entry_is reads e) (rw e) j
          (entry_is scope (linked_by classes) (length classes) enough (length fields / 3) r.arg d _ part room i h.judged) h.column m

      pub negation_judged_law : r.kind ≡ 7 → q ≡ negation_judged (linked_by classes) part → MarkedAs (scope_from fields parameters) (nodes_in nodes) classes n before after p
      unfolding kind_of node_of_kind expression_parts marked_all
      negation_judged_law e j =
          node_judged (r.first ∷ []) before mid after _ q p _ (trees.negation_is reads e) (rw e) j
          (negation_is scope (linked_by classes) (length classes) enough _ part h.judged) h.column m

      pub reveal_judged_law : (target : ℕ) (fits : Bool) → r.kind ≡ 8 → target ≡ number_of_owner (owner_of_code r.arg)
          → owner_fits scope (owner_with target) ≡ fits → q ≡ reveal_judged (linked_by classes) target fits part → MarkedAs (scope_from fields parameters) (nodes_in nodes) classes n before after p
      unfolding kind_of node_of_kind expression_parts marked_all
      reveal_judged_law target fits e t o j =
          let below = target_there fields nodes ready.bodies n inside r same e in
          let long = ready.numbered in
          let owned : owner_of_code r.arg ≡ owner_with target =
          sym (target_owner r.arg (target_listed fields nodes ready.bodies n inside r same e)) ∙ ap owner_with (sym t) in
          node_judged (r.first ∷ []) before mid after _ q p _ (trees.reveal_is reads e ∙ ap (Expression.reveal (expression_in (nodes_in nodes) r.first)) owned) (rw e) j
          (reveal_is scope (linked_by classes) (length classes) enough target fits _ part (omega arith) o h.judged) h.column m

    pub operator_judged_law : (before mid later after : List ℕ) (left right q p : Judged) → r.kind ≡ 6
        → MarkedAs (scope_from fields parameters) (nodes_in nodes) classes r.first before mid left → MarkedAs (scope_from fields parameters) (nodes_in nodes) classes r.second mid later right
        → q ≡ operator_judged (linked_by classes) r.arg left right → IsMarked later after q p → MarkedAs (scope_from fields parameters) (nodes_in nodes) classes n before after p
    unfolding kind_of node_of_kind expression_parts marked_all
    operator_judged_law before mid later after left right q p e h k j m =
        node_judged (r.first ∷ r.second ∷ []) before later after _ q p _ (trees.operator_is reads e) (rw e) j
        (operator_is scope (linked_by classes) (length classes) enough r.arg _ _ left right h.judged k.judged)
        (k.column ∙ ap (marked (owner_at scope (nodes_in nodes)) (expressions_under (nodes_in nodes) r.second)) h.column) m
