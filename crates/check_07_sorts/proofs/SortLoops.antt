-- The sort of a node that is looked up, a node's children by its kind, and the loop over the nodes.
use Rattle.std.specs.Prelude.{◌≡◌, ◌||◌, ◌+◌, ◌*◌, ◌-◌, ◌/◌, ◌<◌, ◌≤◌}
use Rattle.kit.specs.Names.{refl, ap, sym, ◌∙◌, Bool, true, false, not, List, ℕ, arith, ltb}
use Rattle.kit.specs.Names.{length, take}
use Rattle.definitions.specs.Basics.{any, any_numbered}
use Rattle.definitions.specs.ContractFile.{NodeRecord, Kind, constant_kind, me_kind, field_kind, entry_kind, parameter_kind, operator_kind, negation_kind}
use Rattle.definitions.specs.ContractFile.{reveal_kind, skip_kind, sequence_kind, assign_field_kind, assign_entry_kind, require_kind, conditional_kind, no_kind, kind_of}
use Rattle.definitions.specs.ContractFile.{Node, node_of, node_of_kind, node_at, is_expression, is_statement, expression_parts, statement_parts, children}
use Rattle.definitions.specs.Numbers.{wrong_sort}
use Rattle.file_decoded.specs.Slices.{number_at, functions_from, node_from, nodes_from, sections_from}
use Rattle.file_decoded.proofs.Records.{nodes_step, nodes_end, node_within, node_past}
use Rattle.file_children.specs.Children.{children_of_kind, expressions_of_kind, child_count, expression_count, parts, is_expression_kind, is_statement_kind}
use Rattle.file_children.proofs.Truth.{or-false}
use Rattle.file_children.proofs.Children.{children_are, expression_is, statement_is}
use Rattle.file_children.proofs.Loops.{noted_next, noted_done, any_map}
use Rattle.check_07_sorts.specs.Sorts.{nodes_in, has_sort, root_wrong, parts_wrong}

-- Nodes that are looked up.
pub no_sort : (numbers : List ℕ) (expression : Bool) (n : ℕ) → length numbers / 5 ≤ n → false ≡ has_sort (nodes_in numbers) expression n
no_sort numbers true n h = sym (ap is_expression (node_past (length numbers / 5) numbers 0 n h))
no_sort numbers false n h = sym (ap is_statement (node_past (length numbers / 5) numbers 0 n h))

module _ (numbers : List ℕ) (n kind : ℕ) (h : n < length numbers / 5) (is : kind ≡ number_at numbers (5 * n)) where
  there : node_at (nodes_in numbers) n ≡ node_of (node_from numbers (5 * n))
  there =
      let e : 0 + 5 * n ≡ 5 * n = omega arith in
      node_within (length numbers / 5) numbers 0 n h ∙ ap (λ (k : ℕ). node_of (node_from numbers k)) e

  pub expression_there : is_expression_kind kind ≡ is_expression (node_at (nodes_in numbers) n)
  expression_there = ap is_expression_kind is ∙ sym (expression_is (node_from numbers (5 * n))) ∙ sym (ap is_expression there)

  pub statement_there : is_statement_kind kind ≡ is_statement (node_at (nodes_in numbers) n)
  statement_there = ap is_statement_kind is ∙ sym (statement_is (node_from numbers (5 * n))) ∙ sym (ap is_statement there)

-- A node's children are of a wrong sort where some child is, told with its number: the first ones are due to be expressions.
abbrev pub child_wrong : List Node → ℕ → ℕ → ℕ → Bool
child_wrong nodes expressions i n = not (has_sort nodes (ltb i expressions) n)

wrong_of_kind : (nodes : List Node) (k : Kind) (r : NodeRecord)
    → any_numbered (child_wrong nodes (expressions_of_kind k)) 0 (take (children_of_kind k) (parts r)) ≡ parts_wrong nodes (node_of_kind k r)
unfolding node_of_kind expression_parts statement_parts any any_numbered
wrong_of_kind nodes constant_kind r = refl
wrong_of_kind nodes me_kind r = refl
wrong_of_kind nodes field_kind r = refl
wrong_of_kind nodes entry_kind r = sym (or-false _)
wrong_of_kind nodes parameter_kind r = refl
wrong_of_kind nodes operator_kind r = sym (or-false _)
wrong_of_kind nodes negation_kind r = sym (or-false _)
wrong_of_kind nodes reveal_kind r = sym (or-false _)
wrong_of_kind nodes skip_kind r = refl
wrong_of_kind nodes sequence_kind r = refl
wrong_of_kind nodes assign_field_kind r = sym (or-false _)
wrong_of_kind nodes assign_entry_kind r = sym (or-false _)
wrong_of_kind nodes require_kind r = sym (or-false _)
wrong_of_kind nodes conditional_kind r = rw (or-false (not (is_expression (node_at nodes r.first))))
wrong_of_kind nodes no_kind r = refl

pub children_wrong : (nodes : List Node) (r : NodeRecord) (expressions : ℕ) → expressions ≡ expression_count r.kind
    → any_numbered (child_wrong nodes expressions) 0 (children (node_of r)) ≡ parts_wrong nodes (node_of r)
unfolding child_count expression_count
children_wrong nodes r expressions e = rw (e, children_are r) (wrong_of_kind nodes (kind_of r.kind) r)

-- The loop: what is left to ask has the same answer.
abbrev pub node_wrong : List Node → NodeRecord → Bool
node_wrong nodes r = parts_wrong nodes (node_of r)

pub nodes_all : (numbers : List ℕ)
    → any (node_wrong (nodes_in numbers)) (nodes_from (length numbers / 5) numbers 0) ≡ any (parts_wrong (nodes_in numbers)) (nodes_in numbers)
nodes_all numbers = sym (any_map (parts_wrong (nodes_in numbers)) node_of (nodes_from (length numbers / 5) numbers 0))

-- A node of a wrong child is noted, and the loop goes on.
module _ (nodes : List Node) (left : ℕ) (numbers : List ℕ) (at : ℕ) (noted goal : Bool)
    (inv : noted || any (node_wrong nodes) (nodes_from left numbers at) ≡ goal) where
  pub node_noted : 0 < left → (wrong : Bool) → wrong ≡ parts_wrong nodes (node_of (node_from numbers at))
      → (noted || wrong) || any (node_wrong nodes) (nodes_from (left - 1) numbers (at + 5)) ≡ goal
  node_noted h wrong e = noted_next (node_wrong nodes) noted _ _ _ goal (nodes_step numbers at left h) inv _ (ap (λ (b : Bool). noted || b) e)

  pub nodes_noted : left ≤ 0 → noted ≡ goal
  nodes_noted h = noted_done (node_wrong nodes) noted _ goal (nodes_end numbers at left h) inv

-- Number 7 of the sections that slices hold.
pub sorts_wrong : (fields functions parameters nodes : List ℕ)
    → wrong_sort (sections_from fields functions parameters nodes)
    ≡ (any (root_wrong (nodes_in nodes)) (functions_from parameters (length functions / 3) functions 0) || any (parts_wrong (nodes_in nodes)) (nodes_in nodes))
unfolding wrong_sort
sorts_wrong fields functions parameters nodes = refl
