-- A node is under the root of one function only: from a node go up to what uses it, which number 5 leaves no choice of.
use Rattle.std.specs.Prelude.{◌≡◌, ◌∷◌, ◌++◌, ◌+◌, ◌<◌}
use Rattle.kit.specs.Names.{refl, ap, false, not, List, [], map, Member, member_head, member_not_nil}
use Rattle.kit.specs.Names.{member_append_cases, member_eq_of_singleton, ⊎_elim, ℕ, zero}
use Rattle.kit.specs.Names.{suc, arith, eqb, leb, length, get_or, length-map, leb-false, eqb-true, not-false}
use Rattle.definitions.specs.Basics.{any, count_if, flat_map}
use Rattle.definitions.specs.ContractFile.{FunctionRecord, NodeRecord, Sections, node, Node, unknown_node, field_of, node_of, node_at, children, expression_parts, statement_parts}
use Rattle.definitions.specs.Numbers.{names_nothing, uses_of, used_other_than_once, field_of_declared_owner}
use Rattle.theory_laws.proofs.Lists.{count_append, none_numbered}
use Rattle.theory_trees.proofs.Falls.{nodes_fall}
use Rattle.rules_marks.specs.Marks.{Place, expression, statement, number_of, parts_at, own_at, numbers_at}
use Rattle.rules_marks.proofs.Marking.{part_child, child_below}
use Rattle.rules_contract.proofs.Passing.{any_numbered_law, none_of_three}
use Rattle.rules_column.specs.Columns.{NoneTwice, Under, top, child}
use Rattle.rules_column.proofs.Members.{under_one, used, one_user}

-- What is gathered from a place under a root is under that root.
module _ (nodes : List Node) (root : ℕ) where
  own_under : (m : ℕ) (p : Place) → Under nodes root (number_of p) → Member m (own_at p) → Under nodes root m
  own_under m (expression n) u d = rw (member_eq_of_singleton d) u
  own_under m (statement n) u d = absurd (member_not_nil d)

  pub numbers_under_law : (levels : ℕ) (p : Place) (m : ℕ) → Under nodes root (number_of p) → Member m (numbers_at levels nodes p) → Under nodes root m
  unfolding numbers_at
  numbers_under_law zero p m u d = absurd (member_not_nil d)
  numbers_under_law (suc levels) p m u d =
      ⊎_elim (λ h. let t = under_one (numbers_at levels nodes) m (parts_at nodes p) h in
      numbers_under_law levels t.0 m (child u (part_child nodes p t.0 t.1)) t.2)
      (own_under m p u) (member_append_cases (flat_map (numbers_at levels nodes) (parts_at nodes p)) d)

-- The uses, as the roots of the functions and the children of the nodes.
roots_each : (rs : List FunctionRecord) → map (λ r. r.root) rs ≡ flat_map (λ r. r.root ∷ []) rs
unfolding flat_map
roots_each [] = refl
roots_each (r ∷ rs) = ap (λ (l : List ℕ). r.root ∷ l) (roots_each rs)

children_each : (rs : List NodeRecord) → flat_map (λ r. children (node_of r)) rs ≡ flat_map children (map node_of rs)
unfolding flat_map
children_each [] = refl
children_each (r ∷ rs) = ap (λ (l : List ℕ). children (node_of r) ++ l) (children_each rs)

-- A number past the end has no children.
parent_inside : (nodes : List Node) (n m : ℕ) → Member m (children (node_at nodes n)) → n < length nodes
unfolding expression_parts statement_parts
parent_inside [] n m d = absurd (member_not_nil d)
parent_inside (x ∷ xs) zero m d = omega arith
parent_inside (x ∷ xs) (suc n) m d = let h = parent_inside xs n m d in omega arith

-- What numbers 4 and 5 tell: a root is a node, and no node is used twice.
module _ (s : Sections) where
  pub none_twice : used_other_than_once s ≡ false → NoneTwice s
  unfolding used_other_than_once
  none_twice h =
      record {
        uses = λ m l.
            let z : 0 + m ≡ m = omega arith in
            let other = none_numbered (λ (n : ℕ) (r : NodeRecord). not (eqb (count_if (eqb n) (uses_of s)) 1)) 0 s.nodes h m (node 0 0 0 0 0) l in
            omega (arith, eqb-true (count_if (eqb m) (uses_of s)) 1 (not-false _ (rw z at other)));
      }

  pub root_inside : names_nothing s ≡ false → (f : ℕ) (other : FunctionRecord) → f < length s.functions → (get_or s.functions f other).root < length s.nodes
  unfolding names_nothing
  root_inside h f other l =
      let owners = any (λ r. any (leb (length s.fields)) (field_of_declared_owner (field_of r).owner)) s.fields in
      leb-false _ _ (none_numbered (λ n r. leb (length s.nodes) r.root) 0 s.functions (any_numbered_law _ 0 _ (none_of_three owners _ _ h).1) f other l)

  -- The nodes, and a function's one root as a list of numbers that it uses.
  abbrev nodes_of : List Node
  nodes_of = map node_of s.nodes

  abbrev root_of : FunctionRecord → List ℕ
  root_of r = r.root ∷ []

  -- The uses of a number, as a root and as a child.
  uses_split : (m : ℕ) → count_if (eqb m) (uses_of s) ≡ count_if (eqb m) (flat_map root_of s.functions) + count_if (eqb m) (flat_map children nodes_of)
  unfolding uses_of
  uses_split m =
      rw (← roots_each s.functions, ← children_each s.nodes)
      (count_append (eqb m) (map (λ r. r.root) s.functions) (flat_map (λ r. children (node_of r)) s.nodes))

  module _ (named : names_nothing s ≡ false) (other : FunctionRecord) where
    abbrev UnderRoot : ℕ → ℕ → Type 0
    UnderRoot f m = Under nodes_of (get_or s.functions f other).root m

    -- A node that has a child is a node, and so is the child.
    parent_node : (n m : ℕ) → Member m (children (node_at nodes_of n)) → (n < length nodes_of) × (m < length s.nodes)
    parent_node n m d =
        let inside = parent_inside nodes_of n m d in
        (inside, omega (arith, inside, child_below nodes_of (nodes_fall s named) n m d, length-map s.nodes node_of))

    pub under_inside : (f m : ℕ) → f < length s.functions → UnderRoot f m → m < length s.nodes
    under_inside f m l (top e) = let h = root_inside named f other l in omega arith
    under_inside f m l (child {n = n} u d) = (parent_node n m d).1

    module _ (none : NoneTwice s) where
      -- A root is no child.
      no_child : (f n m : ℕ) → f < length s.functions → m ≡ (get_or s.functions f other).root → Member m (children (node_at nodes_of n)) → ⊥
      no_child f n m inside e d =
          let here = parent_node n m d in
          omega (arith, uses_split m, none.uses m here.1, used root_of m s.functions f other inside (member_head e), used children m nodes_of n unknown_node here.0 d)

      -- Two functions have two roots, and a child has one parent, which is then under both functions' roots.
      module _ (f g : ℕ) (inside : f < length s.functions) (within : g < length s.functions) where
        pub one_function : (m : ℕ) → UnderRoot f m → UnderRoot g m → f ≡ g
        one_function m (top e) (top d) =
            let most = none.uses m (omega (arith, e, root_inside named f other inside)) in
            one_user root_of m s.functions f g other (omega (arith, uses_split m, most)) inside within (member_head e) (member_head d)
        one_function m (top e) (child {n = n} v d) = absurd (no_child f n m inside e d)
        one_function m (child {n = n} u e) (top d) = absurd (no_child g n m within d e)
        one_function m (child {n = n} u e) (child {n = k} v d) =
            let here = parent_node n m e in
            let there = parent_node k m d in
            let same : n ≡ k = one_user children m nodes_of n k unknown_node (omega (arith, uses_split m, none.uses m here.1)) here.0 there.0 e d in
            one_function n u (rw same v)
