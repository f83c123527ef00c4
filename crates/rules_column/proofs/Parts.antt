-- A column that holds the owners of all nodes at a place holds those of the nodes at its parts.
use Rattle.std.specs.Prelude.{◌≡◌, ◌++◌}
use mathlib.Core.List.Memᴰ
use Rattle.kit.specs.Names.{refl, List, map, Member, member_head, member_append_left, member_append_right, ℕ, get_or}
use Rattle.definitions.specs.Basics.{flat_map}
use Rattle.definitions.specs.ContractFile.{Node, node_at, statement_parts}
use Rattle.theory_trees.specs.Trees.{Falling}
use Rattle.rules_marks.specs.Marks.{parts_of_expression, expressions_of_statement, Place, expression, statement, parts_at, own_at, numbers_under, expressions_under, statements_under}
use Rattle.rules_marks.proofs.Marking.{numbers_unfold}
use Rattle.rules_column.specs.Columns.{Holds}
use Rattle.rules_column.proofs.Members.{under_all}

module _ (nodes : List Node) (falling : Falling nodes) (owner : ℕ → ℕ) (column : List ℕ) where
  unfolded : (p : Place) → Holds owner (numbers_under nodes p) column → Holds owner (flat_map (numbers_under nodes) (parts_at nodes p) ++ own_at p) column
  unfolded p h = rw (numbers_unfold nodes falling p) at h

  holds_at : (p q : Place) → Member q (parts_at nodes p) → Holds owner (numbers_under nodes p) column → Holds owner (numbers_under nodes q) column
  holds_at p q d h = record { at = λ m e. (unfolded p h).at m (member_append_left (own_at p) (under_all (numbers_under nodes) m q (parts_at nodes p) d e)) }

  module _ (n : ℕ) where
    pub holds_own : Holds owner (expressions_under nodes n) column → get_or column n 0 ≡ owner n
    holds_own h = (unfolded (expression n) h).at n (member_append_right (flat_map (numbers_under nodes) (parts_at nodes (expression n))) (member_head refl))

    pub holds_part : Holds owner (expressions_under nodes n) column → (m : ℕ) → Member m (parts_of_expression (node_at nodes n)) → Holds owner (expressions_under nodes m) column
    unfolding parts_at
    holds_part h m d = holds_at (expression n) (expression m) (Memᴰ.map expression d) h

    pub holds_expression : Holds owner (statements_under nodes n) column → (m : ℕ) → Member m (expressions_of_statement (node_at nodes n))
        → Holds owner (expressions_under nodes m) column
    unfolding parts_at
    holds_expression h m d = holds_at (statement n) (expression m) (member_append_left _ (Memᴰ.map expression d)) h

    pub holds_statement : Holds owner (statements_under nodes n) column → (m : ℕ) → Member m (statement_parts (node_at nodes n)) → Holds owner (statements_under nodes m) column
    unfolding parts_at
    holds_statement h m d = holds_at (statement n) (statement m) (member_append_right (map expression (expressions_of_statement (node_at nodes n))) (Memᴰ.map statement d)) h
