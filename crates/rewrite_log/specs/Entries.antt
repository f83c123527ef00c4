-- An event as five numbers of a log. A node's number stands for the expression of that node.
use Rattle.std.specs.Prelude.{◌||◌, ◌∷◌, ◌++◌, ◌<◌}
use Rattle.kit.specs.Names.{Bool, List, [], ℕ, zero, suc, eqb, length}
use Rattle.definitions.specs.ContractFile.{Owner, owner_code, Node}
use Rattle.definitions.specs.Rewriting.{Guard, always, under, guard_number}
use Rattle.theory_trees.specs.Trees.{expression_in}
use Rattle.rewrite_events.specs.Events.{Event, supplied_event, claimed_event, read_event, guard_event, end_event}

-- "each guard (0, or 1 + variable)"
abbrev pub guard_of : ℕ → Guard
guard_of zero = always
guard_of (suc i) = under i

-- Tag, variable, owner code, node, and the guard's number of a claim or the first variable of what is read.
abbrev pub five : ℕ → ℕ → ℕ → ℕ → ℕ → List ℕ
five tag variable owner node last = tag ∷ variable ∷ owner ∷ node ∷ last ∷ []

pub data IsEntry (nodes : List Node) : Event → List ℕ → Type 0 where
  supplied_entry : (i : ℕ) (o : Owner) (n : ℕ) → n < length nodes
      → IsEntry nodes (supplied_event i o (expression_in nodes n)) (five 0 i (owner_code o) n 0)
  claimed_entry : (g : Guard) (i : ℕ) (o : Owner) (n : ℕ) → n < length nodes
      → IsEntry nodes (claimed_event g i o (expression_in nodes n)) (five 1 i (owner_code o) n (guard_number g))
  read_entry : (s j : ℕ) (o : Owner) (n : ℕ) → n < length nodes
      → IsEntry nodes (read_event s j o (expression_in nodes n)) (five 2 j (owner_code o) n s)
  guard_entry : (i : ℕ) → IsEntry nodes (guard_event i) (five 3 i 0 0 0)
  end_entry : (i : ℕ) → IsEntry nodes (end_event i) (five 4 i 0 0 0)

-- The entries of claims and ends make no variable.
abbrev pub makes_none : ℕ → Bool
makes_none tag = eqb tag 1 || eqb tag 4

-- The numbers of events, one entry after another.
pub data Entries (nodes : List Node) : List Event → List ℕ → Type 0 where
  no_entry : Entries nodes [] []
  entry_then : {event : Event} {entry : List ℕ} {events : List Event} {numbers : List ℕ}
      → IsEntry nodes event entry
      → Entries nodes events numbers
      → Entries nodes (event ∷ events) (entry ++ numbers)
