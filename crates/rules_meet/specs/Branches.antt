-- What a branch does to the links that an if gives it, and the links behind the if.
use Rattle.std.specs.Prelude.{◌≡◌}
use Rattle.kit.specs.Names.{Bool, true, false, List, ℕ, length}
use Rattle.definitions.specs.ContractFile.{Name}
use Rattle.definitions.specs.Owners.{linked_in_both}
use Rattle.rules_links.specs.Classes.{Classed, linked_by, Learnt}

-- Classes that stand for the pairs linked in both.
pub record Met (one other both : List ℕ) : Type 0 where
  pub links : linked_by both ≡ linked_in_both (linked_by one) (linked_by other)
  pub classed : Classed both
  pub long : length both ≡ length one

-- No link is taken away, and where none was added the classes are the same.
pub record GrownFrom (before after : List ℕ) (added : Bool) : Type 0 where
  pub kept : (a b : Name) → linked_by before a b ≡ true → linked_by after a b ≡ true
  pub unless_added : added ≡ false → before ≡ after

-- The classes behind an if, by those before it and at the ends of its branches.
pub record Behind (before one : List ℕ) (one_added : Bool) (other : List ℕ) (other_added : Bool) (after : List ℕ) (added : Bool) :
    Type 0 where
  pub learnt : GrownFrom before one one_added → GrownFrom before other other_added
      → Learnt before after added (linked_in_both (linked_by one) (linked_by other))
