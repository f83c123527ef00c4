-- The links that a list of class numbers stands for, one class number at each owner's number.
use Rattle.std.specs.Prelude.{◌≡◌, ◌&&◌, ◌+◌, ◌<◌, ◌≤◌}
use Rattle.kit.specs.Names.{Bool, true, false, cond, List, ℕ, eqb, ltb, length, get_or}
use Rattle.definitions.specs.ContractFile.{Name, me_name, final_name, parameter_name, same_name}
use Rattle.definitions.specs.Owners.{Links}
use Rattle.rules_owners.specs.Numbering.{number_of_name}

-- A class for me and for each of eight parameters, and for no more finals than a contract has fields; a class's number is that of a name.
pub record Classed (classes : List ℕ) : Type 0 where
  pub enough : 10 ≤ length classes
  pub few : length classes ≤ 74
  pub bounded : (j : ℕ) → get_or classes j 0 < length classes

-- The names that have a number of their own among so many.
abbrev pub known : ℕ → Name → Bool
known count me_name = true
known count (final_name f) = ltb (10 + f) count
known count (parameter_name k) = ltb k 8

-- Names of one class are linked; a name with no class is linked to itself.
unfoldable pub linked_by : List ℕ → Links
linked_by classes a b =
    cond (known (length classes) a && known (length classes) b)
    (eqb (get_or classes (number_of_name a) 0) (get_or classes (number_of_name b) 0))
    (same_name a b)

abbrev pub exchanged : ℕ → ℕ → ℕ → ℕ
exchanged old new class = cond (eqb class old) new class

-- Links learnt on the way through a statement or a condition: the classes afterwards stand for them; where nothing was added, they are the
-- classes before.
pub record Learnt (before after : List ℕ) (added : Bool) (linked : Links) : Type 0 where
  pub links : linked_by after ≡ linked
  pub classed : Classed after
  pub long : length after ≡ length before
  pub unless_added : added ≡ false → before ≡ after
