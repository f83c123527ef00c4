-- 01, number 5: counts of uses, one for each node that there can be.
use Rattle.std.specs.Prelude.{◌≡◌, ◌||◌, ◌+◌, ◌<◌, ◌≤◌}
use Rattle.kit.specs.Names.{Bool, false, not, List, ℕ, zero, suc, eqb, length, get_or}
use Rattle.definitions.specs.Basics.{count_if}
use Rattle.definitions.specs.ContractFile.{FunctionRecord, NodeRecord, node_of, children}

-- There is a count for each node that there can be, and each can grow by as much as is given.
pub record Room (counts : List ℕ) (more : ℕ) : Type 0 where
  pub each : (n : ℕ) → n < 512 → get_or counts n 0 + more ≤ 65535
  pub long : length counts ≡ 512

-- The later counts are the earlier ones with these uses.
pub record Counted (earlier later uses : List ℕ) : Type 0 where
  pub each : (n : ℕ) → n < 512 → get_or later n 0 ≡ get_or earlier n 0 + count_if (eqb n) uses
  pub long : length later ≡ length earlier

abbrev pub root_of : FunctionRecord → ℕ
root_of r = r.root

abbrev pub children_of : NodeRecord → List ℕ
children_of r = children (node_of r)

abbrev pub other_than_one : List ℕ → ℕ → Bool
other_than_one counts n = not (eqb (get_or counts n 0) 1)

-- Some of as many numbers as are given, from the one given on, passes a test.
unfoldable pub any_from : (ℕ → Bool) → ℕ → ℕ → Bool
any_from test n zero = false
any_from test n (suc count) = test n || any_from test (suc n) count
