-- The loop over the roots.
use Rattle.std.specs.Prelude.{◌≡◌, ◌||◌, ◌∷◌, ◌+◌, ◌-◌, ◌/◌, ◌<◌, ◌≤◌}
use Rattle.kit.specs.Names.{ap, sym, ◌∙◌, Bool, cond, List, [], map, ℕ, length}
use Rattle.definitions.specs.Basics.{any, first_that_holds}
use Rattle.definitions.specs.ContractFile.{FunctionRecord}
use Rattle.file_children.proofs.Loops.{noted_next, noted_done}
use Rattle.file_decoded.specs.Slices.{function_from, functions_from}
use Rattle.file_decoded.proofs.Records.{functions_step, functions_end_law}
use Rattle.check_05_uses.specs.Counting.{Counted, root_of}
use Rattle.check_05_uses.proofs.Loops.{Leads, roots_done}
use Rattle.check_06_depth.specs.Chains.{root_too_deep}
use Rattle.check_07_sorts.specs.Sorts.{nodes_in, root_wrong}

module _ (test : FunctionRecord → Bool) (left : ℕ) (functions : List ℕ) (at : ℕ) (parameters : List ℕ) (noted goal : Bool)
    (inv : noted || any test (functions_from parameters left functions at) ≡ goal) where
  pub root_noted : 0 < left → (asked : Bool) → asked ≡ test (function_from parameters functions at)
      → (noted || asked) || any test (functions_from parameters (left - 1) functions (at + 3)) ≡ goal
  root_noted h asked e = noted_next test noted _ _ _ goal (functions_step parameters functions at left h) inv _ (ap (λ (b : Bool). noted || b) e)

  pub roots_noted : left ≤ 0 → noted ≡ goal
  roots_noted h = noted_done test noted _ goal (functions_end_law parameters functions at left h) inv

pub number_of_roots : (deep wrong a b : Bool) → a ≡ deep → b ≡ wrong → cond {A = ℕ} a 6 (cond b 7 0) ≡ first_that_holds 6 (deep ∷ wrong ∷ [])
unfolding first_that_holds
number_of_roots deep wrong a b e f = rw (e, f)

-- All roots are looked at.
module _ (start counts functions nodes depths : List ℕ) (noted deep wrong : Bool) (left at : ℕ) (none : left ≤ 0) (parameters : List ℕ) where
  abbrev rest : List FunctionRecord
  rest = functions_from parameters left functions at

  abbrev all : List FunctionRecord
  all = functions_from parameters (length functions / 3) functions 0

  pub roots_looked_at : (Leads start counts (map root_of rest) (map root_of all))
      × (deep || any (root_too_deep depths) rest ≡ any (root_too_deep depths) all)
      × (wrong || any (root_wrong (nodes_in nodes)) rest ≡ noted || any (root_wrong (nodes_in nodes)) all)
      → (a b : Bool) → deep ≡ a → wrong ≡ b → (Counted start counts (map root_of all))
      × (cond {A = ℕ} a 6 (cond b 7 0)
      ≡ first_that_holds 6 (any (root_too_deep depths) all ∷ (noted || any (root_wrong (nodes_in nodes)) all) ∷ []))
  roots_looked_at (leads, deep_is, wrong_is) a b is_deep is_wrong = (
    roots_done _ _ _ left functions at parameters leads none,
    number_of_roots _ _ a b
        (sym is_deep ∙ roots_noted (root_too_deep depths) left functions at parameters deep _ deep_is none)
        (sym is_wrong ∙ roots_noted (root_wrong (nodes_in nodes)) left functions at parameters wrong _ wrong_is none),
  )
