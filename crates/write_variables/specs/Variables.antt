-- 01, Rewriting: the bytes of a function's variables and the owner codes needing keys, from its log.
use Rattle.std.specs.Prelude.{◌≡◌, ◌||◌, ◌∷◌, ◌++◌, ◌%◌, ◌<◌}
use Rattle.kit.specs.Names.{Bool, cond, List, [], ℕ, eqb, get_or}
use Rattle.definitions.specs.ContractFile.{owner_code}
use Rattle.memory_append.specs.Append.{Appended}
use Rattle.rewrite_events.specs.Events.{Event, supplied_event, claimed_event, read_event, guard_event, end_event}
use Rattle.rewrite_log.specs.Entries.{makes_none}
use Rattle.write_variables.specs.PerEntry.{FromEntry}

-- "Origins: 0 supplied plain, 1 supplied cell, 2 read plain, 3 read cell, 4 guard."
unfoldable pub origin_of : ℕ → ℕ → ℕ
origin_of tag owner = cond (eqb tag 0) (cond (eqb owner 0) 0 1) (cond (eqb tag 2) (cond (eqb owner 0) 2 3) 4)

-- "each origin and owner code (0 unless a cell)"; a claim makes no variable, nor does an end.
abbrev pub variable_of : FromEntry
variable_of tag variable owner node last = cond (makes_none tag) [] (origin_of tag owner ∷ owner % 256 ∷ [])

-- "owner codes needing keys (those of supplied cells)"
abbrev pub key_code : FromEntry
key_code tag variable owner node last = cond (eqb tag 0) (cond (eqb owner 0) [] (owner % 256 ∷ [])) []

-- "each once by first use", with the codes seen told by a test.
unfoldable pub once_unseen : (ℕ → Bool) → List ℕ → List ℕ
once_unseen seen [] = []
once_unseen seen (k ∷ ks) = cond (seen k) (once_unseen seen ks) (k ∷ once_unseen (λ x. eqb x k || seen x) ks)

-- A code is seen where the table of codes has 1.
abbrev pub seen_in : List ℕ → ℕ → Bool
seen_in table k = eqb (get_or table k 0) 1

-- Some codes are met: what is appended for them, and the table that the later codes meet.
pub record KeysTaken (table after : List ℕ) (codes held now : List ℕ) (at end : ℕ) : Type 0 where
  pub appended : Appended held now at (once_unseen (seen_in table) codes) end
  pub later : (ks : List ℕ) → once_unseen (seen_in table) (codes ++ ks) ≡ once_unseen (seen_in table) codes ++ once_unseen (seen_in after) ks

-- Every owner code of a variable is a byte.
unfoldable pub owners_fit : List Event → Type 0
owners_fit [] = Unit {0}
owners_fit (supplied_event i o e ∷ events) = (owner_code o < 256) × owners_fit events
owners_fit (claimed_event g i o e ∷ events) = owners_fit events
owners_fit (read_event s j o e ∷ events) = (owner_code o < 256) × owners_fit events
owners_fit (guard_event i ∷ events) = owners_fit events
owners_fit (end_event i ∷ events) = owners_fit events
