-- A log unfolds entry by entry.
use Rattle.std.specs.Prelude.{◌≡◌, ◌∷◌, ◌++◌, ◌+◌, ◌*◌, ◌/◌, ◌<◌, ◌≤◌}
use Rattle.std.specs.List.{filter}
use Rattle.std.specs.Simd.{first_chunks}
use Rattle.kit.specs.Names.{refl, ap, sym, ◌∙◌, Bool, true, false, cond, List, [], ℕ, zero, suc, arith, eqb, length, get_or, drop}
use Rattle.kit.specs.Names.{add-one, length-drop, drop-cons, drop_of_length-le}
use Rattle.definitions.specs.Basics.{flat_map}
use Rattle.theory_laws.proofs.Lists.{five_next}
use Rattle.memory_append.specs.Append.{Appended, Appending}
use Rattle.memory_append.proofs.Appending.{appending_start, appending_same, appending_room, appending_next, appending_done}
use Rattle.write_variables.specs.PerEntry.{FromEntry, per_entry, of_tag, count_tag}

module _ (make : FromEntry) where
  pub entry_next : (log : List ℕ) (i : ℕ) → i + 4 < length log
      → per_entry make (drop i log) ≡ make (get_or log i 0) (get_or log (i + 1) 0) (get_or log (i + 2) 0) (get_or log (i + 3) 0) (get_or log (i + 4) 0) ++ per_entry make (drop (i + 5) log)
  unfolding per_entry
  entry_next log i h = ap (per_entry make) (five_next log i h)

  short_none : (numbers : List ℕ) → length numbers ≤ 4 → per_entry make numbers ≡ []
  unfolding per_entry
  short_none [] h = refl
  short_none (a ∷ []) h = refl
  short_none (a ∷ b ∷ []) h = refl
  short_none (a ∷ b ∷ c ∷ []) h = refl
  short_none (a ∷ b ∷ c ∷ d ∷ []) h = refl
  short_none (a ∷ b ∷ c ∷ d ∷ e ∷ numbers) h = absurd (omega arith)

  pub entry_none : (log : List ℕ) (i : ℕ) → length log ≤ i + 4 → per_entry make (drop i log) ≡ []
  entry_none log i h = short_none (drop i log) (let l = length-drop i log in omega arith)

  -- What is made of an entry, as `as_chunks` gives it.
  abbrev pub made_of : List ℕ → List ℕ
  made_of entry = make (get_or entry 0 0) (get_or entry 1 0) (get_or entry 2 0) (get_or entry 3 0) (get_or entry 4 0)

  pub by_chunks : (n : ℕ) (log : List ℕ) → 5 * n ≤ length log → length log < 5 * n + 5
      → per_entry make log ≡ flat_map made_of (first_chunks 5 n log)
  unfolding per_entry flat_map
  by_chunks zero log fits few = short_none log (omega arith)
  by_chunks (suc n) [] fits few = absurd (omega arith)
  by_chunks (suc n) (a ∷ []) fits few = absurd (omega arith)
  by_chunks (suc n) (a ∷ b ∷ []) fits few = absurd (omega arith)
  by_chunks (suc n) (a ∷ b ∷ c ∷ []) fits few = absurd (omega arith)
  by_chunks (suc n) (a ∷ b ∷ c ∷ d ∷ []) fits few = absurd (omega arith)
  by_chunks (suc n) (a ∷ b ∷ c ∷ d ∷ e ∷ log) fits few = ap (λ (l : List ℕ). make a b c d e ++ l) (by_chunks n log (omega arith)
      (omega arith))

  pub by_entries : (log : List ℕ) (entries : List (List ℕ)) → entries ≡ first_chunks 5 (length log / 5) log
      → per_entry make log ≡ flat_map made_of entries
  by_entries log entries are = rw are (by_chunks (length log / 5) log (omega arith) (omega arith))

  pub chunk_next : (entries : List (List ℕ)) (e : ℕ) → e < length entries
      → flat_map made_of (drop e entries) ≡ made_of (get_or entries e []) ++ flat_map made_of (drop (e + 1) entries)
  unfolding flat_map
  chunk_next entries e h = rw (drop-cons entries e [] h, add-one)

  pub chunk_none : (entries : List (List ℕ)) (e : ℕ) → length entries ≤ e → flat_map made_of (drop e entries) ≡ []
  unfolding flat_map
  chunk_none entries e h = rw (drop_of_length-le entries h)

-- A loop that appends what is made of each entry.
module _ (make : FromEntry) (log : List ℕ) (entries : List (List ℕ)) (are : entries ≡ first_chunks 5 (length log / 5) log)
    (held : List ℕ) (from : ℕ) (fits : from + length (per_entry make log) ≤ length held) where
  abbrev rest : ℕ → List ℕ
  rest e = flat_map (made_of make) (drop e entries)

  abbrev pub Left : List ℕ → ℕ → ℕ → Type 0
  Left now at e = Appending held now from at (per_entry make log) (rest e)

  pub entries_start : Left held from 0
  entries_start = appending_same held from (per_entry make log) held (per_entry make log) (rest 0) from
      (by_entries make log entries are) (appending_start held from (per_entry make log))

  pub entry_room : (now : List ℕ) (at e : ℕ) → e < length entries → Left now at e
      → at + length (made_of make (get_or entries e [])) ≤ length now
  entry_room now at e h a =
      appending_room held from (per_entry make log) now (made_of make (get_or entries e [])) (rest e) (rest (e + 1)) at
      (chunk_next make entries e h) a fits

  pub entry_appended : (now after : List ℕ) (at end e : ℕ) → e < length entries → Left now at e
      → Appended now after at (made_of make (get_or entries e [])) end
      → Left after end (e + 1)
  entry_appended now after at end e h a b =
      appending_next held from (per_entry make log) now (made_of make (get_or entries e [])) (rest e) (rest (e + 1)) at
      (chunk_next make entries e h) a fits after end b

  pub entries_appended : (now : List ℕ) (at e : ℕ) → length entries ≤ e → Left now at e → Appended held now from (per_entry make log) at
  entries_appended now at e h a = appending_done held from (per_entry make log) now (rest e) at (chunk_none make entries e h) a

-- Counting the entries of a tag.
abbrev pub has_tag : ℕ → List ℕ → Bool
has_tag tag entry = eqb (get_or entry 0 0) tag

tags_in : (tag : ℕ) (entries : List (List ℕ)) → length (flat_map (made_of (of_tag tag)) entries) ≡ length (filter (has_tag tag) entries)
unfolding flat_map
tags_in tag [] = refl
tags_in tag (entry ∷ entries) = go (has_tag tag entry) (tags_in tag entries)
  where
    go : (b : Bool) → length (flat_map (made_of (of_tag tag)) entries) ≡ length (filter (has_tag tag) entries)
        → length (cond b (0 ∷ []) [] ++ flat_map (made_of (of_tag tag)) entries)
        ≡ length (cond b (entry ∷ filter (has_tag tag) entries) (filter (has_tag tag) entries))
    go true h = ap suc h
    go false h = h

pub tags_counted : (tag : ℕ) (log : List ℕ) (entries : List (List ℕ)) → entries ≡ first_chunks 5 (length log / 5) log
    → (count : ℕ) → count ≡ length (filter (has_tag tag) entries) → count ≡ count_tag tag log
tags_counted tag log entries are count e = e ∙ sym (tags_in tag entries) ∙ ap length (sym (by_entries (of_tag tag) log entries are))
