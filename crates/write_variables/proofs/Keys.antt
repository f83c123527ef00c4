-- Codes each once by first use, with a table of those seen.
use Rattle.std.specs.Prelude.{◌≡◌, ◌||◌, ◌∷◌, ◌++◌, ◌+◌, ◌/◌, ◌%◌, ◌<◌, ◌≤◌}
use Rattle.std.specs.Simd.{first_chunks}
use Rattle.kit.specs.Names.{refl, ap, sym, ◌∙◌, subst, Bool, true, false, cond, List, [], ℕ}
use Rattle.kit.specs.Names.{arith, eqb, length, get_or, set, drop, replicate, get_or-set_same, get_or-set_other, eqb-true, eqb-false, eq-eqb}
use Rattle.kit.specs.Names.{ne_eqb}
use Rattle.definitions.specs.Basics.{any, flat_map}
use Rattle.definitions.specs.Rewriting.{each_once}
use Rattle.theory_laws.proofs.Lists.{zeros_at}
use Rattle.memory_append.specs.Append.{Appended, Appending}
use Rattle.memory_append.proofs.Appending.{appended_nothing, appending_start, appending_same, appending_room, appending_next, appending_done}
use Rattle.write_variables.specs.PerEntry.{per_entry}
use Rattle.write_variables.specs.Variables.{key_code, once_unseen, seen_in, KeysTaken}
use Rattle.write_variables.proofs.PerEntry.{made_of, by_entries, chunk_next, chunk_none}

-- What is left depends on the tests' answers alone.
once_same : (p q : ℕ → Bool) → ((x : ℕ) → p x ≡ q x) → (ks : List ℕ) → once_unseen p ks ≡ once_unseen q ks
unfolding once_unseen
once_same p q h [] = refl
once_same p q h (k ∷ ks) =
    let rest = once_same p q h ks in
    let more = once_same (λ x. eqb x k || p x) (λ x. eqb x k || q x) (λ x. ap (λ (b : Bool). eqb x k || b) (h x)) ks in
    λ i. cond (h k i) (rest i) (k ∷ more i)

once_is : (seen ks : List ℕ) → each_once seen ks ≡ once_unseen (λ k. any (eqb k) seen) ks
unfolding each_once once_unseen any
once_is seen [] = refl
once_is seen (k ∷ ks) =
    let rest = once_is seen ks in
    let more = once_is (k ∷ seen) ks in
    λ i. cond (any (eqb k) seen) (rest i) (k ∷ more i)

-- An empty table has seen nothing.
pub once_start : (n : ℕ) (ks : List ℕ) → once_unseen (seen_in (replicate n 0)) ks ≡ each_once [] ks
unfolding any
once_start n ks = once_same (seen_in (replicate n 0)) (λ k. any (eqb k) []) (λ x. ap (λ (v : ℕ). eqb v 1) (zeros_at n x)) ks ∙ sym (once_is [] ks)

-- The tests after some codes.
unfoldable after_codes : (ℕ → Bool) → List ℕ → ℕ → Bool
after_codes seen [] = seen
after_codes seen (k ∷ ks) = cond (seen k) (after_codes seen ks) (after_codes (λ x. eqb x k || seen x) ks)

once_append : (seen : ℕ → Bool) (codes ks : List ℕ) → once_unseen seen (codes ++ ks) ≡ once_unseen seen codes ++ once_unseen (after_codes seen codes) ks
unfolding once_unseen after_codes
once_append seen [] ks = refl
once_append seen (k ∷ codes) ks = go (seen k) (once_append seen codes ks) (once_append (λ x. eqb x k || seen x) codes ks)
  where
    go : (b : Bool) → once_unseen seen (codes ++ ks) ≡ once_unseen seen codes ++ once_unseen (after_codes seen codes) ks
        → once_unseen (λ x. eqb x k || seen x) (codes ++ ks) ≡ once_unseen (λ x. eqb x k || seen x) codes ++ once_unseen (after_codes (λ x. eqb x k || seen x) codes) ks
        → cond b (once_unseen seen (codes ++ ks)) (k ∷ once_unseen (λ x. eqb x k || seen x) (codes ++ ks))
        ≡ cond b (once_unseen seen codes) (k ∷ once_unseen (λ x. eqb x k || seen x) codes)
        ++ once_unseen (cond b (after_codes seen codes) (after_codes (λ x. eqb x k || seen x) codes)) ks
    go true h g = h
    go false h g = ap (λ (l : List ℕ). k ∷ l) g

-- Its clauses.
once_none : (seen : ℕ → Bool) → once_unseen seen [] ≡ []
unfolding once_unseen
once_none seen = refl

once_seen : (seen : ℕ → Bool) (k : ℕ) (ks : List ℕ) → seen k ≡ true → once_unseen seen (k ∷ ks) ≡ once_unseen seen ks
unfolding once_unseen
once_seen seen k ks h = ap (λ (b : Bool). cond b (once_unseen seen ks) (k ∷ once_unseen (λ x. eqb x k || seen x) ks)) h

once_new : (seen : ℕ → Bool) (k : ℕ) (ks : List ℕ) → seen k ≡ false → once_unseen seen (k ∷ ks) ≡ k ∷ once_unseen (λ x. eqb x k || seen x) ks
unfolding once_unseen
once_new seen k ks h = ap (λ (b : Bool). cond b (once_unseen seen ks) (k ∷ once_unseen (λ x. eqb x k || seen x) ks)) h

module _ (table : List ℕ) where
  -- One code seen, or marked and appended.
  module _ (code : ℕ) where
    marks : code < length table → (x : ℕ) → (eqb x code || seen_in table x) ≡ seen_in (set table code 1) x
    marks inside x = go (eqb x code) refl
      where
        go : (b : Bool) → eqb x code ≡ b → (b || seen_in table x) ≡ seen_in (set table code 1) x
        go true e = sym (eq-eqb _ 1 (ap (λ (n : ℕ). get_or (set table code 1) n 0) (eqb-true x code e) ∙ get_or-set_same table code 1 0 inside))
        go false e = ap (λ (v : ℕ). eqb v 1) (sym (get_or-set_other table code x 1 0 (eqb-false x code e)))

    pub code_seen : (held : List ℕ) (at : ℕ) → get_or table code 0 ≡ 1 → KeysTaken table table (code ∷ []) held held at at
    code_seen held at h =
        let seen : seen_in table code ≡ true = eq-eqb (get_or table code 0) 1 h in
        let none : once_unseen (seen_in table) (code ∷ []) ≡ [] = once_seen (seen_in table) code [] seen ∙ once_none (seen_in table) in
        record {
          appended = subst (λ (l : List ℕ). Appended held held at l at) (sym none) (appended_nothing held at);
          later = λ ks. once_seen (seen_in table) code ks seen ∙ ap (λ (l : List ℕ). l ++ once_unseen (seen_in table) ks) (sym none);
        }

    module _ (h : get_or table code 0 ≡ 1 → ⊥) where
      unseen : seen_in table code ≡ false
      unseen = ne_eqb (get_or table code 0) 1 h

      one : once_unseen (seen_in table) (code ∷ []) ≡ code ∷ []
      one = once_new (seen_in table) code [] unseen ∙ ap (λ (l : List ℕ). code ∷ l) (once_none (λ x. eqb x code || seen_in table x))

      pub new_room : (at most : ℕ) → at + length (once_unseen (seen_in table) (code ∷ [])) ≤ most → at + 1 ≤ most
      new_room at most fits = let e = ap length one in omega arith

      pub code_new : (held now : List ℕ) (at end : ℕ) → code < length table → Appended held now at (code ∷ []) end → KeysTaken table (set table code 1) (code ∷ []) held now at end
      code_new held now at end inside a =
          record {
            appended = subst (λ (l : List ℕ). Appended held now at l end) (sym one) a;
            later = λ ks.
                once_new (seen_in table) code ks unseen
                ∙ ap (λ (l : List ℕ). code ∷ l) (once_same (λ x. eqb x code || seen_in table x) (seen_in (set table code 1)) (marks inside) ks)
                ∙ ap (λ (l : List ℕ). l ++ once_unseen (seen_in (set table code 1)) ks) (sym one);
          }

  none_taken : (held : List ℕ) (at : ℕ) → KeysTaken table table [] held held at at
  unfolding once_unseen
  none_taken held at = record { appended = appended_nothing held at; later = λ ks. refl }

  -- The ways out of the tests on one entry.
  module _ (tag owner : ℕ) where
    pub other_taken : (held : List ℕ) (at : ℕ) → (tag ≡ 0 → ⊥) → KeysTaken table table (key_code tag 0 owner 0 0) held held at at
    other_taken held at t =
        let none : key_code tag 0 owner 0 0 ≡ [] = rw (ne_eqb tag 0 t) in
        subst (λ (l : List ℕ). KeysTaken table table l held held at at) (sym none) (none_taken held at)

    pub plain_taken : (held : List ℕ) (at : ℕ) → tag ≡ 0 → owner ≡ 0 → KeysTaken table table (key_code tag 0 owner 0 0) held held at at
    plain_taken held at t o =
        let none : key_code tag 0 owner 0 0 ≡ [] = rw (eq-eqb tag 0 t, eq-eqb owner 0 o) in
        subst (λ (l : List ℕ). KeysTaken table table l held held at at) (sym none) (none_taken held at)

    module _ (t : tag ≡ 0) (o : owner ≡ 0 → ⊥) where
      cell_code : key_code tag 0 owner 0 0 ≡ owner % 256 ∷ []
      cell_code = rw (eq-eqb tag 0 t, ne_eqb owner 0 o)

      pub cell_room : (at most : ℕ) → at + length (once_unseen (seen_in table) (key_code tag 0 owner 0 0)) ≤ most → at + length (once_unseen (seen_in table) (owner % 256 ∷ [])) ≤ most
      cell_room at most fits = let e = ap (λ (l : List ℕ). length (once_unseen (seen_in table) l)) cell_code in omega arith

      pub cell_taken : (after held now : List ℕ) (at end : ℕ) → KeysTaken table after (owner % 256 ∷ []) held now at end
          → KeysTaken table after (key_code tag 0 owner 0 0) held now at end
      cell_taken after held now at end k = subst (λ (l : List ℕ). KeysTaken table after l held now at end) (sym cell_code) k

-- The loop over the entries.
module _ (log : List ℕ) (entries : List (List ℕ)) (are : entries ≡ first_chunks 5 (length log / 5) log)
    (held : List ℕ) (from : ℕ) (fits : from + length (each_once [] (per_entry key_code log)) ≤ length held) where
  abbrev whole : List ℕ
  whole = each_once [] (per_entry key_code log)

  abbrev keys_from : ℕ → List ℕ
  keys_from e = flat_map (made_of key_code) (drop e entries)

  abbrev left_at : List ℕ → ℕ → List ℕ
  left_at table e = once_unseen (seen_in table) (keys_from e)

  abbrev codes : ℕ → List ℕ
  codes e = made_of key_code (get_or entries e [])

  pub keys_start : Appending held held from from whole (left_at (replicate 256 0) 0)
  keys_start =
      let all = ap (each_once []) (by_entries key_code log entries are) in
      let none_seen = once_start 256 (keys_from 0) in
      appending_same held from whole held whole (left_at (replicate 256 0) 0) from (all ∙ sym none_seen) (appending_start held from whole)

  pub key_room : (now table : List ℕ) (at e : ℕ) → e < length entries → Appending held now from at whole (left_at table e)
      → at + length (once_unseen (seen_in table) (codes e)) ≤ length now
  key_room now table at e h a =
      let next = ap (once_unseen (seen_in table)) (chunk_next key_code entries e h) ∙ once_append (seen_in table) (codes e) (keys_from
      (e + 1)) in
      let later = once_unseen (after_codes (seen_in table) (codes e)) (keys_from (e + 1)) in
      appending_room held from whole now (once_unseen (seen_in table) (codes e)) (left_at table e) later at next a fits

  pub key_appended : (now after table marked : List ℕ) (at end e : ℕ) → e < length entries
      → Appending held now from at whole (left_at table e)
      → KeysTaken table marked (codes e) now after at end → Appending held after from end whole (left_at marked (e + 1))
  key_appended now after table marked at end e h a k =
      let next = ap (once_unseen (seen_in table)) (chunk_next key_code entries e h) ∙ k.later (keys_from (e + 1)) in
      appending_next held from whole now (once_unseen (seen_in table) (codes e)) (left_at table e) (left_at marked
      (e + 1)) at next a fits after end k.appended

  pub keys_done : (now table : List ℕ) (at e : ℕ) → length entries ≤ e → Appending held now from at whole (left_at table e)
      → Appended held now from whole at
  keys_done now table at e h a =
      let none = ap (once_unseen (seen_in table)) (chunk_none key_code entries e h) ∙ once_none (seen_in table) in
      appending_done held from whole now (left_at table e) at none a
