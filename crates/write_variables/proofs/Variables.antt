-- The ways out of the tests on one entry.
use Rattle.std.specs.Prelude.{◌≡◌, ◌∷◌, ◌+◌, ◌%◌, ◌≤◌}
use Rattle.kit.specs.Names.{ap, true, false, List, [], ℕ, arith, length, eq-eqb, ne_eqb}
use Rattle.memory_append.specs.Append.{Appended}
use Rattle.memory_append.proofs.Appending.{appended_nothing, appended_then}
use Rattle.rewrite_log.specs.Entries.{makes_none}
use Rattle.write_variables.specs.Variables.{origin_of, variable_of}

module _ (tag owner : ℕ) where
  pub supplied_plain : tag ≡ 0 → owner ≡ 0 → 0 ≡ origin_of tag owner
  unfolding origin_of
  supplied_plain t o = rw (eq-eqb tag 0 t, eq-eqb owner 0 o)

  pub supplied_cell : tag ≡ 0 → (owner ≡ 0 → ⊥) → 1 ≡ origin_of tag owner
  unfolding origin_of
  supplied_cell t o = rw (eq-eqb tag 0 t, ne_eqb owner 0 o)

  pub read_plain : (tag ≡ 0 → ⊥) → tag ≡ 2 → owner ≡ 0 → 2 ≡ origin_of tag owner
  unfolding origin_of
  read_plain n t o = rw (ne_eqb tag 0 n, eq-eqb tag 2 t, eq-eqb owner 0 o)

  pub read_cell : (tag ≡ 0 → ⊥) → tag ≡ 2 → (owner ≡ 0 → ⊥) → 3 ≡ origin_of tag owner
  unfolding origin_of
  read_cell n t o = rw (ne_eqb tag 0 n, eq-eqb tag 2 t, ne_eqb owner 0 o)

  pub neither : (tag ≡ 0 → ⊥) → (tag ≡ 2 → ⊥) → 4 ≡ origin_of tag owner
  unfolding origin_of
  neither n t = rw (ne_eqb tag 0 n, ne_eqb tag 2 t)

  -- A claim or an end makes no variable, and every other entry one.
  pub nothing_made : (held : List ℕ) (at : ℕ) → makes_none tag ≡ true → Appended held held at (variable_of tag 0 owner 0 0) at
  nothing_made held at t = rw t (appended_nothing held at)

  module _ (t : makes_none tag ≡ false) where
    two_bytes_law : variable_of tag 0 owner 0 0 ≡ origin_of tag owner ∷ owner % 256 ∷ []
    two_bytes_law = rw t

    pub variable_room : (at most : ℕ) → at + length (variable_of tag 0 owner 0 0) ≤ most → at + 2 ≤ most
    variable_room at most h = let e = ap length two_bytes_law in omega arith

    pub variable_appended : (held between after : List ℕ) (at origin middle end : ℕ) → at + length (variable_of tag 0 owner 0 0) ≤ length held → origin ≡ origin_of tag owner
        → Appended held between at (origin ∷ []) middle → Appended between after middle (owner % 256 ∷ []) end → Appended held after at (variable_of tag 0 owner 0 0) end
    variable_appended held between after at origin middle end fits e a b =
        let room = variable_room at (length held) fits in
        let first : Appended held between at (origin_of tag owner ∷ []) middle = rw e at a in
        rw two_bytes_law (appended_then held at between after (origin_of tag owner ∷ []) (owner % 256 ∷ []) middle end first (omega arith) b)
