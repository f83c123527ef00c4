-- The bytes of one item: ten written one after another, and what a party is shown.
use Rattle.std.specs.Prelude.{◌≡◌, ◌∷◌, ◌+◌, ◌≤◌}
use Rattle.kit.specs.Names.{refl, List, [], ℕ, suc, arith, set, length, sets-eq, eq-eqb, ne_eqb}
use Rattle.memory_buffer.specs.Buffer.{stored}
use Rattle.definitions.specs.Ledger as ledger
use Rattle.definitions.specs.View.{Item, item_for, item_bytes}

pub ten_set : (l : List ℕ) (i a₀ a₁ a₂ a₃ a₄ a₅ a₆ a₇ a₈ a₉ : ℕ) → i + 10 ≤ length l
    → set (set (set (set (set (set (set (set (set (set l i a₀) (i + 1) a₁) (i + 2) a₂) (i + 3) a₃) (i + 4) a₄) (i + 5) a₅) (i + 6) a₆) (i + 7) a₇) (i + 8) a₈) (i + 9) a₉
    ≡ stored l i (a₀ ∷ a₁ ∷ a₂ ∷ a₃ ∷ a₄ ∷ a₅ ∷ a₆ ∷ a₇ ∷ a₈ ∷ a₉ ∷ [])
unfolding stored
ten_set l i a₀ a₁ a₂ a₃ a₄ a₅ a₆ a₇ a₈ a₉ h =
    let e₁ : i + 1 ≡ suc i = omega arith in
    let e₂ : i + 2 ≡ suc (suc i) = omega arith in
    let e₃ : i + 3 ≡ suc (suc (suc i)) = omega arith in
    let e₄ : i + 4 ≡ suc (suc (suc (suc i))) = omega arith in
    let e₅ : i + 5 ≡ suc (suc (suc (suc (suc i)))) = omega arith in
    let e₆ : i + 6 ≡ suc (suc (suc (suc (suc (suc i))))) = omega arith in
    let e₇ : i + 7 ≡ suc (suc (suc (suc (suc (suc (suc i)))))) = omega arith in
    let e₈ : i + 8 ≡ suc (suc (suc (suc (suc (suc (suc (suc i))))))) = omega arith in
    let e₉ : i + 9 ≡ suc (suc (suc (suc (suc (suc (suc (suc (suc i)))))))) = omega arith in
    rw (e₁, e₂, e₃, e₄, e₅, e₆, e₇, e₈, e₉) (sets-eq (a₀ ∷ a₁ ∷ a₂ ∷ a₃ ∷ a₄ ∷ a₅ ∷ a₆ ∷ a₇ ∷ a₈ ∷ a₉ ∷ []) l i h)

pub ten_bytes : (item : Item) → length (item_bytes item) ≡ 10
unfolding item_bytes
ten_bytes item = refl

pub shows_plain : (party v : ℕ) → item_for party (ledger.Content.plain v) ≡ record { mark = 0; owner = 0; call = 0; index = 0; value = v }
unfolding item_for
shows_plain party v = refl

module _ (party owner call index value : ℕ) where
  pub shows_own : owner ≡ party
      → item_for party (ledger.Content.cell (record { owner = owner; call = call; index = index; value = value }))
      ≡ record { mark = 2; owner = owner; call = call; index = index; value = value }
  unfolding item_for
  shows_own own = rw (eq-eqb owner party own)

  pub shows_opaque : (owner ≡ party → ⊥)
      → item_for party (ledger.Content.cell (record { owner = owner; call = call; index = index; value = value }))
      ≡ record { mark = 1; owner = owner; call = call; index = index; value = 0 }
  unfolding item_for
  shows_opaque other = rw (ne_eqb owner party other)
