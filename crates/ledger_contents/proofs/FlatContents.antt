-- Laws of flat contents: their number, the content at a position, parts of whole fives, and a content replaced.
use Rattle.std.specs.Prelude.{◌≡◌, ◌∷◌, ◌+◌, ◌*◌, ◌/◌, ◌%◌, ◌<◌, ◌≤◌}
use Rattle.kit.specs.Names.{refl, ap, sym, List, [], ℕ, zero, suc, arith, length, get_or, set}
use Rattle.kit.specs.Names.{get_or_eq_default, set_out, sets-eq, ne_eqb}
use Rattle.memory_buffer.specs.Buffer.{stored}
use Rattle.definitions.specs.Ledger as ledger
use Rattle.ledger_contents.specs.Contents.{five, content_of_five, contents_of}

pub length_contents_of : (flat : List ℕ) → length (contents_of flat) ≡ length flat / 5
unfolding contents_of
length_contents_of [] = refl
length_contents_of (a ∷ []) = refl
length_contents_of (a ∷ b ∷ []) = refl
length_contents_of (a ∷ b ∷ c ∷ []) = refl
length_contents_of (a ∷ b ∷ c ∷ d ∷ []) = refl
length_contents_of (a ∷ b ∷ c ∷ d ∷ e ∷ rest) =
    let tail = length_contents_of rest in
    omega arith

-- The five numbers at a position.
abbrev pub five_at : List ℕ → ℕ → ledger.Content
five_at flat p = content_of_five (get_or flat (5 * p) 0) (get_or flat (5 * p + 1) 0) (get_or flat (5 * p + 2) 0) (get_or flat (5 * p + 3) 0) (get_or flat (5 * p + 4) 0)

-- What stands in a flat list behind its first five.
pub content_inside : (flat : List ℕ) (p : ℕ) → p < length flat / 5 → get_or (contents_of flat) p (ledger.Content.plain 0) ≡ five_at flat p
unfolding contents_of
content_inside [] p h = absurd (omega arith)
content_inside (a ∷ []) p h = absurd (omega arith)
content_inside (a ∷ b ∷ []) p h = absurd (omega arith)
content_inside (a ∷ b ∷ c ∷ []) p h = absurd (omega arith)
content_inside (a ∷ b ∷ c ∷ d ∷ []) p h = absurd (omega arith)
content_inside (a ∷ b ∷ c ∷ d ∷ e ∷ rest) zero h = refl
content_inside (a ∷ b ∷ c ∷ d ∷ e ∷ rest) (suc p) h =
    let e₀ : 5 * suc p ≡ suc (suc (suc (suc (suc (5 * p))))) = omega arith in
    let e₁ : 5 * suc p + 1 ≡ suc (suc (suc (suc (suc (5 * p + 1))))) = omega arith in
    let e₂ : 5 * suc p + 2 ≡ suc (suc (suc (suc (suc (5 * p + 2))))) = omega arith in
    let e₃ : 5 * suc p + 3 ≡ suc (suc (suc (suc (suc (5 * p + 3))))) = omega arith in
    let e₄ : 5 * suc p + 4 ≡ suc (suc (suc (suc (suc (5 * p + 4))))) = omega arith in
    rw (e₁, e₂, e₃, e₄, e₀) (content_inside rest p (omega arith))

pub content_outside : (flat : List ℕ) (p : ℕ) → length flat / 5 ≤ p → get_or (contents_of flat) p (ledger.Content.plain 0) ≡ ledger.Content.plain 0
content_outside flat p h =
    let n = length_contents_of flat in
    get_or_eq_default (contents_of flat) (ledger.Content.plain 0) (omega arith)

pub content_plain : (flat : List ℕ) (p : ℕ) → p < length flat / 5 → get_or flat (5 * p) 0 ≡ 0
    → ledger.Content.plain (get_or flat (5 * p + 4) 0) ≡ get_or (contents_of flat) p (ledger.Content.plain 0)
content_plain flat p h tag = rw (content_inside flat p h, tag)

pub content_cell : (flat : List ℕ) (p : ℕ) → p < length flat / 5 → (get_or flat (5 * p) 0 ≡ 0 → ⊥)
    → ledger.Content.cell
    (record {
      owner = get_or flat (5 * p + 1) 0 % 256;
      call = get_or flat (5 * p + 2) 0 % 65536;
      index = get_or flat (5 * p + 3) 0 % 65536;
      value = get_or flat (5 * p + 4) 0;
    })
    ≡ get_or (contents_of flat) p (ledger.Content.plain 0)
content_cell flat p h tag = rw (content_inside flat p h, ne_eqb (get_or flat (5 * p) 0) 0 tag)

pub contents_stored : (flat : List ℕ) (p a' b' c' d' e' : ℕ) → p < length flat / 5
    → contents_of (stored flat (5 * p) (five a' b' c' d' e')) ≡ set (contents_of flat) p (content_of_five a' b' c' d' e')
unfolding contents_of stored
contents_stored [] p a' b' c' d' e' h = absurd (omega arith)
contents_stored (a ∷ []) p a' b' c' d' e' h = absurd (omega arith)
contents_stored (a ∷ b ∷ []) p a' b' c' d' e' h = absurd (omega arith)
contents_stored (a ∷ b ∷ c ∷ []) p a' b' c' d' e' h = absurd (omega arith)
contents_stored (a ∷ b ∷ c ∷ d ∷ []) p a' b' c' d' e' h = absurd (omega arith)
contents_stored (a ∷ b ∷ c ∷ d ∷ e ∷ rest) zero a' b' c' d' e' h = refl
contents_stored (a ∷ b ∷ c ∷ d ∷ e ∷ rest) (suc p) a' b' c' d' e' h =
    let behind : 5 * suc p + 5 ≡ suc (suc (suc (suc (suc (5 * p + 5))))) = omega arith in
    let front : 5 * suc p ≡ suc (suc (suc (suc (suc (5 * p))))) = omega arith in
    rw (behind, front) (ap (λ (cs : List ledger.Content). content_of_five a b c d e ∷ cs) (contents_stored rest p a' b' c' d' e' (omega arith)))

pub put_plain : (flat after : List ℕ) (p v : ℕ) → p < length flat / 5 → after ≡ stored flat (5 * p) (five 0 0 0 0 v)
    → contents_of after ≡ set (contents_of flat) p (ledger.Content.plain v)
put_plain flat after p v h e = rw e (contents_stored flat p 0 0 0 0 v h)

pub put_cell : (flat after : List ℕ) (p o c i v : ℕ) → p < length flat / 5 → o < 256 → c < 65536 → i < 65536
    → after ≡ stored flat (5 * p) (five 1 o c i v)
    → contents_of after ≡ set (contents_of flat) p (ledger.Content.cell (record { owner = o; call = c; index = i; value = v }))
put_cell flat after p o c i v h a b d e =
    let same_o : o % 256 ≡ o = omega arith in
    let same_c : c % 65536 ≡ c = omega arith in
    let same_i : i % 65536 ≡ i = omega arith in
    let put = contents_stored flat p 1 o c i v h in
    rw e (rw (same_o, same_c, same_i) at put)

-- A position that is not there.
pub put_nothing : (flat : List ℕ) (p : ℕ) (content : ledger.Content) → length flat / 5 ≤ p → contents_of flat ≡ set (contents_of flat) p content
put_nothing flat p content h =
    let n = length_contents_of flat in
    sym (set_out (contents_of flat) p content (omega arith))

-- Five numbers written one after another.
pub five_set : (l : List ℕ) (i a₀ a₁ a₂ a₃ a₄ : ℕ) → i + 5 ≤ length l
    → set (set (set (set (set l i a₀) (i + 1) a₁) (i + 2) a₂) (i + 3) a₃) (i + 4) a₄ ≡ stored l i (five a₀ a₁ a₂ a₃ a₄)
unfolding stored
five_set l i a₀ a₁ a₂ a₃ a₄ h =
    let e₁ : i + 1 ≡ suc i = omega arith in
    let e₂ : i + 2 ≡ suc (suc i) = omega arith in
    let e₃ : i + 3 ≡ suc (suc (suc i)) = omega arith in
    let e₄ : i + 4 ≡ suc (suc (suc (suc i))) = omega arith in
    rw (e₁, e₂, e₃, e₄) (sets-eq (five a₀ a₁ a₂ a₃ a₄) l i h)
