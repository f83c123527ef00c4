-- Bytes are the same exactly where the lists are equal, and as `==` compares them; and how a comparison from the front goes on.
use Rattle.std.specs.Prelude.{◌≡◌, ◌&&◌, ◌∷◌, ◌+◌, ◌<◌, ◌≤◌}
use Rattle.kit.specs.Names.{refl, ap, ap₂, sym, ◌∙◌, Bool, true, false, false≢true, List, [], ℕ, suc, arith}
use Rattle.kit.specs.Names.{add-one, eqb, length, get_or, drop, drop-cons, drop-length, eqb-true, eq-eqb, ne_eqb}
use Rattle.std.specs.Cmp.Lexicographic.{pointwise}
use Rattle.theory_laws.proofs.TruthValues.{and_parts, and_both}
use Rattle.test_shared.specs.Bytes.{same_bytes}

pub same_equal : (a b : List ℕ) → same_bytes a b ≡ true → a ≡ b
unfolding same_bytes
same_equal [] [] e = refl
same_equal [] (n ∷ ns) e = absurd (false≢true e)
same_equal (m ∷ ms) [] e = absurd (false≢true e)
same_equal (m ∷ ms) (n ∷ ns) e =
    let h = and_parts (eqb m n) (same_bytes ms ns) e in
    ap₂ (λ x xs. x ∷ xs) (eqb-true m n h.0) (same_equal ms ns h.1)

pub same_itself : (a : List ℕ) → same_bytes a a ≡ true
unfolding same_bytes
same_itself [] = refl
same_itself (m ∷ ms) = and_both (eqb m m) (same_bytes ms ms) (eq-eqb m m refl) (same_itself ms)

pub same_as_compared : (a b : List ℕ) → pointwise eqb a b ≡ same_bytes a b
unfolding same_bytes
same_as_compared [] [] = refl
same_as_compared [] (n ∷ ns) = refl
same_as_compared (m ∷ ms) [] = refl
same_as_compared (m ∷ ms) (n ∷ ns) = ap (λ (t : Bool). eqb m n && t) (same_as_compared ms ns)

not-true : (t : Bool) → (t ≡ true → ⊥) → false ≡ t
not-true true h = absurd (h refl)
not-true false h = refl

pub lengths_differ : (a b : List ℕ) → (length a ≡ length b → ⊥) → false ≡ same_bytes a b
lengths_differ a b h = not-true (same_bytes a b) (λ e. h (ap length (same_equal a b e)))

-- The lists from a place that both have.
module _ (a b : List ℕ) (i : ℕ) (in_a : i < length a) (in_b : i < length b) where
  same_at : same_bytes (drop i a) (drop i b) ≡ (eqb (get_or a i 0) (get_or b i 0) && same_bytes (drop (suc i) a) (drop (suc i) b))
  unfolding same_bytes
  same_at = rw (drop-cons a i 0, drop-cons b i 0)

  pub same_next : get_or a i 0 ≡ get_or b i 0 → same_bytes (drop (i + 1) a) (drop (i + 1) b) ≡ same_bytes (drop i a) (drop i b)
  same_next e = rw (add-one, same_at, eq-eqb (get_or a i 0) (get_or b i 0) e)

  pub same_stops : (get_or a i 0 ≡ get_or b i 0 → ⊥) → false ≡ same_bytes (drop i a) (drop i b)
  same_stops h = rw (same_at, ne_eqb (get_or a i 0) (get_or b i 0) h)

pub same_ends : (a b : List ℕ) (i : ℕ) → length a ≤ i → i ≤ length a → length a ≡ length b → true ≡ same_bytes (drop i a) (drop i b)
same_ends a b i over within e =
    let here : i ≡ length a = omega arith in
    let there : i ≡ length b = omega arith in
    sym (ap₂ same_bytes (ap (λ (n : ℕ). drop n a) here ∙ drop-length a) (ap (λ (n : ℕ). drop n b) there ∙ drop-length b) ∙ same_itself [])
