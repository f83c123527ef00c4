-- Steps of a loop that asks whether some element of a list passes a test: what is left to ask has the same answer.
use Rattle.std.specs.Prelude.{◌≡◌, ◌&&◌, ◌||◌, ◌∷◌, ◌+◌, ◌<◌}
use Rattle.kit.specs.Names.{refl, ap, ◌∙◌, Bool, true, false, or_assoc, List, [], map, ℕ, zero, suc, arith}
use Rattle.kit.specs.Names.{add-one, eqb, eqb-true, eqb-false}
use Rattle.definitions.specs.Basics.{any, any_numbered}
use Rattle.file_children.proofs.Truth.{or-false, both_true}

module _ {A : Type 0} (test : A → Bool) (x : A) (xs ys : List A) (goal : Bool) (e : ys ≡ x ∷ xs) (inv : any test ys ≡ goal) where
  pub any_next : test x ≡ false → any test xs ≡ goal
  unfolding any
  any_next h = rw (e, h) at inv

  pub any_found : test x ≡ true → true ≡ goal
  unfolding any
  any_found h = rw (e, h) at inv

pub any_map : {A B : Type 0} (test : B → Bool) (f : A → B) (xs : List A) → any test (map f xs) ≡ any (λ x. test (f x)) xs
unfolding any
any_map test f [] = refl
any_map test f (x ∷ xs) = ap (λ (b : Bool). test (f x) || b) (any_map test f xs)

pub any_done : {A : Type 0} (test : A → Bool) (ys : List A) (goal : Bool) → ys ≡ [] → any test ys ≡ goal → false ≡ goal
unfolding any
any_done test ys goal e inv = rw e at inv

-- The same of a loop that goes on behind an element that passes, and notes that there was one.
module _ {A : Type 0} (test : A → Bool) (noted : Bool) (x : A) (xs ys : List A) (goal : Bool) (e : ys ≡ x ∷ xs) (inv : noted || any test ys ≡ goal) where
  pub noted_next : (or_now : Bool) → or_now ≡ noted || test x → or_now || any test xs ≡ goal
  unfolding any
  noted_next or_now n = rw n (or_assoc noted (test x) (any test xs) ∙ (rw e at inv))

pub noted_done : {A : Type 0} (test : A → Bool) (noted : Bool) (ys : List A) (goal : Bool) → ys ≡ [] → noted || any test ys ≡ goal → noted ≡ goal
unfolding any
noted_done test noted ys goal e inv = rw (e, or-false noted) at inv

module _ {A : Type 0} (test : ℕ → A → Bool) (n : ℕ) (noted : Bool) (x : A) (xs ys : List A) (goal : Bool) (e : ys ≡ x ∷ xs)
    (inv : noted || any_numbered test n ys ≡ goal) where
  pub noted_numbered_next : (or_now : Bool) → or_now ≡ noted || test n x → or_now || any_numbered test (n + 1) xs ≡ goal
  unfolding any_numbered
  noted_numbered_next or_now m = rw (m, add-one) (or_assoc noted (test n x) (any_numbered test (suc n) xs) ∙ (rw e at inv))

pub noted_numbered_done : {A : Type 0} (test : ℕ → A → Bool) (n : ℕ) (noted : Bool) (ys : List A) (goal : Bool) → ys ≡ []
    → noted || any_numbered test n ys ≡ goal → noted ≡ goal
unfolding any_numbered
noted_numbered_done test n noted ys goal e inv = rw (e, or-false noted) at inv

-- A test that holds of each number below a bound, worked out number by number.
unfoldable pub all_below : (ℕ → Bool) → ℕ → Bool
all_below test zero = true
all_below test (suc n) = test n && all_below test n

last_or_below : (test : ℕ → Bool) (k n : ℕ) (b : Bool) → eqb k n ≡ b → test n ≡ true → (k < n → test k ≡ true) → k < suc n → test k ≡ true
last_or_below test k n true e last below h = rw (eqb-true k n e) last
last_or_below test k n false e last below h = below (omega (arith, eqb-false k n e))

pub all_below_at : (test : ℕ → Bool) (n : ℕ) → all_below test n ≡ true → (k : ℕ) → k < n → test k ≡ true
unfolding all_below
all_below_at test zero t k h = absurd (omega arith)
all_below_at test (suc n) t k h =
    let both = both_true (test n) (all_below test n) t in
    last_or_below test k n (eqb k n) refl both.0 (all_below_at test n both.1 k) h
