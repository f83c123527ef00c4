-- The lists' functions on lists one behind another, and a list's entries by number.
use Rattle.std.specs.Prelude.{◌≡◌, ◌||◌, ◌∷◌, ◌++◌, ◌+◌, ◌<◌, ◌≤◌}
use Rattle.kit.specs.Names.{refl, ap, sym, ◌∙◌, Bool, false, true, cond, List, [], map, append_assoc, ℕ, zero, suc}
use Rattle.kit.specs.Names.{arith, length, replicate, get_or, drop, length-append, drop-cons}
use Rattle.definitions.specs.Basics.{any, any_numbered, count_if, flat_map}
use Rattle.definitions.specs.Original.{numbers_from}
use Rattle.theory_laws.proofs.TruthValues.{or_left, or_right}

pub flat_append : {A B : Type 0} (f : A → List B) (a b : List A) → flat_map f (a ++ b) ≡ flat_map f a ++ flat_map f b
unfolding flat_map
flat_append f [] b = refl
flat_append f (x ∷ a) b = ap (λ ys. f x ++ ys) (flat_append f a b) ∙ sym (append_assoc (f x) (flat_map f a) (flat_map f b))

pub map-append : {A B : Type 0} (f : A → B) (xs ys : List A) → map f (xs ++ ys) ≡ map f xs ++ map f ys
map-append f [] ys = refl
map-append f (x ∷ xs) ys = ap (λ (l : List _). f x ∷ l) (map-append f xs ys)

or_associates : (a b c : Bool) → (a || (b || c)) ≡ ((a || b) || c)
or_associates true b c = refl
or_associates false b c = refl

pub any_append : {A : Type 0} (test : A → Bool) (a b : List A) → any test (a ++ b) ≡ (any test a || any test b)
unfolding any
any_append test [] b = refl
any_append test (x ∷ a) b = rw (any_append test a b) (or_associates (test x) (any test a) (any test b))

pub count_append : {A : Type 0} (test : A → Bool) (a b : List A) → count_if test (a ++ b) ≡ count_if test a + count_if test b
unfolding count_if
count_append test [] b = omega arith
count_append test (x ∷ a) b = let h = count_append test a b in omega arith

pub count_length : {A : Type 0} (test : A → Bool) (xs : List A) → count_if test xs ≤ length xs
unfolding count_if
count_length test [] = omega arith
count_length test (x ∷ xs) =
    let e = count_length test xs in
    let b = bit_small (test x) in
    omega arith
  where
    bit_small : (b : Bool) → cond b 1 0 ≤ 1
    bit_small true = omega arith
    bit_small false = omega arith

pub four_lengths : (a b c d : List ℕ) → length (a ++ b ++ c ++ d) ≡ length a + length b + length c + length d
four_lengths a b c d = simp length-append

pub numbers_length : (n count : ℕ) → length (numbers_from n count) ≡ count
unfolding numbers_from
numbers_length n zero = refl
numbers_length n (suc count) = ap suc (numbers_length (suc n) count)

-- Where no numbered test holds, it fails at each entry.
pub none_numbered : {A : Type 0} (test : ℕ → A → Bool) (n : ℕ) (xs : List A) → any_numbered test n xs ≡ false → (i : ℕ) (d : A) → i < length xs → test (n + i) (get_or xs i d) ≡ false
unfolding any_numbered
none_numbered test n [] h i d l = absurd (omega arith)
none_numbered test n (x ∷ xs) h zero d l = let e : n + 0 ≡ n = omega arith in rw e (or_left (test n x) (any_numbered test (suc n) xs) h)
none_numbered test n (x ∷ xs) h (suc i) d l =
    let e : n + suc i ≡ suc n + i = omega arith in
    rw e (none_numbered test (suc n) xs (or_right (test n x) (any_numbered test (suc n) xs) h) i d (omega arith))

-- Inside a list the default is not read.
pub get_or_inside : {A : Type 0} (l : List A) (i : ℕ) (a b : A) → i < length l → get_or l i a ≡ get_or l i b
get_or_inside [] i a b h = absurd (omega arith)
get_or_inside (x ∷ l) zero a b h = refl
get_or_inside (x ∷ l) (suc i) a b h = get_or_inside l i a b (omega arith)

pub zeros_at : (n p : ℕ) → ◌≡◌ {A = ℕ} (get_or (replicate n 0) p 0) 0
zeros_at zero p = refl
zeros_at (suc n) zero = refl
zeros_at (suc n) (suc p) = zeros_at n p

-- The next entry, and the next five, of what is left of a list.
drop_next : (log : List ℕ) (i j : ℕ) → j ≡ suc i → i < length log → drop i log ≡ get_or log i 0 ∷ drop j log
drop_next log i j e h = drop-cons log i 0 h ∙ ap (λ (n : ℕ). get_or log i 0 ∷ drop n log) (sym e)

pub five_next : (log : List ℕ) (i : ℕ) → i + 4 < length log
    → drop i log ≡ get_or log i 0 ∷ get_or log (i + 1) 0 ∷ get_or log (i + 2) 0 ∷ get_or log (i + 3) 0 ∷ get_or log (i + 4) 0 ∷ drop (i + 5) log
five_next log i h =
    let a = get_or log i 0 in
    let b = get_or log (i + 1) 0 in
    let c = get_or log (i + 2) 0 in
    let d = get_or log (i + 3) 0 in
    drop_next log i (i + 1) (omega arith) (omega arith)
    ∙ ap (λ (l : List ℕ). a ∷ l) (drop_next log (i + 1) (i + 2) (omega arith) (omega arith))
    ∙ ap (λ (l : List ℕ). a ∷ b ∷ l) (drop_next log (i + 2) (i + 3) (omega arith) (omega arith))
    ∙ ap (λ (l : List ℕ). a ∷ b ∷ c ∷ l) (drop_next log (i + 3) (i + 4) (omega arith) (omega arith))
    ∙ ap (λ (l : List ℕ). a ∷ b ∷ c ∷ d ∷ l) (drop_next log (i + 4) (i + 5) (omega arith) (omega arith))
