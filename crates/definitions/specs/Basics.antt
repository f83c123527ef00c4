-- Functions on truth values, numbers and lists that the definitions share.
pub use Rattle.std.specs.Prelude.{◌≡◌, Bool, true, false, ◌&&◌, ◌||◌, cond, not, ℕ, zero, suc, ◌+◌, ◌/◌, ◌%◌, max, ◌*◌}
pub use Rattle.std.specs.Prelude.{◌-◌, eqb, leb, ltb, length, replicate, get_or, drop, set}
pub use mathlib.Core.List.{List, [], ◌∷◌, ◌++◌, map, zip_with}
unfoldable pub use mathlib.Core.List.{flat_map}
pub use Rattle.std.proofs.Math.Option.{Option, none, some}
pub use Rattle.std.proofs.Math.Seq.{slice}

-- f at n, with n worked out first: a definition computes by name, so a number that a recursion names twice is worked out twice.
abbrev pub force {ℓ} : {A : Type ℓ} → ℕ → (ℕ → A) → A
force zero f = f zero
force (suc n) f = f (suc n)

unfoldable pub all : {A : Type 0} → (A → Bool) → List A → Bool
all test [] = true
all test (x ∷ xs) = test x && all test xs

unfoldable pub any : {A : Type 0} → (A → Bool) → List A → Bool
any test [] = false
any test (x ∷ xs) = test x || any test xs

-- The test also sees an element's number, counted from the one given.
unfoldable pub any_numbered : {A : Type 0} → (ℕ → A → Bool) → ℕ → List A → Bool
any_numbered test n [] = false
any_numbered test n (x ∷ xs) = test n x || any_numbered test (suc n) xs

unfoldable pub count_if : {A : Type 0} → (A → Bool) → List A → ℕ
count_if test [] = 0
count_if test (x ∷ xs) = cond (test x) 1 0 + count_if test xs

unfoldable pub largest : List ℕ → ℕ
largest [] = 0
largest (n ∷ ns) = max n (largest ns)

abbrev pub is_zero : ℕ → Bool
is_zero n = eqb n 0

-- A bool's value: 1 for true, 0 for false.
abbrev pub bit : Bool → ℕ
bit b = cond b 1 0

abbrev pub is_true : ℕ → Bool
is_true n = not (is_zero n)

-- 01, The contract file: "Numbers of several bytes are low byte first."
abbrev pub two_bytes : ℕ → List ℕ
two_bytes n = n % 256 ∷ n / 256 % 256 ∷ []

-- 01, Numbers: "The first sentence that holds gives the number; 0 means accepted." The first of the sentences has the number given.
unfoldable pub first_that_holds : ℕ → List Bool → ℕ
first_that_holds n [] = 0
first_that_holds n (holds ∷ later) = cond holds n (first_that_holds (suc n) later)
