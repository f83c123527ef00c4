-- Members of lists: of lists one behind another, and how often they are counted.
use Rattle.std.specs.Prelude.{◌≡◌, ◌∷◌, ◌<◌, ◌≤◌}
use Rattle.kit.specs.Names.{refl, ap, List, [], Member, member_head, member_tail, member_not_nil, member_append_cases}
use Rattle.kit.specs.Names.{member_append_left, member_append_right, ⊎_elim, ℕ, zero, suc, arith, eqb, length, get_or, eq-eqb}
use Rattle.definitions.specs.Basics.{count_if, flat_map}
use Rattle.theory_laws.proofs.Lists.{count_append}

-- What is under one of several numbers is under all of them, and back.
pub under_all : {A : Type 0} (under : A → List ℕ) (x : ℕ) (m : A) (ms : List A) → Member m ms → Member x (under m) → Member x (flat_map under ms)
unfolding flat_map
under_all {A = A} under x m [] h d = elim h [ ]
under_all under x m (n ∷ ns) (member_head e) d = member_append_left (flat_map under ns) (rw e at d)
under_all under x m (n ∷ ns) (member_tail h) d = member_append_right (under n) (under_all under x m ns h d)

pub under_one : {A : Type 0} (under : A → List ℕ) (x : ℕ) (ms : List A) → Member x (flat_map under ms) → (m : A) × Member m ms × Member x (under m)
unfolding flat_map
under_one under x [] d = absurd (member_not_nil d)
under_one under x (n ∷ ns) d =
    ⊎_elim (λ h. (n, member_head refl, h)) (λ h. let t = under_one under x ns h in (t.0, member_tail t.1, t.2)) (member_append_cases (under n) d)

-- A member is counted.
pub counted : (m : ℕ) (xs : List ℕ) → Member m xs → 1 ≤ count_if (eqb m) xs
unfolding count_if
counted m [] d = elim d [ ]
counted m (x ∷ xs) (member_head e) = rw (eq-eqb m x e) (omega arith)
counted m (x ∷ xs) (member_tail d) = let h = counted m xs d in omega arith

-- Users of numbers: a number that is used by some entry is counted, and one that is counted once has one user.
module _ {A : Type 0} (uses : A → List ℕ) (m : ℕ) where
  pub used : (xs : List A) (i : ℕ) (other : A) → i < length xs → Member m (uses (get_or xs i other)) → 1 ≤ count_if (eqb m) (flat_map uses xs)
  unfolding flat_map
  used [] i other l d = absurd (omega arith)
  used (x ∷ xs) zero other l d = let h = counted m (uses x) d in omega (arith, count_append (eqb m) (uses x) (flat_map uses xs))
  used (x ∷ xs) (suc i) other l d = let h = used xs i other (omega arith) d in omega (arith, count_append (eqb m) (uses x) (flat_map uses xs))

  pub one_user : (xs : List A) (i j : ℕ) (other : A) → count_if (eqb m) (flat_map uses xs) ≤ 1 → i < length xs → j < length xs
      → Member m (uses (get_or xs i other)) → Member m (uses (get_or xs j other)) → i ≡ j
  unfolding flat_map
  one_user [] i j other h a b d e = absurd (omega arith)
  one_user (x ∷ xs) zero zero other h a b d e = refl
  one_user (x ∷ xs) zero (suc j) other h a b d e =
      omega (arith, counted m (uses x) d, used xs j other (omega arith) e, count_append (eqb m) (uses x) (flat_map uses xs))
  one_user (x ∷ xs) (suc i) zero other h a b d e =
      omega (arith, counted m (uses x) e, used xs i other (omega arith) d, count_append (eqb m) (uses x) (flat_map uses xs))
  one_user (x ∷ xs) (suc i) (suc j) other h a b d e =
      ap suc (one_user xs i j other (omega (arith, count_append (eqb m) (uses x) (flat_map uses xs))) (omega arith) (omega arith) d e)
