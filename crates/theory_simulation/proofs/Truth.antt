-- Laws of truth values, and of lists that are cut where two of their parts meet.
use Rattle.std.specs.Prelude.{◌≡◌, ◌&&◌, ◌||◌, ◌∷◌, ◌++◌, ◌+◌}
use Rattle.kit.specs.Names.{refl, sym, Bool, true, false, and_assoc, List, [], append_assoc, ℕ, suc}
use Rattle.kit.specs.Names.{add-one, length, length-append}
use Rattle.definitions.specs.Basics.{all}

pub or_of_right : (a b : Bool) → b ≡ true → a || b ≡ true
or_of_right true b e = refl
or_of_right false b e = e

pub and_exchange : (p q r s t : Bool) → p && q && (r && s && t) ≡ p && r && (q && s) && t
and_exchange true true r s t = refl
and_exchange true false true s t = refl
and_exchange true false false s t = refl
and_exchange false q r s t = refl

module _ {A : Type 0} where
  pub all_append : (test : A → Bool) (l m : List A) → all test (l ++ m) ≡ all test l && all test m
  unfolding all
  all_append test [] m = refl
  all_append test (x ∷ l) m = rw (all_append test l m) (sym (and_assoc (test x) (all test l) (all test m)))

  -- Two parts between what stands before and after them.
  pub cut_first : (before first second after : List A) → before ++ ((first ++ second) ++ after) ≡ before ++ (first ++ (second ++ after))
  cut_first before first second after = rw append_assoc

  pub cut_second : (before first second after : List A) → before ++ ((first ++ second) ++ after) ≡ (before ++ first) ++ (second ++ after)
  cut_second before first second after = simp append_assoc

  -- Three parts.
  pub cut_first_of_three : (before a b c after : List A) → before ++ ((a ++ (b ++ c)) ++ after) ≡ before ++ (a ++ (b ++ (c ++ after)))
  cut_first_of_three before a b c after = simp append_assoc

  pub cut_second_of_three : (before a b c after : List A) → before ++ ((a ++ (b ++ c)) ++ after) ≡ (before ++ a) ++ (b ++ (c ++ after))
  cut_second_of_three before a b c after = simp append_assoc

  pub cut_third_of_three : (before a b c after : List A) → before ++ ((a ++ (b ++ c)) ++ after) ≡ ((before ++ a) ++ b) ++ (c ++ after)
  cut_third_of_three before a b c after = simp append_assoc

  pub length_with : {B : Type 0} (before part : List A) (like : List B) (i : ℕ) → length before ≡ i → length part ≡ length like
      → length (before ++ part) ≡ i + length like
  length_with before part like i e h = rw (length-append, e, h)

  pub length_with_one : (before : List A) (x : A) (i : ℕ) → length before ≡ i → length (before ++ (x ∷ [])) ≡ suc i
  length_with_one before x i e = rw (length-append, e) (add-one i)
