-- An operator by its code: the ten that are listed after the first, and the first for any other.
use Rattle.std.specs.Prelude.{◌≡◌, ◌&&◌, ◌||◌, ◌/◌, ◌%◌}
use Rattle.kit.specs.Names.{refl, sym, not, ℕ, zero, suc, div-zero, mod-zero, eqb, ne_eqb}
use Rattle.definitions.specs.Basics.{bit, is_true}
use Rattle.definitions.specs.ContractFile.{plus, operator_of}
use Rattle.definitions.specs.Original.{operate}

pub record Unlisted (code : ℕ) : Type 0 where
  pub minus : code ≡ 1 → ⊥
  pub times : code ≡ 2 → ⊥
  pub divide : code ≡ 3 → ⊥
  pub remainder : code ≡ 4 → ⊥
  pub less : code ≡ 5 → ⊥
  pub less_or_equal : code ≡ 6 → ⊥
  pub equal : code ≡ 7 → ⊥
  pub unequal : code ≡ 8 → ⊥
  pub conjunction : code ≡ 9 → ⊥
  pub disjunction : code ≡ 10 → ⊥

pub sum_is : (code : ℕ) → Unlisted code → operator_of code ≡ plus
sum_is zero u = refl
sum_is (suc zero) u = absurd (u.minus refl)
sum_is (suc (suc zero)) u = absurd (u.times refl)
sum_is (suc (suc (suc zero))) u = absurd (u.divide refl)
sum_is (suc (suc (suc (suc zero)))) u = absurd (u.remainder refl)
sum_is (suc (suc (suc (suc (suc zero))))) u = absurd (u.less refl)
sum_is (suc (suc (suc (suc (suc (suc zero)))))) u = absurd (u.less_or_equal refl)
sum_is (suc (suc (suc (suc (suc (suc (suc zero))))))) u = absurd (u.equal refl)
sum_is (suc (suc (suc (suc (suc (suc (suc (suc zero)))))))) u = absurd (u.unequal refl)
sum_is (suc (suc (suc (suc (suc (suc (suc (suc (suc zero))))))))) u = absurd (u.conjunction refl)
sum_is (suc (suc (suc (suc (suc (suc (suc (suc (suc (suc zero)))))))))) u = absurd (u.disjunction refl)
sum_is (suc (suc (suc (suc (suc (suc (suc (suc (suc (suc (suc code))))))))))) u = refl

pub by_code : (code k r left right : ℕ) → code ≡ k → r ≡ operate (operator_of k) left right → r ≡ operate (operator_of code) left right
by_code code k r left right e h = rw e h

pub by_other : (code r left right : ℕ) → Unlisted code → r ≡ operate plus left right → r ≡ operate (operator_of code) left right
by_other code r left right u h = rw (sum_is code u) h

pub both_none : (left right : ℕ) → left ≡ 0 → 0 ≡ bit (is_true left && is_true right)
both_none left right e = rw e

pub both_second : (left right r : ℕ) → (left ≡ 0 → ⊥) → r ≡ bit (not (eqb right 0)) → r ≡ bit (is_true left && is_true right)
both_second left right r h e = rw (ne_eqb left 0 h) e

pub either_second : (left right r : ℕ) → left ≡ 0 → r ≡ bit (not (eqb right 0)) → r ≡ bit (is_true left || is_true right)
either_second left right r h e = rw h e

pub either_first : (left right : ℕ) → (left ≡ 0 → ⊥) → 1 ≡ bit (is_true left || is_true right)
either_first left right h = rw (ne_eqb left 0 h)

pub div_by_zero : (left right : ℕ) → right ≡ 0 → 0 ≡ left / right
div_by_zero left right e = rw e (sym (div-zero left))

pub rest_by_zero : (left right : ℕ) → right ≡ 0 → left ≡ left % right
rest_by_zero left right e = rw e (sym (mod-zero left))
