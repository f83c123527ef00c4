-- Of all addresses the original asks the caller's alone, so any that agree on it give the same.
use Rattle.std.specs.Prelude.{◌≡◌}
use Rattle.kit.specs.Names.{refl, ap, ap₂, ◌∙◌, cond, List, ℕ, get_or, set}
use Rattle.definitions.specs.Basics.{is_true}
use Rattle.definitions.specs.ContractFile.{Name, me_name, Field, Expression, Statement}
use Rattle.definitions.specs.Original.{position, value, operate, negate, places_after}
use Rattle.file_accepted.specs.Context.{fields_in}
use Rattle.honest_values.specs.Values.{value_of, numbers_after}

module _ (fields : List Field) (a b : Name → ℕ) (same : a me_name ≡ b me_name) (arguments : List ℕ) where
  value_same : (places : List ℕ) (e : Expression) → value fields a arguments places e ≡ value fields b arguments places e
  unfolding value
  value_same places (Expression.constant t v) = refl
  value_same places Expression.me = same
  value_same places (Expression.field f) = refl
  value_same places (Expression.entry f key) = ap (λ (k : ℕ). get_or places (position fields f k) 0) (value_same places key)
  value_same places (Expression.parameter k) = refl
  value_same places (Expression.operator o left right) = ap₂ (operate o) (value_same places left) (value_same places right)
  value_same places (Expression.negation part) = ap negate (value_same places part)
  value_same places (Expression.reveal part o) = value_same places part

  either_same : (t u : ℕ) (x y z w : List ℕ) → t ≡ u → x ≡ z → y ≡ w → cond (is_true t) x y ≡ cond (is_true u) z w
  either_same t u x y z w e h k = rw (e, h, k)

  after_same : (places : List ℕ) (s : Statement) → places_after fields a arguments places s ≡ places_after fields b arguments places s
  unfolding places_after
  after_same places Statement.skip = refl
  after_same places (Statement.sequence first second) =
      ap (λ (p : List ℕ). places_after fields a arguments p second) (after_same places first) ∙ after_same (places_after fields b arguments places first) second
  after_same places (Statement.assign_field f e) = ap (set places (position fields f 0)) (value_same places e)
  after_same places (Statement.assign_entry f key e) =
      ap₂ (λ (k v : ℕ). set places (position fields f k) v) (value_same places key) (value_same places e)
  after_same places (Statement.require condition) = refl
  after_same places (Statement.conditional condition then else) =
      either_same (value fields a arguments places condition) (value fields b arguments places condition) _ _ _ _ (value_same places condition) (after_same places then) (after_same places else)

module _ (file : List ℕ) (address : Name → ℕ) (arguments : List ℕ) (caller : ℕ) (same : address me_name ≡ caller) (numbers : List ℕ) where
  pub value_is : (e : Expression) → value (fields_in file) address arguments numbers e ≡ value_of file arguments caller numbers e
  unfolding value_of
  value_is e = value_same (fields_in file) address (λ (n : Name). caller) same arguments numbers e

  pub numbers_are : (s : Statement) → places_after (fields_in file) address arguments numbers s ≡ numbers_after file arguments caller numbers s
  unfolding numbers_after
  numbers_are s = after_same (fields_in file) address (λ (n : Name). caller) same arguments numbers s
