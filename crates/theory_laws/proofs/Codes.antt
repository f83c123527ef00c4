-- Types, shapes, operators and owners by their codes.
use Rattle.std.specs.Prelude.{◌≡◌, ◌<◌, ◌≤◌}
use Rattle.kit.specs.Names.{refl, Bool, true, false, cond, false≢true, ℕ, zero, suc, arith, eqb, ltb-true, ne_eqb}
use Rattle.definitions.specs.ContractFile.{DataType, boolean, uint, address, plain_field, mapping, Owner, everyone, owned_by, data_type_code, is_final, is_everyone, is_division, data_type_of, shape_of, operator_of, is_of_type}

pub type_code : (code : ℕ) → code ≤ 2 → data_type_code (data_type_of code) ≡ code
type_code zero h = refl
type_code (suc zero) h = refl
type_code (suc (suc zero)) h = refl
type_code (suc (suc (suc n))) h = absurd (omega arith)

-- Every value of a type is a uint.
pub type_below : (t : DataType) (v : ℕ) → is_of_type t v ≡ true → v < 4294967296
type_below boolean v h = omega (arith, ltb-true v 2 h)
type_below uint v h = ltb-true v 4294967296 h
type_below address v h = omega (arith, ltb-true v 16 h)

pub not_final : (code : ℕ) → (code ≡ 1 → ⊥) → is_final (shape_of code) ≡ false
not_final code h = rw (ne_eqb code 1 h) (go (eqb code 0))
  where
    go : (b : Bool) → is_final (cond b plain_field mapping) ≡ false
    go true = refl
    go false = refl

-- Operators other than 3 and 4 are no division; a code above the table reads as 0.
pub other_operator : (code : ℕ) → (code ≡ 3 → ⊥) → (code ≡ 4 → ⊥) → is_division (operator_of code) ≡ false
other_operator zero h k = refl
other_operator (suc zero) h k = refl
other_operator (suc (suc zero)) h k = refl
other_operator (suc (suc (suc zero))) h k = absurd (h refl)
other_operator (suc (suc (suc (suc zero)))) h k = absurd (k refl)
other_operator (suc (suc (suc (suc (suc zero))))) h k = refl
other_operator (suc (suc (suc (suc (suc (suc zero)))))) h k = refl
other_operator (suc (suc (suc (suc (suc (suc (suc zero))))))) h k = refl
other_operator (suc (suc (suc (suc (suc (suc (suc (suc zero)))))))) h k = refl
other_operator (suc (suc (suc (suc (suc (suc (suc (suc (suc zero))))))))) h k = refl
other_operator (suc (suc (suc (suc (suc (suc (suc (suc (suc (suc zero)))))))))) h k = refl
other_operator (suc (suc (suc (suc (suc (suc (suc (suc (suc (suc (suc n))))))))))) h k = refl

pub everyone_is : (o : Owner) → is_everyone o ≡ true → o ≡ everyone
everyone_is everyone h = refl
everyone_is (owned_by n) h = absurd (false≢true h)
