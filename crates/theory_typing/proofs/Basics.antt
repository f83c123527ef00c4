-- Laws of truth values, lists and numbers that the theorems on typing share.
use Rattle.std.specs.Prelude.{◌≡◌, ◌&&◌, ◌∷◌, ◌++◌, ◌<◌}
use Rattle.kit.specs.Names.{refl, sym, ◌∙◌, Bool, true, false, not, true≢false, false≢true, List, [], ℕ, arith}
use Rattle.kit.specs.Names.{ltb-true}
use Rattle.definitions.specs.ContractFile.{address, is_of_type}
use Rattle.definitions.specs.Numbers.{fault}
use Rattle.theory_laws.proofs.TruthValues.{not_false_true}

pub and_right_false : (a b : Bool) → (a && b) ≡ false → a ≡ true → b ≡ false
and_right_false true b h p = h
and_right_false false b h p = absurd (false≢true p)

pub not_true_false : (b : Bool) → not b ≡ true → b ≡ false
not_true_false true h = sym h
not_true_false false h = refl

pub contradiction : {A : Type 0} (b : Bool) → b ≡ true → b ≡ false → A
contradiction b t f = absurd (true≢false (sym t ∙ f))

pub cons_not_empty : {A B : Type 0} (x : A) (xs : List A) → x ∷ xs ≡ [] → B
cons_not_empty x xs h = let z : ◌≡◌ {A = ℕ} 0 1 = cc in absurd (omega arith)

pub append_left_empty : {A : Type 0} (xs ys : List A) → xs ++ ys ≡ [] → xs ≡ []
append_left_empty [] ys h = refl
append_left_empty (x ∷ xs) ys h = cons_not_empty x (xs ++ ys) h

pub append_right_empty : {A : Type 0} (xs ys : List A) → xs ++ ys ≡ [] → ys ≡ []
append_right_empty [] ys h = h
append_right_empty (x ∷ xs) ys h = cons_not_empty x (xs ++ ys) h

-- Lists put together in a row that have nothing in them: none of them has.
module _ {A : Type 0} (a b : List A) where
  pub two_empty : a ++ b ≡ [] → (a ≡ []) × (b ≡ [])
  two_empty h = (append_left_empty a b h, append_right_empty a b h)

  pub three_empty : (c : List A) → a ++ b ++ c ≡ [] → (a ≡ []) × (b ≡ []) × (c ≡ [])
  three_empty c h = let r = two_empty (append_left_empty (a ++ b) c h) in (r.0, r.1, append_right_empty (a ++ b) c h)

  pub four_empty : (c d : List A) → a ++ b ++ c ++ d ≡ [] → (a ≡ []) × (b ≡ []) × (c ≡ []) × (d ≡ [])
  four_empty c d h = let r = three_empty c (append_left_empty (a ++ b ++ c) d h) in (r.0, r.1, r.2, append_right_empty (a ++ b ++ c) d h)

-- No fault: the sentence does not hold.
pub fault_none : (b : Bool) (n : ℕ) → fault b n ≡ [] → b ≡ false
fault_none true n h = cons_not_empty n [] h
fault_none false n h = refl

pub fault_none_not : (b : Bool) (n : ℕ) → fault (not b) n ≡ [] → b ≡ true
fault_none_not b n h = not_false_true b (fault_none (not b) n h)

pub address_below : (v : ℕ) → is_of_type address v ≡ true → v < 16
address_below v h = ltb-true v 16 h
