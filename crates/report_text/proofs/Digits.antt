-- How a number's digits unfold.
use Rattle.std.specs.Prelude.{◌≡◌, ◌∷◌, ◌++◌, ◌+◌, ◌/◌, ◌%◌, ◌-◌, ◌<◌, ◌≤◌}
use Rattle.kit.specs.Names.{refl, ap, Bool, true, false, cond, List, [], ℕ, zero, suc, arith}
use Rattle.kit.specs.Names.{ltb, length, length-append, lt-ltb, le-ltb}
use Rattle.definitions.specs.Report.{digits}
use Rattle.memory_append.specs.Append.{Appended}
use Rattle.memory_append.proofs.Appending.{appended_nothing, appended_length, appended_then}

pub digits_none : (levels n : ℕ) → levels ≡ 0 → digits levels n ≡ []
unfolding digits
digits_none zero n h = refl
digits_none (suc levels) n h = absurd (omega arith)

pub digits_one : (levels n : ℕ) → 0 < levels → n < 10 → digits levels n ≡ (48 + n) ∷ []
unfolding digits
digits_one zero n h g = absurd (omega arith)
digits_one (suc levels) n h g = rw (lt-ltb n 10 g)

pub digits_more : (levels n : ℕ) → 0 < levels → 10 ≤ n → digits levels n ≡ digits (levels - 1) (n / 10) ++ ((48 + n % 10) ∷ [])
unfolding digits
digits_more zero n h g = absurd (omega arith)
digits_more (suc levels) n h g = let e : suc levels - 1 ≡ levels = omega arith in rw (le-ltb n 10 g, e)

pub digits_length : (levels n : ℕ) → length (digits levels n) ≤ levels
unfolding digits
digits_length zero n = omega arith
digits_length (suc levels) n = go (ltb n 10) (digits_length levels (n / 10))
  where
    go : (b : Bool) → length (digits levels (n / 10)) ≤ levels → length (cond b ((48 + n) ∷ []) (digits levels (n / 10) ++ ((48 + n % 10) ∷ []))) ≤ suc levels
    go true h = omega arith
    go false h = omega (arith, length-append (digits levels (n / 10)) ((48 + n % 10) ∷ []))

-- Room for a number's digits, and the digits appended.
module _ (levels n at : ℕ) where
  pub none_appended : (held : List ℕ) → levels ≡ 0 → Appended held held at (digits levels n) at
  none_appended held h = rw (digits_none levels n h) (appended_nothing held at)

  module _ (some : levels ≡ 0 → ⊥) where
    pub one_room : (most : ℕ) → n < 10 → at + length (digits levels n) ≤ most → at + 1 ≤ most
    one_room most g fits = let e = ap length (digits_one levels n (omega arith) g) in omega arith

    pub one_appended : (held after : List ℕ) (end : ℕ) → n < 10 → Appended held after at ((48 + n) ∷ []) end → Appended held after at (digits levels n) end
    one_appended held after end g a = rw (digits_one levels n (omega arith) g) a

    pub front_room : (most : ℕ) → 10 ≤ n → at + length (digits levels n) ≤ most → at + length (digits (levels - 1) (n / 10)) + 1 ≤ most
    front_room most g fits =
        let e = ap length (digits_more levels n (omega arith) g) in omega (arith, length-append (digits (levels - 1) (n / 10)) ((48 + n % 10) ∷ []))

    pub last_room : (held between : List ℕ) (middle : ℕ) → 10 ≤ n → at + length (digits levels n) ≤ length held
        → Appended held between at (digits (levels - 1) (n / 10)) middle → middle + 1 ≤ length between
    last_room held between middle g fits a =
        let room = front_room (length held) g fits in
        let same = appended_length held at between (digits (levels - 1) (n / 10)) middle a (omega arith) in
        let place = a.place in
        omega arith

    pub more_appended : (held between after : List ℕ) (middle end : ℕ) → 10 ≤ n → at + length (digits levels n) ≤ length held
        → Appended held between at (digits (levels - 1) (n / 10)) middle → Appended between after middle ((48 + n % 10) ∷ []) end → Appended held after at (digits levels n) end
    more_appended held between after middle end g fits a b =
        let room = front_room (length held) g fits in
        rw (digits_more levels n (omega arith) g) (appended_then held at between after (digits (levels - 1) (n / 10)) ((48 + n % 10) ∷ []) middle end a (omega arith) b)
