-- A number of one byte in decimal: one, two or three digits.
use Rattle.std.specs.Prelude.{◌≡◌, ◌∷◌, ◌++◌, ◌+◌, ◌/◌, ◌%◌, ◌<◌, ◌≤◌}
use Rattle.kit.specs.Names.{refl, ap, sym, ◌∙◌, Bool, true, false, List, [], ℕ, arith, ltb, length}
use Rattle.kit.specs.Names.{ltb-true, ltb-false}
use Rattle.definitions.specs.Report.{digits, decimal}
use Rattle.memory_append.specs.Append.{Appended}
use Rattle.memory_append.proofs.Appending.{appended_then}
use Rattle.report_text.proofs.Digits.{digits_one, digits_more}

pub decimal_one : (n : ℕ) → n < 10 → decimal n ≡ (48 + n) ∷ []
decimal_one n h = digits_one 20 n (omega arith) h

pub decimal_two : (n tenth : ℕ) → tenth ≡ n / 10 → 10 ≤ n → tenth < 10 → decimal n ≡ (48 + tenth) ∷ (48 + n % 10) ∷ []
decimal_two n tenth e h l =
    digits_more 20 n (omega arith) h ∙ ap (λ (ds : List ℕ). ds ++ ((48 + n % 10) ∷ [])) (ap (digits 19) (sym e) ∙ digits_one 19 tenth (omega arith) l)

pub decimal_three : (n tenth : ℕ) → tenth ≡ n / 10 → 10 ≤ tenth → tenth < 100 → n < 1000
    → decimal n ≡ (48 + tenth / 10) ∷ (48 + tenth % 10) ∷ (48 + n % 10) ∷ []
decimal_three n tenth e h l few =
    let front : digits 19 tenth ≡ (48 + tenth / 10) ∷ (48 + tenth % 10) ∷ [] =
    digits_more 19 tenth (omega arith) h ∙ ap (λ (ds : List ℕ). ds ++ ((48 + tenth % 10) ∷ [])) (digits_one 18 (tenth / 10) (omega arith) (omega arith)) in
    digits_more 20 n (omega arith) (omega arith) ∙ ap (λ (ds : List ℕ). ds ++ ((48 + n % 10) ∷ [])) (ap (digits 19) (sym e) ∙ front)

pub decimal_short : (n : ℕ) → n < 256 → length (decimal n) ≤ 3
decimal_short n few = go (ltb n 10) (ltb (n / 10) 10) refl refl
  where
    go : (a b : Bool) → ltb n 10 ≡ a → ltb (n / 10) 10 ≡ b → length (decimal n) ≤ 3
    go true b h k = omega (arith, ap length (decimal_one n (ltb-true n 10 h)))
    go false true h k = omega (arith, ap length (decimal_two n (n / 10) refl (ltb-false n 10 h) (ltb-true (n / 10) 10 k)))
    go false false h k = omega (arith, ap length (decimal_three n (n / 10) refl (ltb-false (n / 10) 10 k) (omega arith) (omega arith)))

module _ (held : List ℕ) (at : ℕ) (fits : at + 3 ≤ length held) where
  pub two_appended : (between after : List ℕ) (n tenth middle end : ℕ) → tenth ≡ n / 10 → 10 ≤ n → tenth < 10
      → Appended held between at ((48 + tenth) ∷ []) middle → Appended between after middle ((48 + n % 10) ∷ []) end → Appended held after at (decimal n) end
  two_appended between after n tenth middle end e h l a b =
      rw (decimal_two n tenth e h l) (appended_then held at between after ((48 + tenth) ∷ []) ((48 + n % 10) ∷ []) middle end a (omega arith) b)

  pub three_digits : (between later after : List ℕ) (n tenth middle next end : ℕ) → tenth ≡ n / 10 → 10 ≤ tenth → tenth < 100 → n < 1000
      → Appended held between at ((48 + tenth / 10) ∷ []) middle → Appended between later middle ((48 + tenth % 10) ∷ []) next
      → Appended later after next ((48 + n % 10) ∷ []) end → Appended held after at (decimal n) end
  three_digits between later after n tenth middle next end e h l few a b c =
      let front = (48 + tenth / 10) ∷ [] in
      let two = appended_then held at between later front ((48 + tenth % 10) ∷ []) middle next a (omega arith) b in
      rw (decimal_three n tenth e h l few) (appended_then held at later after (front ++ ((48 + tenth % 10) ∷ [])) ((48 + n % 10) ∷ []) next end two (omega arith) c)

pub one_appended : (held after : List ℕ) (at n end : ℕ) → n < 10 → Appended held after at ((48 + n) ∷ []) end → Appended held after at (decimal n) end
one_appended held after at n end h a = rw (decimal_one n h) a
