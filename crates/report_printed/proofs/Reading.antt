-- Lines and decimal numbers read back are those that were printed.
use Rattle.std.specs.Prelude.{◌≡◌, ◌∷◌, ◌++◌, ◌+◌, ◌*◌, ◌-◌, ◌/◌, ◌%◌, ◌^◌, ◌<◌, ◌≤◌}
use Rattle.kit.specs.Names.{refl, ap, sym, ◌∙◌, Bool, true, false, cond, List, [], map, append_assoc, append-nil, ℕ, zero}
use Rattle.kit.specs.Names.{suc, arith, ltb, ltb-true, ne_eqb}
use Rattle.definitions.specs.Basics.{all, flat_map}
use Rattle.definitions.specs.Report.{Tally, digits, decimal, tally_line}
use Rattle.theory_laws.proofs.TruthValues.{and_left, and_right}
use Rattle.report_printed.specs.Printed.{in_front, lines_of, value_behind, behind_space, number_in}

-- Every byte is above one.
unfoldable pub Above : ℕ → List ℕ → Type 0
Above least [] = Unit {0}
Above least (byte ∷ bytes) = (least < byte) × Above least bytes

above_append : (least : ℕ) (a b : List ℕ) → Above least a → Above least b → Above least (a ++ b)
unfolding Above
above_append least [] b h g = g
above_append least (byte ∷ a) b h g = (h.0, above_append least a b h.1 g)

above_less : (least less : ℕ) (bytes : List ℕ) → less ≤ least → Above least bytes → Above less bytes
unfolding Above
above_less least less [] l h = h
above_less least less (byte ∷ bytes) l h = (omega (arith, h.0), above_less least less bytes l h.1)

pub above_all : (least : ℕ) (bytes : List ℕ) → all (ltb least) bytes ≡ true → Above least bytes
unfolding all Above
above_all least [] h = tt
above_all least (byte ∷ bytes) h = (ltb-true least byte (and_left (ltb least byte) _ h), above_all least bytes (and_right (ltb least byte) _ h))

-- A line that ends in a line feed is the text's first.
pub line_read : (line rest : List ℕ) → Above 31 line → lines_of (line ++ (10 ∷ []) ++ rest) ≡ line ∷ lines_of rest
unfolding lines_of Above
line_read [] rest h = refl
line_read (byte ∷ line) rest h =
    let more = ne_eqb byte 10 (λ e. omega (arith, h.0)) in
    ap (λ (b : Bool). cond b ([] ∷ lines_of (line ++ (10 ∷ []) ++ rest)) (in_front byte (lines_of (line ++ (10 ∷ []) ++ rest)))) more
    ∙ ap (in_front byte) (line_read line rest h.1)

-- Digits.
digits_above : (levels n : ℕ) → Above 47 (digits levels n)
unfolding digits Above
digits_above zero n = tt
digits_above (suc levels) n = go (ltb n 10) (digits_above levels (n / 10))
  where
    go : (few : Bool) → Above 47 (digits levels (n / 10)) → Above 47 (cond few ((48 + n) ∷ []) (digits levels (n / 10) ++ ((48 + n % 10) ∷ [])))
    go true h = (omega arith, tt)
    go false h = above_append 47 (digits levels (n / 10)) ((48 + n % 10) ∷ []) h (omega arith, tt)

value_last : (before : ℕ) (front : List ℕ) (digit : ℕ) → value_behind before (front ++ (digit ∷ [])) ≡ 10 * value_behind before front + (digit - 48)
unfolding value_behind
value_last before [] digit = refl
value_last before (first ∷ front) digit = value_last (10 * before + (first - 48)) front digit

-- A number that has no more digits than there are levels.
pub digits_read : (levels n : ℕ) → n < 10 ^ levels → value_behind 0 (digits levels n) ≡ n
unfolding value_behind digits
digits_read zero n few = omega arith
digits_read (suc levels) n few = go (ltb n 10) refl (digits_read levels (n / 10) (omega arith))
  where
    go : (b : Bool) → ltb n 10 ≡ b → value_behind 0 (digits levels (n / 10)) ≡ n / 10 → value_behind 0 (cond b ((48 + n) ∷ []) (digits levels (n / 10) ++ ((48 + n % 10) ∷ []))) ≡ n
    go true e h = omega arith
    go false e h = omega (arith, value_last 0 (digits levels (n / 10)) (48 + n % 10))

space_passed : (front rest : List ℕ) → Above 47 front → behind_space (front ++ (32 ∷ rest)) ≡ rest
unfolding behind_space Above
space_passed [] rest h = refl
space_passed (byte ∷ front) rest h =
    let more = ne_eqb byte 32 (λ e. omega (arith, h.0)) in
    ap (λ (b : Bool). cond b (front ++ (32 ∷ rest)) (behind_space (front ++ (32 ∷ rest)))) more ∙ space_passed front rest h.1

-- A function's line without its end, and the number in it.
abbrev pub line_of : Tally → List ℕ
line_of t = decimal t.function ++ (32 ∷ decimal t.count)

line_above : (t : Tally) → Above 31 (line_of t)
unfolding Above
line_above t =
    above_append 31 (decimal t.function) (32 ∷ decimal t.count) (above_less 47 31 (decimal t.function) (omega arith) (digits_above 20 t.function))
    (omega arith, above_less 47 31 (decimal t.count) (omega arith) (digits_above 20 t.count))

pub count_read : (t : Tally) → t.count < 10 ^ 20 → number_in (line_of t) ≡ t.count
count_read t few =
    ap (value_behind 0) (space_passed (decimal t.function) (decimal t.count) (digits_above 20 t.function)) ∙ digits_read 20 t.count few

-- The lines of some functions, and what follows them.
pub lines_read : (ts : List Tally) (rest : List ℕ) → lines_of (flat_map tally_line ts ++ rest) ≡ map line_of ts ++ lines_of rest
unfolding flat_map
lines_read [] rest = refl
lines_read (t ∷ ts) rest =
    ap lines_of (append_assoc (tally_line t) (flat_map tally_line ts) rest)
    ∙ line_read (line_of t) (flat_map tally_line ts ++ rest) (line_above t)
    ∙ ap (λ (ls : List (List ℕ)). line_of t ∷ ls) (lines_read ts rest)

-- A word and a number.
pub word_read : (word : List ℕ) (n : ℕ) → Above 31 word → lines_of (word ++ decimal n ++ (10 ∷ [])) ≡ (word ++ decimal n) ∷ []
unfolding lines_of
word_read word n h =
    let whole = append-nil (word ++ decimal n ++ (10 ∷ [])) in
    ap lines_of (sym whole) ∙ line_read (word ++ decimal n) [] (above_append 31 word (decimal n) h (above_less 47 31 (decimal n) (omega arith) (digits_above 20 n)))
