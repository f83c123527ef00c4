-- An output before and after something is written to its front, and how it is held against what is due.
use Rattle.std.specs.Prelude.{◌≡◌, ◌&&◌, ◌∷◌, ◌++◌, ◌+◌, ◌-◌, ◌<◌, ◌≤◌}
use Rattle.kit.specs.Names.{refl, ap, ap₂, sym, ◌∙◌, Bool, true, false, cond, List, [], append_assoc, ℕ, zero, suc}
use Rattle.kit.specs.Names.{arith, add-one, eqb, length, get_or, take, drop, length-append, length-drop, length-replicate}
use Rattle.kit.specs.Names.{replicate-append-replicate, drop-cons, drop_of_length-le, length-take-le, take-append-drop, eqb-true}
use Rattle.kit.specs.Names.{eq-eqb, ne_eqb}
use Rattle.test_shared.specs.Bytes.{same_bytes}
use Rattle.test_shared.proofs.Bytes.{same_itself, lengths_differ}
use Rattle.test_programs.specs.Outputs.{unwritten, output_with, is_answer}

pub unwritten_length : (n : ℕ) → length (unwritten n) ≡ n
unfolding unwritten
unwritten_length n = length-replicate n 170

pub unwritten_more : (m n : ℕ) → unwritten m ++ unwritten n ≡ unwritten (m + n)
unfolding unwritten
unwritten_more m n = replicate-append-replicate m n 170

pub drop_unwritten : (k n : ℕ) → drop k (unwritten n) ≡ unwritten (n - k)
unfolding unwritten
drop_unwritten zero n = let same : n ≡ n - 0 = omega arith in ap unwritten same
drop_unwritten (suc k) zero = let none : 0 ≡ 0 - suc k = omega arith in ap unwritten none
drop_unwritten (suc k) (suc n) = let fewer : n - k ≡ suc n - suc k = omega arith in drop_unwritten k n ∙ ap unwritten fewer

pub take_unwritten : (k n : ℕ) → k ≤ n → take k (unwritten n) ≡ unwritten k
unfolding unwritten
take_unwritten zero n h = refl
take_unwritten (suc k) zero h = absurd (omega arith)
take_unwritten (suc k) (suc n) h = ap (λ (l : List ℕ). 170 ∷ l) (take_unwritten k n (omega arith))

pub output_length : (bytes : List ℕ) (n : ℕ) → length (output_with bytes n) ≡ length bytes + (n - length bytes)
unfolding output_with
output_length bytes n =
    length-append bytes (unwritten (n - length bytes)) ∙ ap (λ (k : ℕ). length bytes + k) (unwritten_length (n - length bytes))

-- Bytes handed out to the front of an output that nothing is written to, or none.
pub handed : (b : Bool) (bytes : List ℕ) (n : ℕ) → cond b (bytes ++ drop (length bytes) (unwritten n)) (unwritten n) ≡ output_with (cond b bytes []) n
unfolding output_with
handed true bytes n = ap (λ (l : List ℕ). bytes ++ l) (drop_unwritten (length bytes) n)
handed false bytes n = let same : n ≡ n - 0 = omega arith in ap unwritten same

pub output_more : (bytes : List ℕ) (room n : ℕ) → length bytes ≤ room → room ≤ n → output_with bytes room ++ unwritten (n - room) ≡ output_with bytes n
unfolding output_with
output_more bytes room n fits inside =
    let all : (room - length bytes) + (n - room) ≡ n - length bytes = omega arith in
    append_assoc bytes (unwritten (room - length bytes)) (unwritten (n - room))
    ∙ ap (λ (l : List ℕ). bytes ++ l) (unwritten_more (room - length bytes) (n - room) ∙ ap unwritten all)

-- Whether nothing was written from a place on.
module _ (bytes : List ℕ) (i : ℕ) where
  abbrev pub left_unwritten : Bool
  left_unwritten = same_bytes (drop i bytes) (unwritten (length bytes - i))

  module _ (inside : i < length bytes) where
    unwritten_step : left_unwritten ≡ (eqb (get_or bytes i 0) 170 && same_bytes (drop (i + 1) bytes) (unwritten (length bytes - (i + 1))))
    unfolding same_bytes unwritten
    unwritten_step =
        let more : length bytes - i ≡ suc (length bytes - (i + 1)) = omega arith in
        rw (drop-cons bytes i 0 inside, more, add-one i)

    pub unwritten_seen : (seen : Bool) → ((seen && eqb (get_or bytes i 0) 170) && same_bytes (drop (i + 1) bytes) (unwritten (length bytes - (i + 1))))
        ≡ (seen && left_unwritten)
    unwritten_seen true = sym unwritten_step
    unwritten_seen false = refl

  pub unwritten_ends : length bytes ≤ i → (seen : Bool) → seen ≡ (seen && left_unwritten)
  unfolding unwritten
  unwritten_ends over true =
      let none : length bytes - i ≡ 0 = omega arith in
      rw (none, drop_of_length-le bytes over) (sym (same_itself []))
  unwritten_ends over false = refl

and_assoc : (s t u : Bool) → ((s && t) && u) ≡ (s && (t && u))
and_assoc true t u = refl
and_assoc false t u = refl

-- Two parts, each held against its own.
same_parts : (a b c d : List ℕ) → length a ≡ length c → same_bytes (a ++ b) (c ++ d) ≡ (same_bytes a c && same_bytes b d)
unfolding same_bytes
same_parts [] b [] d e = refl
same_parts [] b (n ∷ ns) d e = absurd (omega arith)
same_parts (m ∷ ms) b [] d e = absurd (omega arith)
same_parts (m ∷ ms) b (n ∷ ns) d e =
    ap (λ (t : Bool). eqb m n && t) (same_parts ms b ns d (omega arith)) ∙ sym (and_assoc (eqb m n) (same_bytes ms ns) (same_bytes b d))

module _ (out bytes : List ℕ) where
  pub holds_short : length out < length bytes → false ≡ same_bytes out (output_with bytes (length out))
  holds_short h = lengths_differ out (output_with bytes (length out)) (λ e. omega (arith, output_length bytes (length out)))

  -- The front against the bytes, and what is behind it against what stood there before.
  pub holds_parts : length bytes ≤ length out
      → same_bytes out (output_with bytes (length out)) ≡ (same_bytes (take (length bytes) out) bytes && same_bytes (drop (length bytes) out) (unwritten (length out - length bytes)))
  unfolding output_with
  holds_parts fits =
      ap (λ (l : List ℕ). same_bytes l (output_with bytes (length out))) (sym (take-append-drop (length bytes) out))
      ∙ same_parts (take (length bytes) out) (drop (length bytes) out) bytes (unwritten (length out - length bytes)) (length-take-le (length bytes) out fits)

  pub holds_both : (front rest : List ℕ) (a b : Bool) → length bytes ≤ length out → front ≡ take (length bytes) out → rest ≡ drop (length bytes) out
      → a ≡ same_bytes front bytes → b ≡ same_bytes rest (unwritten (length rest)) → (a && b) ≡ same_bytes out (output_with bytes (length out))
  holds_both front rest a b fits f r e h =
      let long : length rest ≡ length out - length bytes = ap length r ∙ length-drop (length bytes) out in
      ap₂ (λ (s t : Bool). s && t)
      (e ∙ ap (λ (l : List ℕ). same_bytes l bytes) f)
      (h ∙ ap₂ (λ (l : List ℕ) (n : ℕ). same_bytes l (unwritten n)) r long)
      ∙ sym (holds_parts fits)

-- What stands behind both does not matter where they are as long.
same_front : (a b rest : List ℕ) → length a ≡ length b → same_bytes (a ++ rest) (b ++ rest) ≡ same_bytes a b
unfolding same_bytes
same_front [] [] rest e = same_itself rest
same_front [] (n ∷ ns) rest e = absurd (omega arith)
same_front (m ∷ ms) [] rest e = absurd (omega arith)
same_front (m ∷ ms) (n ∷ ns) rest e = ap (λ (t : Bool). eqb m n && t) (same_front ms ns rest (omega arith))

module _ (n : ℕ) (a b : List ℕ) (fits : length a ≤ n) where
  given_long : length (output_with a n) ≡ n
  given_long = omega (arith, output_length a n)

  same_given : length a ≡ length b → same_bytes (output_with a n) (output_with b (length (output_with a n))) ≡ same_bytes a b
  unfolding output_with
  same_given e =
      ap (λ (k : ℕ). same_bytes (a ++ unwritten (n - length a)) (b ++ unwritten k)) (omega (arith, given_long))
      ∙ same_front a b (unwritten (n - length a)) e

  by_length : (t : Bool) → eqb (length a) (length b) ≡ t → (t && same_bytes (output_with a n) (output_with b (length (output_with a n)))) ≡ same_bytes a b
  by_length true e = same_given (eqb-true (length a) (length b) e)
  by_length false e = lengths_differ a b (λ h. false_true (sym e ∙ eq-eqb (length a) (length b) h))
    where
      false_true : false ≡ true → ⊥
      false_true p = let z : ◌≡◌ {A = ℕ} 0 1 = cc in omega arith

  -- Bytes that were given to the front of an output are those that are due where they are the same.
  given_is_due : (number due : ℕ) → is_answer number (length a) (output_with a n) due b ≡ (eqb number due && same_bytes a b)
  unfolding is_answer
  given_is_due number due = ap (λ (t : Bool). eqb number due && t) (by_length (eqb (length a) (length b)) refl)

  pub given_answer : (own due number long : ℕ) (out : List ℕ) (r : Bool) → number ≡ own → long ≡ length a → out ≡ output_with a n
      → r ≡ is_answer number long out due b → r ≡ (eqb own due && same_bytes a b)
  given_answer own due number long out r numbered counted left e =
      e ∙ ap (λ (m : ℕ). is_answer m long out due b) numbered ∙ ap (λ (m : ℕ). is_answer own m out due b) counted
      ∙ ap (λ (l : List ℕ). is_answer own (length a) l due b) left ∙ given_is_due own due

-- An answer, part by part.
module _ (number long due : ℕ) (out bytes : List ℕ) where
  pub other_number : (number ≡ due → ⊥) → false ≡ is_answer number long out due bytes
  unfolding is_answer
  other_number differs = rw (ne_eqb number due differs)

  pub other_length : number ≡ due → (long ≡ length bytes → ⊥) → false ≡ is_answer number long out due bytes
  unfolding is_answer
  other_length e differs = rw (eq-eqb number due e, ne_eqb long (length bytes) differs)

  pub held_answer : (r : Bool) → number ≡ due → long ≡ length bytes → r ≡ same_bytes out (output_with bytes (length out))
      → r ≡ is_answer number long out due bytes
  unfolding is_answer
  held_answer r e f h = rw (eq-eqb number due e, eq-eqb long (length bytes) f) h

pub not_both : {A : Type 0} (r : Bool) → r ≡ false → r ≡ true → A
not_both r e f = let z : ◌≡◌ {A = ℕ} 0 1 = cc in absurd (omega arith)
