-- Two runs side by side. A run has a Boolean, whether it completes, and the list of what it discloses.
use Rattle.std.specs.Prelude.{◌≡◌, ◌&&◌, ◌∷◌, ◌++◌}
use Rattle.kit.specs.Names.{refl, Bool, true, false, cond, false≢true, true≢false, List, [], append_assoc, append-nil}
use Rattle.kit.specs.Names.{ℕ}

-- Where the disclosed lists agree, with whatever follows them, both runs complete or neither does; if they do, what follows
-- agrees and the outcome holds.
pub record SideBySide (completes completes' : Bool) (disclosed disclosed' : List ℕ) (Outcome : Type 0) : Type 0 where
  pub by : (rest rest' : List ℕ) → disclosed ++ rest ≡ disclosed' ++ rest' → (completes ≡ completes') × (completes ≡ true → (rest ≡ rest') × Outcome)

pub both_complete : {Outcome : Type 0} → Outcome → SideBySide true true [] [] Outcome
both_complete q = record { by = λ r r' e. (refl, λ _. (e, q)) }

pub with_outcome : {s s' : Bool} {d d' : List ℕ} {Outcome Outcome' : Type 0} → SideBySide s s' d d' Outcome → (Outcome → Outcome') → SideBySide s s' d d' Outcome'
with_outcome m f = record { by = λ r r' e. let h = m.by r r' e in (h.0, λ t. let k = h.1 t in (k.0, f k.1)) }

-- One part after the other; the second counts only where the first completes.
pub one_after_other : {s s' t t' : Bool} {d d' e e' : List ℕ} {First Second : Type 0} → SideBySide s s' d d' First → (First → SideBySide t t' e e' Second)
    → SideBySide (s && t) (s' && t') (d ++ cond s e []) (d' ++ cond s' e' []) (First × Second)
one_after_other {s = true} {s' = true} {d = d} {d'} {e} {e'} m n =
    record {
      by = λ r r' z.
          let h = (m.by (e ++ r) (e' ++ r') (simp append_assoc at z)).1 refl in
          let k = (n h.1).by r r' h.0 in
          (k.0, λ t. let l = k.1 t in (l.0, (h.1, l.1)));
    }
one_after_other {s = true} {s' = false} {d = d} {d'} {e} m n =
    record { by = λ r r' z. absurd (true≢false (m.by (e ++ r) r' (simp (append_assoc, append-nil) at z)).0) }
one_after_other {s = false} {s' = true} {d = d} {d'} {e' = e'} m n =
    record { by = λ r r' z. absurd (false≢true (m.by r (e' ++ r') (simp (append_assoc, append-nil) at z)).0) }
one_after_other {s = false} {s' = false} m n = record { by = λ r r' z. (refl, λ t. absurd (false≢true t)) }

-- A further test that discloses nothing.
pub with_test : {s s' t t' : Bool} {d d' : List ℕ} {Outcome : Type 0} → SideBySide s s' d d' Outcome → (Outcome → t ≡ t')
    → SideBySide (s && t) (s' && t') d d' (Outcome × (t ≡ true))
with_test {s = true} {s' = true} m n = record { by = λ r r' z. let h = (m.by r r' z).1 refl in (n h.1, λ t. (h.0, (h.1, t))) }
with_test {s = true} {s' = false} m n = record { by = λ r r' z. absurd (true≢false (m.by r r' z).0) }
with_test {s = false} {s' = true} m n = record { by = λ r r' z. absurd (false≢true (m.by r r' z).0) }
with_test {s = false} {s' = false} m n = record { by = λ r r' z. (refl, λ t. absurd (false≢true t)) }

-- A value that is disclosed where the party may read it.
pub with_value : {s s' : Bool} {d d' : List ℕ} {Outcome : Type 0} (is_read : Bool) (x x' : ℕ) → SideBySide s s' d d' Outcome
    → SideBySide s s' (d ++ cond (s && is_read) (x ∷ []) []) (d' ++ cond (s' && is_read) (x' ∷ []) []) (Outcome × (is_read ≡ true → x ≡ x'))
with_value {s = true} {s' = true} {d} {d'} true x x' m =
    record { by = λ r r' z. let h = (m.by (x ∷ r) (x' ∷ r') (simp append_assoc at z)).1 refl in (refl, λ t. let e = h.0 in (cc, (h.1, λ _. cc))) }
with_value {s = true} {s' = true} {d} {d'} false x x' m =
    record { by = λ r r' z. let h = (m.by r r' (simp append-nil at z)).1 refl in (refl, λ t. (h.0, (h.1, λ w. absurd (false≢true w)))) }
with_value {s = true} {s' = false} {d} {d'} is_read x x' m =
    record { by = λ r r' z. absurd (true≢false (m.by (cond is_read (x ∷ []) [] ++ r) r' (simp (append_assoc, append-nil) at z)).0) }
with_value {s = false} {s' = true} {d} {d'} is_read x x' m =
    record { by = λ r r' z. absurd (false≢true (m.by r (cond is_read (x' ∷ []) [] ++ r') (simp (append_assoc, append-nil) at z)).0) }
with_value {s = false} {s' = false} {d} {d'} is_read x x' m = record { by = λ r r' z. (refl, λ t. absurd (false≢true t)) }

-- One of two parts, by a test that both runs agree on.
pub one_of_two : {s s' t t' : Bool} {d d' e e' : List ℕ} {First Second : Type 0} (b b' : Bool) → b ≡ b' → (b ≡ true → SideBySide s s' d d' First)
    → SideBySide t t' e e' Second
    → SideBySide (cond b s t) (cond b' s' t') (cond b d e) (cond b' d' e') (cond b First Second)
one_of_two true true h m n = m refl
one_of_two true false h m n = absurd (true≢false h)
one_of_two false true h m n = absurd (false≢true h)
one_of_two false false h m n = n
