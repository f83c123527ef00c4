-- Lists of numbers among others, and the first sentence that holds.
use Rattle.std.specs.Prelude.{◌≡◌, ◌∷◌, ◌++◌}
use Rattle.kit.specs.Names.{refl, sym, ◌∙◌, Bool, true, false, not, cond, false≢true, List, [], map, ℕ, suc, arith, eqb}
use Rattle.definitions.specs.Basics.{any, flat_map, first_that_holds}
use Rattle.definitions.specs.Numbers.{fault}
use Rattle.theory_laws.proofs.Lists.{any_append}
use Rattle.theory_laws.proofs.GrowingLinks.{or_implied}
use Rattle.theory_nothing_lost.specs.Claims.{Among}

-- Where the one fact gives the other, its denial follows from the other's.
pub not_implied : (a b : Bool) → (a ≡ true → b ≡ true) → not b ≡ true → not a ≡ true
not_implied true b f h = absurd (false≢true (rw (f refl) at h))
not_implied false b f h = refl

pub among_itself : (few : List ℕ) → Among few few
among_itself few = record { each = λ n h. h }

pub among_append : (a b c d : List ℕ) → Among a c → Among b d → Among (a ++ b) (c ++ d)
among_append a b c d p q =
    record {
      each = λ n h.
          any_append (eqb n) c d
          ∙ or_implied (any (eqb n) a) (any (eqb n) b) (any (eqb n) c) (any (eqb n) d) (p.each n) (q.each n) (sym (any_append (eqb n) a b) ∙ h);
    }

pub among_fault : (holds held : Bool) (number : ℕ) → (holds ≡ true → held ≡ true) → Among (fault holds number) (fault held number)
unfolding any
among_fault true held number f = rw (f refl) (among_itself (number ∷ []))
among_fault false held number f = record { each = λ n h. absurd (false≢true h) }

pub among_flat_map : {A : Type 0} (F G : A → List ℕ) → ((x : A) → Among (F x) (G x)) → (xs : List A) → Among (flat_map F xs) (flat_map G xs)
unfolding flat_map
among_flat_map F G h [] = among_itself []
among_flat_map F G h (x ∷ xs) = among_append (F x) (flat_map F xs) (G x) (flat_map G xs) (h x) (among_flat_map F G h xs)

-- Sentences of which each holds only where the other list's does.
pub data Implied : List Bool → List Bool → Type 0 where
  nothing : Implied [] []
  one : {holds held : Bool} {more others : List Bool} → (holds ≡ true → held ≡ true) → Implied more others → Implied (holds ∷ more) (held ∷ others)

pub implied_sentences : (few many numbers : List ℕ) → Among few many
    → Implied (map (λ n. any (eqb n) few) numbers) (map (λ n. any (eqb n) many) numbers)
implied_sentences few many [] h = nothing
implied_sentences few many (n ∷ numbers) h = one (h.each n) (implied_sentences few many numbers h)

pub none_holds : {now before : List Bool} → Implied now before → (n : ℕ) → first_that_holds (suc n) before ≡ 0 → first_that_holds (suc n) now ≡ 0
unfolding first_that_holds
none_holds nothing n h = refl
none_holds (one {holds} {held} {more} {others} f rest) n h = go holds held f (none_holds rest (suc n)) h
  where
    go : (holds held : Bool) → (holds ≡ true → held ≡ true)
        → (first_that_holds (suc (suc n)) others ≡ 0 → first_that_holds (suc (suc n)) more ≡ 0)
        → cond held (suc n) (first_that_holds (suc (suc n)) others) ≡ 0 → cond holds (suc n) (first_that_holds (suc (suc n)) more) ≡ 0
    go true true f later h = h
    go true false f later h = absurd (false≢true (f refl))
    go false true f later h = absurd (suc_not_zero h)
      where
        suc_not_zero : {m : ℕ} → suc m ≡ 0 → ⊥
        suc_not_zero {m} e = omega (arith, e)
    go false false f later h = later h
