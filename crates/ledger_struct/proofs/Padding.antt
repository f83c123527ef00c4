-- Laws of a list that is filled up: how a loop fills it, its front.
use Rattle.std.specs.Prelude.{◌≡◌, ◌∷◌, ◌++◌, ◌+◌, ◌-◌, ◌<◌, ◌≤◌}
use Rattle.kit.specs.Names.{refl, List, [], append_assoc, ℕ, suc, arith, add-one, length, get_or, set}
use Rattle.kit.specs.Names.{take, replicate, length-append, take-suc, set_at, take_at, length-take-le}
use Rattle.ledger_struct.specs.Whole.{padded}

pub padded_none : {A : Type 0} (n : ℕ) (a : A) → replicate n a ≡ padded n a []
unfolding padded
padded_none n a =
    let all : n - 0 ≡ n = omega arith in
    rw all

pub take_padded : {A : Type 0} (n : ℕ) (a : A) (l : List A) → take (length l) (padded n a l) ≡ l
unfolding padded
take_padded n a l = take_at l (replicate (n - length l) a) (length l) refl

-- One element more is put in its place.
pub padded_next : {A : Type 0} (n : ℕ) (a d : A) (l : List A) (i : ℕ) → i < length l → length l ≤ n
    → set (padded n a (take i l)) i (get_or l i d) ≡ padded n a (take (i + 1) l)
unfolding padded
padded_next n a d l i h k =
    let m : ℕ = n - (i + 1) in
    let front : length (take i l) ≡ i = length-take-le i l (omega arith) in
    let more : length (take (suc i) l) ≡ suc i = length-take-le (suc i) l (omega arith) in
    let rest : n - i ≡ suc m = omega arith in
    let rest' : n - suc i ≡ m = omega arith in
    rw (add-one, more, rest', front, rest, set_at (take i l) a (replicate m a) (get_or l i d) i front, take-suc l i d h, append_assoc)

-- One element more stands behind those that are there.
pub padded_more : {A : Type 0} (n : ℕ) (a x : A) (l : List A) → length l < n → set (padded n a l) (length l) x ≡ padded n a (l ++ (x ∷ []))
unfolding padded
padded_more n a x l h =
    let m : ℕ = n - (length l + 1) in
    let both = length-append l (x ∷ []) in
    let rest : n - length l ≡ suc m = omega arith in
    let rest' : n - length (l ++ (x ∷ [])) ≡ m = omega arith in
    rw (rest, rest', set_at l a (replicate m a) x (length l) refl, append_assoc)
