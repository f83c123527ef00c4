-- "0 means accepted": of an accepted file no sentence holds.
use Rattle.std.specs.Prelude.{◌≡◌, ◌∷◌}
use Rattle.kit.specs.Names.{refl, Bool, true, false, List, [], ℕ, zero, suc, arith, get_or}
use Rattle.definitions.specs.Basics.{first_that_holds}
use Rattle.definitions.specs.Numbers.{check_number}
use Rattle.theory_accepted.specs.Settled.{sentences, Settled}

pub none_holds : (n : ℕ) (sentences : List Bool) → first_that_holds (suc n) sentences ≡ 0 → (j : ℕ) → get_or sentences j false ≡ false
unfolding first_that_holds
none_holds n [] h j = refl
none_holds n (true ∷ later) h j = absurd (omega arith)
none_holds n (false ∷ later) h zero = refl
none_holds n (false ∷ later) h (suc j) = none_holds (suc n) later h j

pub no_sentence_holds : (file : List ℕ) → check_number file ≡ 0 → (j : ℕ) → get_or (sentences file) j false ≡ false
unfolding check_number
no_sentence_holds file accepted = none_holds 0 (sentences file) accepted

pub accepted_settled : (file : List ℕ) → check_number file ≡ 0 → Settled file
accepted_settled file accepted =
    let no = no_sentence_holds file accepted in
    record { ends = no 0; counts = no 1; tables = no 2; numbers = no 3; uses = no 4; depth = no 5; sorts = no 6 }
