-- Numbers 18 to 20 of a call, by their tests.
use Rattle.std.specs.Prelude.{◌≡◌, ◌∷◌}
use Rattle.kit.specs.Names.{refl, ap, sym, ◌∙◌, Bool, true, false, List, [], ℕ, leb}
use Rattle.definitions.specs.Basics.{first_that_holds}
use Rattle.definitions.specs.Ledger as ledger
use Rattle.definitions.specs.Ledger.{not_callable, call_number}
use Rattle.file_accepted.specs.Context.{parameters_in}
use Rattle.file_accepted.specs.Functions.{function_start}
use Rattle.ledger_numbers.specs.Arguments.{arguments_off_for}
use Rattle.ledger_numbers.proofs.Arguments.{arguments_off_are}
use Rattle.call_18_callable.proofs.Callable.{function_there}

module _ (l : ledger.Ledger) (function caller : ℕ) where
  module _ (arguments : List ℕ) where
    pub eighteen : not_callable l function caller ≡ true → 18 ≡ call_number l function caller arguments
    unfolding call_number first_that_holds
    eighteen h = rw h refl

    -- The later sentences are asked of a call whose function stands in the ledger's file.
    pub later : (off : Bool) (n : ℕ) → not_callable l function caller ≡ false
        → off ≡ arguments_off_for (parameters_in l.file (function_start l.file function)) arguments
        → n ≡ first_that_holds 19 (off ∷ leb 65535 l.call ∷ []) → n ≡ call_number l function caller arguments
    unfolding call_number first_that_holds
    later off n there same e =
        e ∙ ap (λ (b : Bool). first_that_holds 19 (b ∷ leb 65535 l.call ∷ [])) (same ∙ arguments_off_are l function caller arguments (function_there l function caller there))
        ∙ sym (rw there refl)
