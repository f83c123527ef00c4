-- What the test of a number tells of the number.
use Rattle.std.specs.Prelude.{◌≡◌}
use Rattle.kit.specs.Names.{sym, ◌∙◌, Bool, true, false, not, ℕ, eqb-true, eqb-false, not-true, not-false}
use Rattle.definitions.specs.Basics.{is_zero}

module _ (number : ℕ) (refused : Bool) (tested : refused ≡ not (is_zero number)) where
  pub refuses : refused ≡ true → number ≡ 0 → ⊥
  refuses e = eqb-false number 0 (not-true (is_zero number) (sym tested ∙ e))

  pub accepts : refused ≡ false → number ≡ 0
  accepts e = eqb-true number 0 (not-false (is_zero number) (sym tested ∙ e))
