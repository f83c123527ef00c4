-- Number 18 of a call by its tests: a ledger that is not well formed, a caller above 15, a function that is not there.
use Rattle.std.specs.Prelude.{◌≡◌, ◌||◌, ◌<◌, ◌≤◌}
use Rattle.kit.specs.Names.{refl, ap, sym, ◌∙◌, Bool, true, false, not, ℕ, leb, ltb, length, lt-ltb, le-ltb}
use Rattle.kit.specs.Names.{leb-false}
use Rattle.definitions.specs.ContractFile.{function_count, contract_in}
use Rattle.definitions.specs.Ledger as ledger
use Rattle.definitions.specs.Ledger.{is_well_formed, not_callable}
use Rattle.theory_laws.proofs.TruthValues.{or_right}
use Rattle.file_accepted.proofs.Functions.{functions_count}

module _ (l : ledger.Ledger) (function caller : ℕ) where
  lacks : leb (length (contract_in l.file).functions) function ≡ leb (function_count l.file) function
  lacks = ap (λ (n : ℕ). leb n function) (functions_count l.file)

  pub not_well_formed : is_well_formed l ≡ false → true ≡ not_callable l function caller
  unfolding not_callable
  not_well_formed h = rw h refl

  pub caller_above : is_well_formed l ≡ true → 15 < caller → true ≡ not_callable l function caller
  unfolding not_callable
  caller_above h above = rw (h, lt-ltb 15 caller above) refl

  pub otherwise : (r : Bool) → is_well_formed l ≡ true → caller ≤ 15 → r ≡ leb (function_count l.file) function → r ≡ not_callable l function caller
  unfolding not_callable
  otherwise r h low same = rw (h, le-ltb 15 caller low) (same ∙ sym lacks)

  -- What is callable has its function.
  pub function_there : not_callable l function caller ≡ false → function < function_count l.file
  unfolding not_callable
  function_there h = leb-false (function_count l.file) function (sym lacks ∙ or_right (not (is_well_formed l) || ltb 15 caller) (leb (length (contract_in l.file).functions) function) h)
