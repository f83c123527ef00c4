-- The sentences of a check by their places, and a contract file that numbers 1 to 7 let pass.
use Rattle.std.specs.Prelude.{◌≡◌, ◌∷◌}
use Rattle.kit.specs.Names.{Bool, false, List, ℕ}
use Rattle.definitions.specs.ContractFile.{sections_of, contract_of}
use Rattle.definitions.specs.Numbers.{ends_wrongly, count_off_limits, outside_tables, names_nothing, used_other_than_once, too_deep, wrong_sort}
use Rattle.definitions.specs.Numbers.{contract_sentences}

-- Number n stands at n - 1.
abbrev pub sentences : List ℕ → List Bool
sentences file =
    let s = sections_of file in
    ends_wrongly file
    ∷ count_off_limits file
    ∷ outside_tables s
    ∷ names_nothing s
    ∷ used_other_than_once s
    ∷ too_deep s
    ∷ wrong_sort s
    ∷ contract_sentences (contract_of s)

pub record Settled (file : List ℕ) : Type 0 where
  pub ends : ends_wrongly file ≡ false
  pub counts : count_off_limits file ≡ false
  pub tables : outside_tables (sections_of file) ≡ false
  pub numbers : names_nothing (sections_of file) ≡ false
  pub uses : used_other_than_once (sections_of file) ≡ false
  pub depth : too_deep (sections_of file) ≡ false
  pub sorts : wrong_sort (sections_of file) ≡ false
