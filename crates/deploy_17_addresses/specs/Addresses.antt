-- 01, Numbers: number 17 by itself, before the file's own number is asked.
use Rattle.std.specs.Prelude.{◌∷◌}
use Rattle.kit.specs.Names.{List, [], ℕ}
use Rattle.definitions.specs.Basics.{first_that_holds}
use Rattle.definitions.specs.ContractFile.{contract_in}
use Rattle.definitions.specs.Ledger.{finals_off}

-- "17. Deployment gives other than one address, 0 to 15, for each final."
unfoldable pub addresses_number : List ℕ → List ℕ → ℕ
addresses_number file addresses = first_that_holds 17 (finals_off (contract_in file).fields addresses ∷ [])
