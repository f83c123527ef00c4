-- The contract and the calls at which the theorems are cited: one call is done, one is refused, one discloses, one fails.
use Rattle.std.specs.Prelude.{◌∷◌}
use Rattle.kit.specs.Names.{List, [], ℕ, take}
use Rattle.definitions.specs.Ledger.{Ledger}
use Rattle.definitions.specs.View.{Request, Run, run_at_deployment, run_after}
use Rattle.theory_demands.specs.Claims.{run_after_all}

-- Field 0 is a mapping with tags, to uint: each address owns its own entry. Field 1 is a public uint. Function 0 puts its private argument
-- into the caller's entry; in function 1 field 1 takes 10 divided by the caller's entry, which is revealed to all.
unfoldable pub tagged : List ℕ
tagged =
    2 ∷ 2 ∷ 1 ∷ 2 ∷ 0 ∷ 1 ∷ 0
    ∷ 2 ∷ 1 ∷ 1 ∷ 1 ∷ 2 ∷ 0 ∷ 0 ∷ 8 ∷ 0
    ∷ 9 ∷ 0
    ∷ 2 ∷ 0 ∷ 0 ∷ 0 ∷ 0 ∷ 0 ∷ 0 ∷ 0
    ∷ 5 ∷ 0 ∷ 0 ∷ 0 ∷ 0 ∷ 0 ∷ 0 ∷ 0
    ∷ 19 ∷ 0 ∷ 0 ∷ 0 ∷ 1 ∷ 0 ∷ 0 ∷ 0
    ∷ 2 ∷ 0 ∷ 0 ∷ 0 ∷ 0 ∷ 0 ∷ 0 ∷ 0
    ∷ 4 ∷ 0 ∷ 3 ∷ 0 ∷ 0 ∷ 0 ∷ 0 ∷ 0
    ∷ 8 ∷ 0 ∷ 4 ∷ 0 ∷ 0 ∷ 0 ∷ 0 ∷ 0
    ∷ 1 ∷ 1 ∷ 10 ∷ 0 ∷ 0 ∷ 0 ∷ 0 ∷ 0
    ∷ 6 ∷ 3 ∷ 6 ∷ 0 ∷ 5 ∷ 0 ∷ 0 ∷ 0
    ∷ 18 ∷ 1 ∷ 7 ∷ 0 ∷ 0 ∷ 0 ∷ 0 ∷ 0
    ∷ []

-- Address 3 pays in a secret; 16 is no address, so its call is refused; addresses 3 and 4 show their entries, and 4 has paid in nothing.
unfoldable pub pay : ℕ → Request
pay secret = record { function = 0; caller = 3; arguments = secret ∷ [] }

unfoldable pub refused : Request
refused = record { function = 0; caller = 16; arguments = 1 ∷ [] }

unfoldable pub show : ℕ → Request
show caller = record { function = 1; caller = caller; arguments = [] }

unfoldable pub calls : ℕ → List Request
calls secret = pay secret ∷ refused ∷ show 3 ∷ show 4 ∷ []

unfoldable pub start : Run
start = run_at_deployment tagged []

-- The run of secret 7 after its first so many calls.
abbrev pub after : ℕ → Run
after n = run_after_all start (take n (calls 7))

-- Its ledger after the third call, the one that discloses.
abbrev pub after_third : Ledger
after_third = (run_after (after 2) (show 3)).ledger
