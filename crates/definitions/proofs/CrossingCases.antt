-- 02, Note 2: each function's count of variables with origins 0 to 3, which writing hands back.
use mathlib.Core.List.{List, [], ◌∷◌, ◌++◌}
use Prim.Native.Nat.{ℕ}
use lib.ListN.{replicate}
use Rattle.definitions.proofs.Cases.{Case, hands_back}
use Rattle.definitions.proofs.Contracts.{file_a, choose}
use Rattle.definitions.proofs.Files.{function, file, uint_field, tagged_mapping, public_uint, private_uint, me, field_read}
use Rattle.definitions.proofs.Files.{entry_read, parameter_read, operator, skip, assign, assign_entry, contract}

-- Zeros, for functions that are not there.
abbrev none : ℕ → List ℕ
none n = replicate n 0

unfoldable pub crossing_cases : List Case
crossing_cases =
    -- File A: the private parameter's read among them. In a room one byte too short, nothing.
    hands_back file_a 128 (3 ∷ none 15)
    ∷ hands_back file_a 127 (none 16)
    -- "a refusal .. has 0": numbers 1 and 15.
    ∷ hands_back [] 49152 (none 16)
    ∷ hands_back (contract (parameter_read 0 ∷ assign 1 0 ∷ [])) 49152 (none 16)
    -- Origins 3, 0, 3, 4, 1, 4: a guard is not counted.
    ∷ hands_back choose 49152 (4 ∷ none 15)
    -- A read plain value, origin 2, is: the tagged entry takes its own value and the public field's together.
    ∷ hands_back (file (tagged_mapping ∷ uint_field ∷ []) (function [] 5 ∷ [])
    (me ∷ me ∷ entry_read 0 1 ∷ field_read 1 ∷ operator 0 2 3 ∷ assign_entry 0 0 4 ∷ [])) 49152 (3 ∷ none 15)
    -- Each function's own, in the functions' order: behind parameters, variables, keys and constraints the next one begins.
    ∷ hands_back (file (tagged_mapping ∷ [])
    (function [] 0 ∷ function (public_uint ∷ private_uint ∷ []) 6 ∷ function [] 7 ∷ function (private_uint ∷ []) 8 ∷ [])
    (skip ∷ me ∷ me ∷ entry_read 0 2 ∷ parameter_read 1 ∷ operator 0 3 4 ∷ assign_entry 0 1 5 ∷ skip ∷ skip ∷ []))
    49152 (0 ∷ 4 ∷ 0 ∷ 1 ∷ none 12)
    -- With sixteen functions none is missing.
    ∷ hands_back (file []
    (function [] 0 ∷ function [] 1 ∷ function [] 2 ∷ function [] 3 ∷ function [] 4 ∷ function [] 5 ∷ function [] 6 ∷ function [] 7
    ∷ function [] 8 ∷ function [] 9 ∷ function [] 10 ∷ function [] 11 ∷ function [] 12 ∷ function [] 13 ∷ function [] 14
    ∷ function (private_uint ∷ private_uint ∷ []) 15 ∷ [])
    (skip ∷ skip ∷ skip ∷ skip ∷ skip ∷ skip ∷ skip ∷ skip ∷ skip ∷ skip ∷ skip ∷ skip ∷ skip ∷ skip ∷ skip ∷ skip ∷ []))
    49152 (none 15 ++ (2 ∷ []))
    ∷ []
