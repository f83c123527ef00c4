-- 02, Note 3: the total on the report.
use mathlib.Core.List.{List, [], ◌∷◌, ◌++◌}
use Prim.Native.Nat.{ℕ}
use lib.ListN.{replicate}
use Rattle.definitions.proofs.Cases.{Case, is_reported, is_refused_by}
use Rattle.definitions.proofs.Contracts.{choose}
use Rattle.definitions.proofs.Files.{joined, function, file, private_uint, skip}

-- "the line `function crossings`"
abbrev first_line : List ℕ
first_line =
    102 ∷ 117 ∷ 110 ∷ 99 ∷ 116 ∷ 105 ∷ 111 ∷ 110 ∷ 32
    ∷ 99 ∷ 114 ∷ 111 ∷ 115 ∷ 115 ∷ 105 ∷ 110 ∷ 103 ∷ 115 ∷ 10
    ∷ []

-- The line of a function whose number has these digits, and whose count this one.
abbrev line : List ℕ → ℕ → List ℕ
line number count = number ++ (32 ∷ count ∷ 10 ∷ [])

unfoldable pub total_cases : List Case
total_cases =
    -- "variables with origins 0 to 3": of origins 3, 0, 3, 4, 1, 4 the guards are not in the total.
    is_reported choose (first_line ++ line (48 ∷ []) 52 ++ (116 ∷ 111 ∷ 116 ∷ 97 ∷ 108 ∷ 32 ∷ 52 ∷ 10 ∷ []))
    -- "After the last line": of sixteen functions none is left out, be it the last one or the one whose line is the last.
    ∷ is_reported (file []
    (function (private_uint ∷ []) 0 ∷ function (private_uint ∷ []) 1 ∷ function (private_uint ∷ []) 2 ∷ function (private_uint ∷ []) 3
    ∷ function (private_uint ∷ []) 4 ∷ function (private_uint ∷ []) 5 ∷ function (private_uint ∷ []) 6 ∷ function (private_uint ∷ []) 7
    ∷ function (private_uint ∷ []) 8 ∷ function (private_uint ∷ []) 9 ∷ function (private_uint ∷ []) 10 ∷ function (private_uint ∷ []) 11
    ∷ function (private_uint ∷ []) 12 ∷ function (private_uint ∷ []) 13 ∷ function (private_uint ∷ []) 14
    ∷ function (private_uint ∷ private_uint ∷ []) 15 ∷ [])
    (replicate 16 skip))
    (joined (first_line ∷ line (49 ∷ 53 ∷ []) 50 ∷ line (48 ∷ []) 49 ∷ line (49 ∷ []) 49 ∷ line (50 ∷ []) 49 ∷ line (51 ∷ []) 49
    ∷ line (52 ∷ []) 49 ∷ line (53 ∷ []) 49 ∷ line (54 ∷ []) 49 ∷ line (55 ∷ []) 49 ∷ line (56 ∷ []) 49
    ∷ line (57 ∷ []) 49 ∷ line (49 ∷ 48 ∷ []) 49 ∷ line (49 ∷ 49 ∷ []) 49
    ∷ line (49 ∷ 50 ∷ []) 49 ∷ line (49 ∷ 51 ∷ []) 49 ∷ line (49 ∷ 52 ∷ []) 49
    ∷ (116 ∷ 111 ∷ 116 ∷ 97 ∷ 108 ∷ 32 ∷ 49 ∷ 55 ∷ 10 ∷ []) ∷ []))
    -- "a refused file prints no total"
    ∷ is_refused_by 15 (114 ∷ 101 ∷ 102 ∷ 117 ∷ 115 ∷ 101 ∷ 100 ∷ 32 ∷ 49 ∷ 53 ∷ 10 ∷ [])
    ∷ []
