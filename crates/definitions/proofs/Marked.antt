-- The marked cases of document 01, what it calls plausible and wrong, and further ones that pin its definitions: one table, one theorem.
use mathlib.Core.List.{List, [], ◌∷◌, ◌++◌, Memᴰ}
use lib.ListN.{take}
use Rattle.definitions.specs.Basics.{flat_map}
use Rattle.definitions.specs.ContractFile.{plus, minus, times, divide, remainder, less, less_or_equal, equal, unequal, conjunction}
use Rattle.definitions.specs.ContractFile.{disjunction}
use Rattle.definitions.proofs.Cases.{Case, has_number, has_section, is_written, is_reported, computes, Holds, all_pass, each_holds}
use Rattle.definitions.proofs.Contracts.{file_a, increment, require_one}
use Rattle.definitions.proofs.Files.{joined, file, function, tagged_mapping, private_uint, constant, me, field_read, entry_read}
use Rattle.definitions.proofs.Files.{parameter_read, operator, reveal, skip, sequence, assign, assign_entry, require, conditional}
use Rattle.definitions.proofs.Files.{contract, negations, chain}
use Rattle.definitions.proofs.NumberCases.{number_cases, limit_cases}
use Rattle.definitions.proofs.WrittenCases.{written_cases}
use Rattle.definitions.proofs.CrossingCases.{crossing_cases}
use Rattle.definitions.proofs.TotalCases.{total_cases}
use Rattle.definitions.proofs.LedgerCases.{opened_from, output_cases, ledger_cases}
use Rattle.definitions.proofs.ViewCases.{view_cases}
use Rattle.definitions.proofs.DisclosureCases.{disclosure_cases}

-- "Marked for proof"
pub marked : List Case
marked =
    -- File A, its number, its 128 bytes and its report.
    has_number file_a 0
    ∷ is_written file_a
    (2 ∷ 1 ∷ 2 ∷ 0 ∷ 0 ∷ 3 ∷ 16
    ∷ 1 ∷ 1 ∷ 3 ∷ 1
    ∷ 3 ∷ 0 ∷ 3 ∷ 1 ∷ 1 ∷ 16 ∷ 3 ∷ 1
    ∷ 1 ∷ 0 ∷ 16
    ∷ 2 ∷ 0 ∷ 0 ∷ 0 ∷ 0 ∷ 0 ∷ 255 ∷ 255 ∷ 0 ∷ 0 ∷ 1 ∷ 0 ∷ 0 ∷ 0
    ∷ 10 ∷ 0
    ∷ 11 ∷ 0
    ∷ 10 ∷ 0 ∷ 2 ∷ 0 ∷ 0 ∷ 0 ∷ 0 ∷ 0 ∷ 5 ∷ 0 ∷ 0 ∷ 0 ∷ 0 ∷ 0 ∷ 0 ∷ 0 ∷ 22 ∷ 0 ∷ 0 ∷ 0 ∷ 1 ∷ 0 ∷ 0 ∷ 0
    ∷ 5 ∷ 0 ∷ 0 ∷ 0 ∷ 0 ∷ 0 ∷ 0 ∷ 0 ∷ 22 ∷ 0 ∷ 2 ∷ 0 ∷ 3 ∷ 0 ∷ 0 ∷ 0 ∷ 9 ∷ 0 ∷ 1 ∷ 0 ∷ 0 ∷ 0 ∷ 0 ∷ 0
    ∷ 18 ∷ 1 ∷ 5 ∷ 0 ∷ 0 ∷ 0 ∷ 0 ∷ 0 ∷ 17 ∷ 0 ∷ 4 ∷ 0 ∷ 6 ∷ 0 ∷ 0 ∷ 0 ∷ 23 ∷ 0 ∷ 0 ∷ 0 ∷ 0 ∷ 0 ∷ 0 ∷ 0
    ∷ 17 ∷ 0 ∷ 7 ∷ 0 ∷ 8 ∷ 0 ∷ 0 ∷ 0 ∷ 17 ∷ 0 ∷ 2 ∷ 0 ∷ 9 ∷ 0 ∷ 0 ∷ 0
    ∷ [])
    ∷ is_reported file_a
    (102 ∷ 117 ∷ 110 ∷ 99 ∷ 116 ∷ 105 ∷ 111 ∷ 110 ∷ 32 ∷ 99 ∷ 114 ∷ 111 ∷ 115 ∷ 115 ∷ 105 ∷ 110 ∷ 103 ∷ 115 ∷ 10
    ∷ 48 ∷ 32 ∷ 51 ∷ 10
    ∷ 116 ∷ 111 ∷ 116 ∷ 97 ∷ 108 ∷ 32 ∷ 51 ∷ 10 ∷ [])
    -- "A less its last byte (1)"
    ∷ has_number (take 38 file_a) 1
    -- "the empty file (1)"
    ∷ has_number [] 1
    -- "`count` takes r (15), and accepted after require h == me"
    ∷ has_number (contract (parameter_read 0 ∷ assign 1 0 ∷ [])) 15
    ∷ has_number (contract (field_read 0 ∷ me ∷ operator 7 0 1 ∷ require 2 ∷ parameter_read 0 ∷ assign 1 4 ∷ sequence 3 5 ∷ [])) 0
    -- "reveal of 7 (13)"
    ∷ has_number (contract (constant 1 7 ∷ reveal 0 16 ∷ assign 1 1 ∷ [])) 13
    -- "`count` takes `count` + 1 (11, not 15), accepted after that require"
    ∷ has_number (contract (field_read 1 ∷ constant 1 1 ∷ operator 0 0 1 ∷ assign 1 2 ∷ [])) 11
    ∷ has_number increment 0
    -- "require r == 1 (14), accepted with the equality revealed to all"
    ∷ has_number (contract (parameter_read 0 ∷ constant 1 1 ∷ operator 7 0 1 ∷ require 2 ∷ [])) 14
    ∷ has_number require_one 0
    -- "r / 2 (12)"
    ∷ has_number (contract (parameter_read 0 ∷ constant 1 2 ∷ operator 3 0 1 ∷ assign 1 2 ∷ [])) 12
    -- "64 nodes deep accepted, 65 refused (6)"
    ∷ has_number (chain 64) 0
    ∷ has_number (chain 65) 6
    -- "4,294,967,295 + 1 = 0"
    ∷ computes plus 4294967295 1 0
    ∷ []

-- "Plausible and wrong", where it is about a number; sections, operators, the report.
pub pinned : List Case
pinned =
    -- "a link from inside a branch used after it": refused where one branch has it, and by 02, Note 1, right where both have it.
    has_number (contract (constant 0 1 ∷ field_read 0 ∷ me ∷ operator 7 1 2 ∷ require 3 ∷ skip ∷ conditional 0 4 5
    ∷ parameter_read 0 ∷ assign 1 7 ∷ sequence 6 8 ∷ [])) 15
    ∷ has_number (contract (constant 0 1 ∷ field_read 0 ∷ me ∷ operator 7 1 2 ∷ require 3 ∷ field_read 0 ∷ me ∷ operator 7 5 6 ∷ require 7
    ∷ conditional 0 4 8 ∷ parameter_read 0 ∷ assign 1 10 ∷ sequence 9 11 ∷ [])) 0
    -- "Each section, count included, is handed back on request as that part of the caller's file (0 fields, 1 functions, 2 nodes)."
    ∷ has_section file_a 0 (2 ∷ 1 ∷ 2 ∷ 0 ∷ 0 ∷ 1 ∷ 16 ∷ [])
    ∷ has_section file_a 1 (1 ∷ 1 ∷ 1 ∷ 1 ∷ 2 ∷ 0 ∷ [])
    ∷ has_section (file [] (function [] 0 ∷ []) (skip ∷ [])) 2 (1 ∷ 0 ∷ 16 ∷ 0 ∷ 0 ∷ 0 ∷ 0 ∷ 0 ∷ 0 ∷ 0 ∷ [])
    -- "for a section an empty part"
    ∷ has_section file_a 3 []
    ∷ has_section (take 38 file_a) 0 []
    -- "Operators: 0 +, 1 −, 2 ×, 3 /, 4 %, 5 <, 6 ≤, 7 ==, 8 !=, 9 and, 10 or."; "Uint arithmetic is modulo 4,294,967,296."
    ∷ computes minus 0 1 4294967295
    ∷ computes minus 9 2 7
    ∷ computes times 65537 65537 131073
    ∷ computes divide 17 5 3
    ∷ computes remainder 17 5 2
    ∷ computes less 4 5 1
    ∷ computes less 5 5 0
    ∷ computes less_or_equal 5 5 1
    ∷ computes less_or_equal 6 5 0
    ∷ computes equal 5 5 1
    ∷ computes equal 5 6 0
    ∷ computes unequal 5 6 1
    ∷ computes unequal 5 5 0
    ∷ computes conjunction 1 1 1
    ∷ computes conjunction 1 0 0
    ∷ computes disjunction 0 1 1
    ∷ computes disjunction 0 0 0
    -- "most first, ties by lower number"; "count of variables with origins 0 to 3": no guards.
    ∷ is_reported (file (tagged_mapping ∷ [])
    (function [] 0 ∷ function (private_uint ∷ []) 6 ∷ function [] 7 ∷ function (private_uint ∷ []) 13 ∷ [])
    (skip ∷ me ∷ me ∷ entry_read 0 2 ∷ parameter_read 0 ∷ operator 0 3 4 ∷ assign_entry 0 1 5
    ∷ skip ∷ me ∷ me ∷ entry_read 0 9 ∷ parameter_read 0 ∷ operator 0 10 11 ∷ assign_entry 0 8 12 ∷ []))
    (102 ∷ 117 ∷ 110 ∷ 99 ∷ 116 ∷ 105 ∷ 111 ∷ 110 ∷ 32 ∷ 99 ∷ 114 ∷ 111 ∷ 115 ∷ 115 ∷ 105 ∷ 110 ∷ 103 ∷ 115 ∷ 10
    ∷ 49 ∷ 32 ∷ 52 ∷ 10 ∷ 51 ∷ 32 ∷ 52 ∷ 10 ∷ 48 ∷ 32 ∷ 48 ∷ 10 ∷ 50 ∷ 32 ∷ 48 ∷ 10
    ∷ 116 ∷ 111 ∷ 116 ∷ 97 ∷ 108 ∷ 32 ∷ 56 ∷ 10 ∷ [])
    ∷ is_reported (contract (constant 0 1 ∷ skip ∷ skip ∷ conditional 0 1 2 ∷ []))
    (102 ∷ 117 ∷ 110 ∷ 99 ∷ 116 ∷ 105 ∷ 111 ∷ 110 ∷ 32 ∷ 99 ∷ 114 ∷ 111 ∷ 115 ∷ 115 ∷ 105 ∷ 110 ∷ 103 ∷ 115 ∷ 10
    ∷ 48 ∷ 32 ∷ 49 ∷ 10
    ∷ 116 ∷ 111 ∷ 116 ∷ 97 ∷ 108 ∷ 32 ∷ 49 ∷ 10 ∷ [])
    ∷ []

-- What takes longest to compute stands last, so that a definition that an early case refuses is refused early.
pub table : List Case
table = pinned ++ number_cases ++ written_cases ++ crossing_cases ++ total_cases ++ output_cases ++ ledger_cases ++ view_cases ++ disclosure_cases ++ limit_cases ++ marked

pub every_case_holds : (c : Case) → Memᴰ c table → Holds c
unfolding all_pass table marked pinned number_cases limit_cases written_cases crossing_cases total_cases output_cases ledger_cases view_cases disclosure_cases joined negations opened_from flat_map
every_case_holds c m = each_holds table tt c m
