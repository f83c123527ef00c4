-- 01, Numbers 16 to 21: lent outputs that are too short and what they hold afterwards; deployments, calls and views that are refused.
use mathlib.Core.List.{List, [], ◌∷◌, ◌++◌}
use mathlib.Core.Bool.{cond}
use Prim.Native.Nat.{ℕ, zero, suc}
use lib.Dec.{eqb}
use lib.ListN.{replicate}
use Rattle.definitions.specs.Ledger.{Content, plain, cell, Ledger}
use Rattle.definitions.proofs.Cases.{Case, writes, reports, has_deploy_number, has_call_number, looks, tells}
use Rattle.definitions.proofs.Contracts.{file_a, bank, reveal_around_require, request}
use Rattle.definitions.proofs.Files.{file, function, public_bool, private_bool, skip}

abbrev cell_of : ℕ → ℕ → ℕ → ℕ → Content
cell_of owner call index value = cell (record { owner = owner; call = call; index = index; value = value })

abbrev ledger : List ℕ → ℕ → ℕ → ℕ → ℕ → List Content → List Content → List Content → Ledger
ledger bytes call function caller outcome parameters variables places = record {
  file = bytes;
  call = call;
  function = function;
  caller = caller;
  outcome = outcome;
  parameters = parameters;
  variables = variables;
  places = places;
}

-- File A with h at address 5: its places, before any call, after a done one by address 3, after a failed one.
abbrev places_of_a : List Content
places_of_a = plain 5 ∷ cell_of 5 0 0 0 ∷ []

abbrev before_calls : List Content → Ledger
before_calls places = ledger file_a 0 0 0 0 [] [] places

abbrev after_done : List Content → List Content → Ledger
after_done parameters variables = ledger file_a 1 0 3 0 parameters variables places_of_a

abbrev argument_of_a : Content
argument_of_a = cell_of 3 1 0 7

abbrev variables_of_a : List Content
variables_of_a = cell_of 3 1 0 7 ∷ cell_of 5 1 9 7 ∷ cell_of 3 1 0 7 ∷ []

-- A function with a public and a private bool, and one that does nothing, so that every call of it is done.
abbrev bools : List ℕ
bools = file [] (function (public_bool ∷ private_bool ∷ []) 0 ∷ []) (skip ∷ [])

abbrev nothing : List ℕ
nothing = file [] (function [] 0 ∷ []) (skip ∷ [])

-- The bank's places where one address owns a value.
unfoldable pub opened_from : ℕ → ℕ → ℕ → ℕ → List Content
opened_from zero address owner value = []
opened_from (suc more) address owner value =
    cell_of address 0 0 (cond (eqb address owner) value 0) ∷ opened_from more (suc address) owner value

abbrev opened_at : ℕ → ℕ → List Content
opened_at owner value = opened_from 16 0 owner value

-- What is written and reported of the file that does nothing.
abbrev nothing_written : List ℕ
nothing_written = 0 ∷ 1 ∷ 0 ∷ 0 ∷ 0 ∷ 0 ∷ 0 ∷ 0 ∷ 0 ∷ 0 ∷ 0 ∷ 1 ∷ 0 ∷ 16 ∷ 0 ∷ 0 ∷ 0 ∷ 0 ∷ 0 ∷ 0 ∷ 0 ∷ []

abbrev nothing_reported : List ℕ
nothing_reported =
    102 ∷ 117 ∷ 110 ∷ 99 ∷ 116 ∷ 105 ∷ 111 ∷ 110 ∷ 32 ∷ 99 ∷ 114 ∷ 111 ∷ 115 ∷ 115 ∷ 105 ∷ 110 ∷ 103 ∷ 115 ∷ 10
    ∷ 48 ∷ 32 ∷ 48 ∷ 10
    ∷ 116 ∷ 111 ∷ 116 ∷ 97 ∷ 108 ∷ 32 ∷ 48 ∷ 10 ∷ []

-- "A refusal returns it with length 0 ..; lent memory and ledger keep their contents. An accepted request changes only the output bytes
-- that its length covers, and its ledger."
unfoldable pub output_cases : List Case
output_cases =
    -- "16. The lent output is too short": by one byte; the file's own number goes before it.
    writes nothing (replicate 20 9) 16 0 (replicate 20 9)
    ∷ writes nothing (replicate 21 9) 0 21 nothing_written
    ∷ writes nothing (replicate 23 9) 0 21 (nothing_written ++ (9 ∷ 9 ∷ []))
    ∷ writes [] (9 ∷ []) 1 0 (9 ∷ [])
    -- A report refuses as writing does, and prints nothing itself.
    ∷ reports nothing (replicate 30 9) 16 0 (replicate 30 9)
    ∷ reports nothing (replicate 32 9) 0 31 (nothing_reported ++ (9 ∷ []))
    ∷ reports [] (replicate 40 9) 1 0 (replicate 40 9)
    ∷ []

unfoldable pub ledger_cases : List Case
ledger_cases =
    -- "17. Deployment gives other than one address, 0 to 15, for each final."; "deployment 1 to 15 and 17"
    has_deploy_number file_a (15 ∷ []) 0
    ∷ has_deploy_number file_a [] 17
    ∷ has_deploy_number file_a (5 ∷ 5 ∷ []) 17
    ∷ has_deploy_number file_a (16 ∷ []) 17
    ∷ has_deploy_number [] (16 ∷ []) 1
    -- "or a caller is above 15, or the function doesn't exist"
    ∷ has_call_number (before_calls places_of_a) (request 0 15 (7 ∷ [])) 0
    ∷ has_call_number (before_calls places_of_a) (request 0 16 (7 ∷ [])) 18
    ∷ has_call_number (before_calls places_of_a) (request 1 3 (7 ∷ [])) 18
    -- "18. The ledger isn't well formed (its own file passes 1 to 15, its finals 17 ..": another file, a final above 15.
    ∷ has_call_number (ledger [] 0 0 0 0 [] [] places_of_a) (request 0 3 (7 ∷ [])) 18
    ∷ has_call_number (before_calls (plain 16 ∷ cell_of 5 0 0 0 ∷ [])) (request 0 3 (7 ∷ [])) 18
    -- "its last call is zero": function, caller and outcome with it, and no items but places.
    ∷ has_call_number (ledger file_a 0 0 3 0 [] [] places_of_a) (request 0 3 (7 ∷ [])) 18
    ∷ has_call_number (ledger file_a 0 0 0 1 [] [] places_of_a) (request 0 3 (7 ∷ [])) 18
    ∷ has_call_number (ledger file_a 0 0 0 0 (argument_of_a ∷ []) [] places_of_a) (request 0 3 (7 ∷ [])) 18
    -- "or a possible one": a function that exists, a caller up to 15, outcome 0 or 1, call up to 65,535.
    ∷ has_call_number (after_done (argument_of_a ∷ []) variables_of_a) (request 0 3 (7 ∷ [])) 0
    ∷ has_call_number (ledger file_a 1 1 3 0 (argument_of_a ∷ []) variables_of_a places_of_a) (request 0 3 (7 ∷ [])) 18
    ∷ has_call_number (ledger file_a 1 0 16 1 [] [] places_of_a) (request 0 3 (7 ∷ [])) 18
    ∷ has_call_number (ledger file_a 1 0 3 2 [] [] places_of_a) (request 0 3 (7 ∷ [])) 18
    ∷ has_call_number (ledger nothing 65536 0 3 0 [] [] []) (request 0 3 []) 18
    -- "each item of its view has the type, and is plain or a cell of the owner address, that the file asks": places.
    ∷ has_call_number (before_calls (plain 5 ∷ [])) (request 0 3 (7 ∷ [])) 18
    ∷ has_call_number (before_calls (plain 5 ∷ cell_of 5 0 0 0 ∷ plain 0 ∷ [])) (request 0 3 (7 ∷ [])) 18
    ∷ has_call_number (before_calls (plain 5 ∷ plain 0 ∷ [])) (request 0 3 (7 ∷ [])) 18
    ∷ has_call_number (before_calls (cell_of 5 0 0 5 ∷ cell_of 5 0 0 0 ∷ [])) (request 0 3 (7 ∷ [])) 18
    ∷ has_call_number (before_calls (plain 5 ∷ cell_of 4 0 0 0 ∷ [])) (request 0 3 (7 ∷ [])) 18
    ∷ has_call_number (before_calls (plain 5 ∷ cell_of 5 0 0 4294967296 ∷ [])) (request 0 3 (7 ∷ [])) 18
    -- Parameters and variables of a done call; "a variable may be plain 0"; of a failed one "public parameters and no variables".
    ∷ has_call_number (after_done [] variables_of_a) (request 0 3 (7 ∷ [])) 18
    ∷ has_call_number (after_done (cell_of 4 1 0 7 ∷ []) variables_of_a) (request 0 3 (7 ∷ [])) 18
    ∷ has_call_number (after_done (plain 0 ∷ []) variables_of_a) (request 0 3 (7 ∷ [])) 18
    ∷ has_call_number (after_done (argument_of_a ∷ []) (argument_of_a ∷ [])) (request 0 3 (7 ∷ [])) 18
    ∷ has_call_number (after_done (argument_of_a ∷ []) (argument_of_a ∷ argument_of_a ∷ argument_of_a ∷ [])) (request 0 3 (7 ∷ [])) 18
    ∷ has_call_number (after_done (argument_of_a ∷ []) (replicate 3 (plain 0))) (request 0 3 (7 ∷ [])) 0
    ∷ has_call_number (after_done (argument_of_a ∷ []) (replicate 3 (plain 1))) (request 0 3 (7 ∷ [])) 18
    ∷ has_call_number (ledger file_a 1 0 3 1 [] [] places_of_a) (request 0 3 (7 ∷ [])) 0
    ∷ has_call_number (ledger file_a 1 0 3 1 (argument_of_a ∷ []) [] places_of_a) (request 0 3 (7 ∷ [])) 18
    ∷ has_call_number (ledger file_a 1 0 3 1 [] variables_of_a places_of_a) (request 0 3 (7 ∷ [])) 18
    -- Serials are not looked at: they may be of any call.
    ∷ has_call_number (before_calls (plain 5 ∷ cell_of 5 9 1 0 ∷ [])) (request 0 3 (7 ∷ [])) 0
    -- "19. Arguments differ in number from the parameters, or one is outside its type.": a private one too; 18 goes before.
    ∷ has_call_number (before_calls places_of_a) (request 0 3 []) 19
    ∷ has_call_number (before_calls places_of_a) (request 0 3 (7 ∷ 7 ∷ [])) 19
    ∷ has_call_number (before_calls places_of_a) (request 0 16 []) 18
    ∷ has_call_number (ledger bools 0 0 0 0 [] [] []) (request 0 3 (1 ∷ 0 ∷ [])) 0
    ∷ has_call_number (ledger bools 0 0 0 0 [] [] []) (request 0 3 (2 ∷ 0 ∷ [])) 19
    ∷ has_call_number (ledger bools 0 0 0 0 [] [] []) (request 0 3 (1 ∷ 2 ∷ [])) 19
    -- "20. Call number 65,535 has been used."; 19 goes before.
    ∷ has_call_number (ledger nothing 65534 0 3 0 [] [] []) (request 0 3 []) 0
    ∷ has_call_number (ledger nothing 65535 0 3 0 [] [] []) (request 0 3 []) 20
    ∷ has_call_number (ledger nothing 65535 0 3 0 [] [] []) (request 0 3 (7 ∷ [])) 19
    -- "21. A view's ledger isn't well formed, its party is above 15, or its output is too short."
    ∷ looks (ledger nothing 258 0 3 0 [] [] []) 15 (replicate 7 9) 0 5 (2 ∷ 1 ∷ 0 ∷ 3 ∷ 0 ∷ 9 ∷ 9 ∷ [])
    ∷ looks (ledger nothing 258 0 3 0 [] [] []) 15 (replicate 4 9) 21 0 (replicate 4 9)
    ∷ looks (ledger nothing 258 0 3 0 [] [] []) 16 (replicate 7 9) 21 0 (replicate 7 9)
    ∷ looks (ledger nothing 258 0 16 0 [] [] []) 15 (replicate 7 9) 21 0 (replicate 7 9)
    -- What a call would disclose: the call's number, then 21 as for a view.
    ∷ tells (ledger reveal_around_require 0 0 0 0 [] [] (plain 0 ∷ [])) (request 0 3 (7 ∷ 1 ∷ [])) 4 (9 ∷ 9 ∷ 9 ∷ []) 0 2 (7 ∷ 8 ∷ 9 ∷ [])
    ∷ tells (ledger reveal_around_require 0 0 0 0 [] [] (plain 0 ∷ [])) (request 0 3 (7 ∷ 1 ∷ [])) 4 (9 ∷ []) 21 0 (9 ∷ [])
    ∷ tells (ledger reveal_around_require 0 0 0 0 [] [] (plain 0 ∷ [])) (request 0 3 (7 ∷ 0 ∷ [])) 4 (9 ∷ []) 0 1 (7 ∷ [])
    ∷ tells (ledger reveal_around_require 0 0 0 0 [] [] (plain 0 ∷ [])) (request 0 3 (7 ∷ 1 ∷ [])) 16 (9 ∷ 9 ∷ []) 21 0 (9 ∷ 9 ∷ [])
    ∷ tells (ledger reveal_around_require 0 0 0 0 [] [] (plain 0 ∷ [])) (request 0 3 (7 ∷ [])) 16 [] 19 0 []
    ∷ tells (ledger reveal_around_require 0 0 0 0 [] [] []) (request 0 3 (7 ∷ 1 ∷ [])) 4 (9 ∷ 9 ∷ []) 18 0 (9 ∷ 9 ∷ [])
    -- It is told of the places opened.
    ∷ tells (ledger bank 0 0 0 0 [] [] (opened_at 3 7)) (request 1 3 (4 ∷ [])) 4 (9 ∷ []) 0 1 (7 ∷ [])
    ∷ tells (ledger bank 0 0 0 0 [] [] (opened_at 3 7)) (request 1 3 (4 ∷ [])) 5 (9 ∷ []) 0 0 (9 ∷ [])
    ∷ []
