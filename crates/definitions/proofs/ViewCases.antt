-- 01, Runs and views: what a party sees after deployment and after each call.
use mathlib.Core.List.{List, [], ◌∷◌}
use Rattle.definitions.proofs.Cases.{Case, is_viewed}
use Rattle.definitions.proofs.Contracts.{file_a, increment, choose, assign_then_require, request, bank, division}
use Rattle.definitions.proofs.Files.{function, file, final_field, uint_of_first, public_uint, private_uint, constant, parameter_read}
use Rattle.definitions.proofs.Files.{operator, reveal, assign, view, plain_item, opaque_item, open_item}

-- Runs with the views of one party.
unfoldable pub view_cases : List Case
view_cases =
    -- The owner of `count` sees its own cell, and the caller's as opaque.
    is_viewed file_a (5 ∷ []) (request 0 3 (7 ∷ []) ∷ []) 5
    (view 0 0 0 0 (plain_item 5 ∷ open_item 5 0 0 0 ∷ [])
    ∷ view 1 0 3 0 (opaque_item 3 1 0 ∷ opaque_item 3 1 0 ∷ open_item 5 1 9 7 ∷ opaque_item 3 1 0 ∷ plain_item 5 ∷ open_item 5 1 9 7 ∷ [])
    ∷ [])
    -- The caller sees its argument, and `count` as opaque.
    ∷ is_viewed file_a (5 ∷ []) (request 0 3 (7 ∷ []) ∷ []) 3
    (view 0 0 0 0 (plain_item 5 ∷ opaque_item 5 0 0 ∷ [])
    ∷ view 1 0 3 0 (open_item 3 1 0 7 ∷ open_item 3 1 0 7 ∷ opaque_item 5 1 9 ∷ open_item 3 1 0 7 ∷ plain_item 5 ∷ opaque_item 5 1 9 ∷ [])
    ∷ [])
    -- A second call gives other serials.
    ∷ is_viewed increment (5 ∷ []) (request 0 5 (1 ∷ []) ∷ request 0 5 (1 ∷ []) ∷ []) 5
    (view 0 0 0 0 (plain_item 5 ∷ open_item 5 0 0 0 ∷ [])
    ∷ view 1 0 5 0 (open_item 5 1 0 1 ∷ open_item 5 1 0 1 ∷ open_item 5 1 9 1 ∷ open_item 5 0 0 0 ∷ plain_item 5 ∷ open_item 5 1 9 1 ∷ [])
    ∷ view 2 0 5 0 (open_item 5 2 0 1 ∷ open_item 5 2 0 1 ∷ open_item 5 2 9 2 ∷ open_item 5 1 9 1 ∷ plain_item 5 ∷ open_item 5 2 9 2 ∷ [])
    ∷ [])
    -- Variables of an untaken branch stay plain 0.
    ∷ is_viewed choose (5 ∷ []) (request 0 3 (1 ∷ []) ∷ request 0 3 (2 ∷ []) ∷ []) 5
    (view 0 0 0 0 (plain_item 5 ∷ open_item 5 0 0 0 ∷ [])
    ∷ view 1 0 3 0 (opaque_item 3 1 0 ∷ opaque_item 3 1 0 ∷ plain_item 1 ∷ opaque_item 3 1 0 ∷ plain_item 1 ∷ open_item 5 1 12 5
    ∷ plain_item 0 ∷ plain_item 5 ∷ open_item 5 1 12 5 ∷ [])
    ∷ view 2 0 3 0 (opaque_item 3 2 0 ∷ opaque_item 3 2 0 ∷ plain_item 0 ∷ opaque_item 3 2 0 ∷ plain_item 0 ∷ plain_item 0
    ∷ plain_item 1 ∷ plain_item 5 ∷ open_item 5 1 12 5 ∷ [])
    ∷ [])
    -- A failed call restores every place, and shows no private parameter and no variable; a refused one leaves the ledger, and counts
    -- for nothing.
    ∷ is_viewed assign_then_require (5 ∷ []) (request 0 3 (2 ∷ []) ∷ request 0 16 (1 ∷ []) ∷ request 0 3 (1 ∷ []) ∷ []) 5
    (view 0 0 0 0 (plain_item 5 ∷ open_item 5 0 0 0 ∷ [])
    ∷ view 1 0 3 1 (plain_item 5 ∷ open_item 5 0 0 0 ∷ [])
    ∷ view 1 0 3 1 (plain_item 5 ∷ open_item 5 0 0 0 ∷ [])
    ∷ view 2 0 3 0 (opaque_item 3 2 0 ∷ opaque_item 3 2 0 ∷ open_item 5 2 9 5 ∷ plain_item 1 ∷ opaque_item 3 2 0 ∷ plain_item 5
    ∷ open_item 5 2 9 5 ∷ [])
    ∷ [])
    -- A mapping in which each address owns its entry: party 4 sees its own, opened, with its serial, and party 3's as opaque. The
    -- second function has its number in the head, and its public parameter is plain.
    ∷ is_viewed bank [] (request 0 3 (70000 ∷ []) ∷ request 1 3 (4 ∷ []) ∷ request 0 4 (1 ∷ []) ∷ []) 4
    (view 0 0 0 0 (opaque_item 0 0 0 ∷ opaque_item 1 0 0 ∷ opaque_item 2 0 0 ∷ opaque_item 3 0 0 ∷ open_item 4 0 0 0
    ∷ opaque_item 5 0 0 ∷ opaque_item 6 0 0 ∷ opaque_item 7 0 0 ∷ opaque_item 8 0 0 ∷ opaque_item 9 0 0 ∷ opaque_item 10 0 0
    ∷ opaque_item 11 0 0 ∷ opaque_item 12 0 0 ∷ opaque_item 13 0 0 ∷ opaque_item 14 0 0 ∷ opaque_item 15 0 0 ∷ [])
    ∷ view 1 0 3 0 (opaque_item 3 1 0 ∷ opaque_item 3 1 0 ∷ opaque_item 3 1 9 ∷ opaque_item 3 0 0 ∷ opaque_item 3 1 0
    ∷ opaque_item 0 0 0 ∷ opaque_item 1 0 0 ∷ opaque_item 2 0 0 ∷ opaque_item 3 1 9 ∷ open_item 4 0 0 0 ∷ opaque_item 5 0 0
    ∷ opaque_item 6 0 0 ∷ opaque_item 7 0 0 ∷ opaque_item 8 0 0 ∷ opaque_item 9 0 0 ∷ opaque_item 10 0 0 ∷ opaque_item 11 0 0
    ∷ opaque_item 12 0 0 ∷ opaque_item 13 0 0 ∷ opaque_item 14 0 0 ∷ opaque_item 15 0 0 ∷ [])
    ∷ view 2 1 3 0 (plain_item 4 ∷ open_item 4 2 8 70000 ∷ opaque_item 3 1 9 ∷ opaque_item 3 2 10 ∷ opaque_item 0 0 0
    ∷ opaque_item 1 0 0 ∷ opaque_item 2 0 0 ∷ opaque_item 3 2 10 ∷ open_item 4 2 8 70000 ∷ opaque_item 5 0 0 ∷ opaque_item 6 0 0
    ∷ opaque_item 7 0 0 ∷ opaque_item 8 0 0 ∷ opaque_item 9 0 0 ∷ opaque_item 10 0 0 ∷ opaque_item 11 0 0 ∷ opaque_item 12 0 0
    ∷ opaque_item 13 0 0 ∷ opaque_item 14 0 0 ∷ opaque_item 15 0 0 ∷ [])
    ∷ view 3 0 4 0 (open_item 4 3 0 1 ∷ open_item 4 3 0 1 ∷ open_item 4 3 9 70001 ∷ open_item 4 2 8 70000 ∷ open_item 4 3 0 1
    ∷ opaque_item 0 0 0 ∷ opaque_item 1 0 0 ∷ opaque_item 2 0 0 ∷ opaque_item 3 2 10 ∷ open_item 4 3 9 70001 ∷ opaque_item 5 0 0
    ∷ opaque_item 6 0 0 ∷ opaque_item 7 0 0 ∷ opaque_item 8 0 0 ∷ opaque_item 9 0 0 ∷ opaque_item 10 0 0 ∷ opaque_item 11 0 0
    ∷ opaque_item 12 0 0 ∷ opaque_item 13 0 0 ∷ opaque_item 14 0 0 ∷ opaque_item 15 0 0 ∷ [])
    ∷ [])
    -- "A zero divisor fails the call.", of / and of %: places are as before, public parameters are shown.
    ∷ is_viewed division [] (request 0 3 (17 ∷ 5 ∷ []) ∷ request 1 3 (17 ∷ 5 ∷ []) ∷ request 0 3 (17 ∷ 0 ∷ []) ∷ request 1 3 (17 ∷ 0
    ∷ []) ∷ []) 4
    (view 0 0 0 0 (plain_item 0 ∷ [])
    ∷ view 1 0 3 0 (plain_item 17 ∷ plain_item 5 ∷ plain_item 3 ∷ [])
    ∷ view 2 1 3 0 (plain_item 17 ∷ plain_item 5 ∷ plain_item 2 ∷ [])
    ∷ view 3 0 3 1 (plain_item 17 ∷ plain_item 0 ∷ plain_item 2 ∷ [])
    ∷ view 4 1 3 1 (plain_item 17 ∷ plain_item 0 ∷ plain_item 2 ∷ [])
    ∷ [])
    -- A public / is worked out on the ledger, and in the circuit its value is taken.
    ∷ is_viewed (file (final_field ∷ uint_of_first ∷ []) (function (private_uint ∷ public_uint ∷ []) 6 ∷ []) (parameter_read 0
    ∷ parameter_read 1 ∷ constant 1 2 ∷ operator 3 1 2 ∷ operator 0 0 3 ∷ reveal 4 16 ∷ assign 1 5 ∷ [])) (5 ∷ []) (request 0 3 (7
    ∷ 9 ∷ []) ∷ request 0 3 (7 ∷ 4294967295 ∷ []) ∷ []) 5
    (view 0 0 0 0 (plain_item 5 ∷ open_item 5 0 0 0 ∷ [])
    ∷ view 1 0 3 0 (opaque_item 3 1 0 ∷ plain_item 9 ∷ opaque_item 3 1 0 ∷ open_item 5 1 9 11 ∷ opaque_item 3 1 0 ∷ plain_item 4
    ∷ plain_item 5 ∷ open_item 5 1 9 11 ∷ [])
    ∷ view 2 0 3 0 (opaque_item 3 2 0 ∷ plain_item 4294967295 ∷ opaque_item 3 2 0 ∷ open_item 5 2 9 2147483654 ∷ opaque_item 3 2 0
    ∷ plain_item 2147483647 ∷ plain_item 5 ∷ open_item 5 2 9 2147483654 ∷ [])
    ∷ [])
    -- "A zero divisor fails the call." in a circuit too.
    ∷ is_viewed (file (final_field ∷ uint_of_first ∷ []) (function (private_uint ∷ public_uint ∷ public_uint ∷ []) 6 ∷ []) (parameter_read 0
    ∷ parameter_read 1 ∷ parameter_read 2 ∷ operator 4 1 2 ∷ operator 0 0 3 ∷ reveal 4 16 ∷ assign 1 5 ∷ [])) (5
    ∷ []) (request 0 3 (7 ∷ 9 ∷ 5 ∷ []) ∷ request 0 3 (7 ∷ 9 ∷ 0 ∷ []) ∷ []) 5
    (view 0 0 0 0 (plain_item 5 ∷ open_item 5 0 0 0 ∷ [])
    ∷ view 1 0 3 0 (opaque_item 3 1 0 ∷ plain_item 9 ∷ plain_item 5 ∷ opaque_item 3 1 0 ∷ open_item 5 1 9 11 ∷ opaque_item 3 1 0
    ∷ plain_item 4 ∷ plain_item 5 ∷ open_item 5 1 9 11 ∷ [])
    ∷ view 2 0 3 1 (plain_item 9 ∷ plain_item 0 ∷ plain_item 5 ∷ open_item 5 1 9 11 ∷ [])
    ∷ [])
    -- Values of four bytes, low byte first; the bytes are written out.
    ∷ is_viewed file_a (5 ∷ []) (request 0 3 (305419896 ∷ []) ∷ []) 5
    ((0 ∷ 0 ∷ 0 ∷ 0 ∷ 0 ∷ 0 ∷ 0 ∷ 0 ∷ 0 ∷ 0 ∷ 0 ∷ 5 ∷ 0 ∷ 0 ∷ 0 ∷ 2 ∷ 5 ∷ 0 ∷ 0 ∷ 0 ∷ 0 ∷ 0 ∷ 0 ∷ 0 ∷ 0 ∷ [])
    ∷ (1 ∷ 0 ∷ 0 ∷ 3 ∷ 0 ∷ 1 ∷ 3 ∷ 1 ∷ 0 ∷ 0 ∷ 0 ∷ 0 ∷ 0 ∷ 0 ∷ 0 ∷ 1 ∷ 3 ∷ 1 ∷ 0 ∷ 0 ∷ 0 ∷ 0 ∷ 0 ∷ 0 ∷ 0 ∷ 2 ∷ 5 ∷ 1 ∷ 0 ∷ 9 ∷ 0
    ∷ 120 ∷ 86 ∷ 52 ∷ 18 ∷ 1 ∷ 3 ∷ 1 ∷ 0 ∷ 0 ∷ 0 ∷ 0 ∷ 0 ∷ 0 ∷ 0 ∷ 0 ∷ 0 ∷ 0 ∷ 0 ∷ 0 ∷ 0 ∷ 5 ∷ 0 ∷ 0 ∷ 0 ∷ 2 ∷ 5 ∷ 1 ∷ 0 ∷ 9
    ∷ 0 ∷ 120 ∷ 86 ∷ 52 ∷ 18 ∷ [])
    ∷ [])
    ∷ []
