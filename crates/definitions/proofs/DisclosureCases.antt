-- 01, Runs and views: what a call discloses to a party.
use mathlib.Core.List.{List, [], ◌∷◌}
use lib.ListN.{replicate}
use Rattle.definitions.proofs.Cases.{Case, is_disclosed, call_discloses}
use Rattle.definitions.proofs.Contracts.{file_a, assign_then_require, request, bank, reveal_to_me, tell_count, reveal_below_key}
use Rattle.definitions.proofs.Contracts.{reveal_below_read_key, reveal_on_the_right, reveal_on_the_left, reveal_divided, reveal_of_division}
use Rattle.definitions.proofs.Contracts.{reveal_in_branches, reveal_as_condition, reveal_around_require, reveal_of_reveal, reveal_key_and_value}
use Rattle.definitions.proofs.Contracts.{reveal_product}

-- Whole runs with the values that each call discloses to one party; then single calls, on the original's places.
unfoldable pub disclosure_cases : List Case
disclosure_cases =
    -- To all, of an operator; a refused call discloses nothing.
    is_disclosed assign_then_require (5 ∷ []) (request 0 3 (2 ∷ []) ∷ request 0 16 (1 ∷ []) ∷ request 0 3 (1 ∷ []) ∷ []) 4 ((0 ∷ [])
    ∷ [] ∷ (1 ∷ []) ∷ [])
    -- Of an entry, to a parameter's address: as the call before left it.
    ∷ is_disclosed bank [] (request 0 3 (7 ∷ []) ∷ request 1 3 (4 ∷ []) ∷ []) 4 ([] ∷ (7 ∷ []) ∷ [])
    -- To a final: "Each reveal to all or to the party's address ..", and to nobody else, the caller neither.
    ∷ call_discloses file_a (5 ∷ 0 ∷ []) (request 0 3 (7 ∷ [])) 5 (7 ∷ [])
    ∷ call_discloses file_a (5 ∷ 0 ∷ []) (request 0 3 (7 ∷ [])) 4 []
    ∷ call_discloses file_a (5 ∷ 0 ∷ []) (request 0 3 (7 ∷ [])) 3 []
    -- To me: to the caller alone.
    ∷ call_discloses reveal_to_me (replicate 16 0) (request 0 3 (7 ∷ [])) 3 (7 ∷ [])
    ∷ call_discloses reveal_to_me (replicate 16 0) (request 0 3 (7 ∷ [])) 4 []
    -- Of an entry, to a parameter's address: not to the caller.
    ∷ call_discloses bank (replicate 16 7) (request 1 3 (4 ∷ [])) 3 []
    -- Of a field, to all: its value before the call changes it. That `count` takes r, and that it is read, discloses nothing.
    ∷ call_discloses tell_count (5 ∷ 6 ∷ 0 ∷ []) (request 0 5 (8 ∷ [])) 4 (6 ∷ [])
    -- Below a key.
    ∷ call_discloses reveal_below_key (replicate 16 0) (request 0 3 (9 ∷ [])) 4 (9 ∷ [])
    ∷ call_discloses reveal_below_read_key (replicate 17 0) (request 0 3 (9 ∷ [])) 4 (9 ∷ [])
    -- "Both operands are always worked out, left first", "up to a failure": where the left fails the right is not worked out.
    ∷ call_discloses reveal_on_the_right (0 ∷ []) (request 0 3 (7 ∷ 2 ∷ [])) 4 (7 ∷ [])
    ∷ call_discloses reveal_on_the_right (0 ∷ []) (request 0 3 (7 ∷ 0 ∷ [])) 4 []
    ∷ call_discloses reveal_on_the_left (0 ∷ []) (request 0 3 (7 ∷ 2 ∷ [])) 4 (7 ∷ [])
    ∷ call_discloses reveal_on_the_left (0 ∷ []) (request 0 3 (7 ∷ 0 ∷ [])) 4 (7 ∷ [])
    -- A division by zero fails behind its operands; a reveal of what fails is not worked out.
    ∷ call_discloses reveal_divided (0 ∷ []) (request 0 3 (7 ∷ 0 ∷ [])) 4 (7 ∷ [])
    ∷ call_discloses reveal_of_division (0 ∷ []) (request 0 3 (7 ∷ 1 ∷ [])) 4 (8 ∷ [])
    ∷ call_discloses reveal_of_division (0 ∷ []) (request 0 3 (7 ∷ 0 ∷ [])) 4 []
    -- "of an if the condition and the taken branch"
    ∷ call_discloses reveal_in_branches (0 ∷ []) (request 0 3 (7 ∷ 1 ∷ [])) 4 (7 ∷ [])
    ∷ call_discloses reveal_in_branches (0 ∷ []) (request 0 3 (7 ∷ 0 ∷ [])) 4 (8 ∷ [])
    ∷ call_discloses reveal_as_condition (0 ∷ []) (request 0 3 (1 ∷ [])) 4 (1 ∷ [])
    ∷ call_discloses reveal_as_condition (0 ∷ []) (request 0 3 (0 ∷ [])) 4 (0 ∷ [])
    -- Before and after a false require.
    ∷ call_discloses reveal_around_require (0 ∷ []) (request 0 3 (7 ∷ 1 ∷ [])) 4 (7 ∷ 8 ∷ [])
    ∷ call_discloses reveal_around_require (0 ∷ []) (request 0 3 (7 ∷ 0 ∷ [])) 4 (7 ∷ [])
    -- A reveal of a reveal tells both, the inner one first.
    ∷ call_discloses reveal_of_reveal (5 ∷ 0 ∷ []) (request 0 5 (7 ∷ [])) 5 (7 ∷ 7 ∷ [])
    -- The key before the value.
    ∷ call_discloses reveal_key_and_value (replicate 16 0) (request 0 3 (9 ∷ 7 ∷ [])) 4 (9 ∷ 7 ∷ [])
    -- Values of four bytes; "Uint arithmetic is modulo 4,294,967,296."
    ∷ call_discloses reveal_product (0 ∷ []) (request 0 3 (65536 ∷ 65535 ∷ [])) 4 (4294901760 ∷ [])
    ∷ call_discloses reveal_product (0 ∷ []) (request 0 3 (65536 ∷ 65536 ∷ [])) 4 (0 ∷ [])
    ∷ []
