-- Contracts that several cases of the table use.
use mathlib.Core.List.{List, [], ◌∷◌}
use Prim.Native.Nat.{ℕ}
use Rattle.definitions.specs.View.{Request}
use Rattle.definitions.proofs.Files.{function, file, final_field, uint_field, uint_of_first, uint_mapping, tagged_mapping, public_bool}
use Rattle.definitions.proofs.Files.{public_uint, public_address, private_bool, private_uint, private_address, constant, me}
use Rattle.definitions.proofs.Files.{field_read, entry_read, parameter_read, operator, reveal, skip, sequence, assign, assign_entry}
use Rattle.definitions.proofs.Files.{require, conditional, contract}

-- "Final h; uint `count` owned by h; one function, private uint r, `count` takes reveal of r to h.", byte by byte.
abbrev pub file_a : List ℕ
file_a =
    2 ∷ 1 ∷ 2 ∷ 0 ∷ 0 ∷ 1 ∷ 16
    ∷ 1 ∷ 1 ∷ 1 ∷ 1 ∷ 2 ∷ 0
    ∷ 3 ∷ 0
    ∷ 5 ∷ 0 ∷ 0 ∷ 0 ∷ 0 ∷ 0 ∷ 0 ∷ 0
    ∷ 8 ∷ 16 ∷ 0 ∷ 0 ∷ 0 ∷ 0 ∷ 0 ∷ 0
    ∷ 18 ∷ 1 ∷ 1 ∷ 0 ∷ 0 ∷ 0 ∷ 0 ∷ 0
    ∷ []

abbrev pub request : ℕ → ℕ → List ℕ → Request
request function caller arguments = record { function = function; caller = caller; arguments = arguments }

-- require h == me; `count` takes `count` + 1
abbrev pub increment : List ℕ
increment =
    contract (field_read 0 ∷ me ∷ operator 7 0 1 ∷ require 2 ∷ field_read 1 ∷ constant 1 1 ∷ operator 0 4 5 ∷ assign 1 6 ∷ sequence 3 7
    ∷ [])

-- require reveal of r == 1 to all
abbrev pub require_one : List ℕ
require_one =
    contract (parameter_read 0 ∷ constant 1 1 ∷ operator 7 0 1 ∷ reveal 2 0 ∷ require 3 ∷ [])

-- if reveal of r == 1 to all then `count` takes 5 else skip
abbrev pub choose : List ℕ
choose =
    contract (parameter_read 0 ∷ constant 1 1 ∷ operator 7 0 1 ∷ reveal 2 0 ∷ constant 1 5 ∷ assign 1 4 ∷ skip ∷ conditional 3 5 6 ∷ [])

-- `count` takes 5; require reveal of r == 1 to all
abbrev pub assign_then_require : List ℕ
assign_then_require =
    contract (constant 1 5 ∷ assign 1 0 ∷ parameter_read 0 ∷ constant 1 1 ∷ operator 7 2 3 ∷ reveal 4 0 ∷ require 5 ∷ sequence 1 6 ∷ [])

-- A mapping in which each address owns its entry. Function 0: the caller's entry takes itself + r. Function 1: the entry of a public
-- address takes reveal of the caller's entry to it; the caller's takes 0.
abbrev pub bank : List ℕ
bank =
    file (tagged_mapping ∷ []) (function (private_uint ∷ []) 5 ∷ function (public_address ∷ []) 14 ∷ []) (me ∷ me ∷ entry_read 0 1
    ∷ parameter_read 0 ∷ operator 0 2 3 ∷ assign_entry 0 0 4 ∷ parameter_read 0 ∷ me ∷ entry_read 0 7 ∷ reveal 8 128
    ∷ assign_entry 0 6 9 ∷ me ∷ constant 1 0 ∷ assign_entry 0 11 12 ∷ sequence 10 13 ∷ [])

-- A public uint takes a / b, and in function 1 a % b, of two public parameters.
abbrev pub division : List ℕ
division =
    file (uint_field ∷ []) (function (public_uint ∷ public_uint ∷ []) 3 ∷ function (public_uint ∷ public_uint ∷ []) 7
    ∷ []) (parameter_read 0 ∷ parameter_read 1 ∷ operator 3 0 1 ∷ assign 0 2 ∷ parameter_read 0 ∷ parameter_read 1 ∷ operator 4 4 5
    ∷ assign 0 6 ∷ [])

-- The caller's entry takes reveal of r to me.
abbrev pub reveal_to_me : List ℕ
reveal_to_me =
    file (tagged_mapping ∷ []) (function (private_uint ∷ []) 3 ∷ []) (me ∷ parameter_read 0 ∷ reveal 1 1 ∷ assign_entry 0 0 2 ∷ [])

-- require h == me; a public uint takes reveal of `count` to all; `count` takes r
abbrev pub tell_count : List ℕ
tell_count =
    file (final_field ∷ uint_of_first ∷ uint_field ∷ []) (function (private_uint ∷ []) 10 ∷ []) (field_read 0 ∷ me ∷ operator 7 0 1
    ∷ require 2 ∷ field_read 1 ∷ reveal 4 0 ∷ assign 2 5 ∷ parameter_read 0 ∷ assign 1 7 ∷ sequence 6 8 ∷ sequence 3 9 ∷ [])

-- A public mapping at reveal of a to all takes 1.
abbrev pub reveal_below_key : List ℕ
reveal_below_key =
    file (uint_mapping ∷ []) (function (private_address ∷ []) 3 ∷ []) (parameter_read 0 ∷ reveal 0 0 ∷ constant 1 1 ∷ assign_entry 0 1 2
    ∷ [])

-- A public uint takes the entry of a public mapping at reveal of a to all.
abbrev pub reveal_below_read_key : List ℕ
reveal_below_read_key =
    file (uint_mapping ∷ uint_field ∷ []) (function (private_address ∷ []) 3 ∷ []) (parameter_read 0 ∷ reveal 0 0 ∷ entry_read 0 1
    ∷ assign 1 2 ∷ [])

-- A public uint takes 1 / z + reveal of r to all.
abbrev pub reveal_on_the_right : List ℕ
reveal_on_the_right =
    file (uint_field ∷ []) (function (private_uint ∷ public_uint ∷ []) 6 ∷ []) (constant 1 1 ∷ parameter_read 1 ∷ operator 3 0 1
    ∷ parameter_read 0 ∷ reveal 3 0 ∷ operator 0 2 4 ∷ assign 0 5 ∷ [])

-- A public uint takes reveal of r to all + 1 / z.
abbrev pub reveal_on_the_left : List ℕ
reveal_on_the_left =
    file (uint_field ∷ []) (function (private_uint ∷ public_uint ∷ []) 6 ∷ []) (parameter_read 0 ∷ reveal 0 0 ∷ constant 1 1
    ∷ parameter_read 1 ∷ operator 3 2 3 ∷ operator 0 1 4 ∷ assign 0 5 ∷ [])

-- A public uint takes reveal of r to all / z.
abbrev pub reveal_divided : List ℕ
reveal_divided =
    file (uint_field ∷ []) (function (private_uint ∷ public_uint ∷ []) 4 ∷ []) (parameter_read 0 ∷ reveal 0 0 ∷ parameter_read 1
    ∷ operator 3 1 2 ∷ assign 0 3 ∷ [])

-- A public uint takes reveal of r + 1 / z to all.
abbrev pub reveal_of_division : List ℕ
reveal_of_division =
    file (uint_field ∷ []) (function (private_uint ∷ public_uint ∷ []) 6 ∷ []) (parameter_read 0 ∷ constant 1 1 ∷ parameter_read 1
    ∷ operator 3 1 2 ∷ operator 0 0 3 ∷ reveal 4 0 ∷ assign 0 5 ∷ [])

-- If b then a public uint takes reveal of r to all, else reveal of r + 1 to all.
abbrev pub reveal_in_branches : List ℕ
reveal_in_branches =
    file (uint_field ∷ []) (function (private_uint ∷ public_bool ∷ []) 9 ∷ []) (parameter_read 1 ∷ parameter_read 0 ∷ reveal 1 0
    ∷ assign 0 2 ∷ parameter_read 0 ∷ constant 1 1 ∷ operator 0 4 5 ∷ reveal 6 0 ∷ assign 0 7 ∷ conditional 0 3 8 ∷ [])

-- If reveal of b to all then skip else skip.
abbrev pub reveal_as_condition : List ℕ
reveal_as_condition =
    file (uint_field ∷ []) (function (private_bool ∷ []) 4 ∷ []) (parameter_read 0 ∷ reveal 0 0 ∷ skip ∷ skip ∷ conditional 1 2 3 ∷ [])

-- A public uint takes reveal of r to all; require b; it takes reveal of r + 1 to all.
abbrev pub reveal_around_require : List ℕ
reveal_around_require =
    file (uint_field ∷ []) (function (private_uint ∷ public_bool ∷ []) 11 ∷ []) (parameter_read 0 ∷ reveal 0 0 ∷ assign 0 1
    ∷ parameter_read 1 ∷ require 3 ∷ parameter_read 0 ∷ constant 1 1 ∷ operator 0 5 6 ∷ reveal 7 0 ∷ assign 0 8 ∷ sequence 4 9
    ∷ sequence 2 10 ∷ [])

-- `count` takes reveal to h of reveal of r to me.
abbrev pub reveal_of_reveal : List ℕ
reveal_of_reveal =
    contract (parameter_read 0 ∷ reveal 0 1 ∷ reveal 1 16 ∷ assign 1 2 ∷ [])

-- A public mapping at reveal of a to all takes reveal of r to all.
abbrev pub reveal_key_and_value : List ℕ
reveal_key_and_value =
    file (uint_mapping ∷ []) (function (private_address ∷ private_uint ∷ []) 4 ∷ []) (parameter_read 0 ∷ reveal 0 0 ∷ parameter_read 1
    ∷ reveal 2 0 ∷ assign_entry 0 1 3 ∷ [])

-- A public uint takes reveal of r × s to all.
abbrev pub reveal_product : List ℕ
reveal_product =
    file (uint_field ∷ []) (function (private_uint ∷ private_uint ∷ []) 4 ∷ []) (parameter_read 0 ∷ parameter_read 1 ∷ operator 2 0 1
    ∷ reveal 2 0 ∷ assign 0 3 ∷ [])
