-- 01, Rewriting: written files.
use mathlib.Core.List.{List, [], ◌∷◌}
use Rattle.definitions.proofs.Cases.{Case, is_written}
use Rattle.definitions.proofs.Contracts.{increment, require_one, choose, bank}
use Rattle.definitions.proofs.Files.{function, file, final_field, uint_field, uint_of_first, uint_mapping, tagged_mapping, tagged_bools}
use Rattle.definitions.proofs.Files.{cell_of_first, tagged_cells, public_uint, public_address, private_bool, private_uint}
use Rattle.definitions.proofs.Files.{private_address, private_cell, constant, me, field_read, entry_read, parameter_read, operator}
use Rattle.definitions.proofs.Files.{negation, reveal, skip, sequence, assign, assign_entry, require, conditional, variable_read}
use Rattle.definitions.proofs.Files.{variable_opened, set_variable, verify, variable, constraint, written_function, contract}

-- What the rewriting rules give, part by part.
unfoldable pub written_cases : List Case
written_cases =
    -- "an inner reveal published though its outer expression is already in the circuit": it is passed through.
    is_written (contract (parameter_read 0 ∷ reveal 0 1 ∷ reveal 1 16 ∷ assign 1 2 ∷ []))
    (file (final_field ∷ cell_of_first ∷ [])
    (written_function (private_cell ∷ [])
    (variable 3 1 ∷ variable 1 16 ∷ variable 3 1 ∷ []) (16 ∷ [])
    (constraint 0 0 65535 ∷ constraint 0 1 0 ∷ []) 10 ∷ [])
    (variable_opened 2 ∷ parameter_read 0 ∷ set_variable 0 1 ∷ parameter_read 0 ∷ set_variable 2 3 ∷ variable_read 1 ∷ assign 1 5
    ∷ sequence 4 6 ∷ verify ∷ sequence 7 8 ∷ sequence 2 9 ∷ []))
    -- "a private operator encrypted for the place's name instead of code 1": it has code 1.
    ∷ is_written increment
    (file (final_field ∷ cell_of_first ∷ [])
    (written_function (private_cell ∷ [])
    (variable 3 1 ∷ variable 1 1 ∷ variable 3 16 ∷ []) (1 ∷ [])
    (constraint 0 0 65535 ∷ constraint 0 1 2 ∷ []) 17 ∷ [])
    (variable_opened 2 ∷ constant 1 1 ∷ operator 0 0 1 ∷ parameter_read 0 ∷ set_variable 0 3 ∷ field_read 0 ∷ me ∷ operator 7 5 6
    ∷ require 7 ∷ field_read 1 ∷ set_variable 2 9 ∷ variable_read 1 ∷ assign 1 11 ∷ sequence 10 12 ∷ sequence 8 13 ∷ verify
    ∷ sequence 14 15 ∷ sequence 4 16 ∷ []))
    -- A reveal to all is supplied in the clear, and verified.
    ∷ is_written require_one
    (file (final_field ∷ cell_of_first ∷ [])
    (written_function (private_cell ∷ [])
    (variable 3 1 ∷ variable 0 0 ∷ variable 3 1 ∷ []) []
    (constraint 0 0 65535 ∷ constraint 0 1 2 ∷ []) 12 ∷ [])
    (variable_opened 2 ∷ constant 1 1 ∷ operator 7 0 1 ∷ parameter_read 0 ∷ set_variable 0 3 ∷ parameter_read 0 ∷ set_variable 2 5
    ∷ variable_read 1 ∷ require 7 ∷ sequence 6 8 ∷ verify ∷ sequence 9 10 ∷ sequence 4 11 ∷ []))
    -- Each branch has its guard; a public value put into a private place is supplied for that place's code.
    ∷ is_written choose
    (file (final_field ∷ cell_of_first ∷ [])
    (written_function (private_cell ∷ [])
    (variable 3 1 ∷ variable 0 0 ∷ variable 3 1 ∷ variable 4 0 ∷ variable 1 16 ∷ variable 4 0 ∷ []) (16 ∷ [])
    (constraint 0 0 65535 ∷ constraint 0 1 2 ∷ constraint 4 4 3 ∷ []) 22 ∷ [])
    (variable_opened 2 ∷ constant 1 1 ∷ operator 7 0 1 ∷ constant 1 5 ∷ parameter_read 0 ∷ set_variable 0 4 ∷ parameter_read 0
    ∷ set_variable 2 6 ∷ variable_read 1 ∷ constant 0 1 ∷ set_variable 3 9 ∷ variable_read 4 ∷ assign 1 11 ∷ sequence 10 12
    ∷ constant 0 1 ∷ set_variable 5 14 ∷ skip ∷ sequence 15 16 ∷ conditional 8 13 17 ∷ sequence 7 18 ∷ verify ∷ sequence 19 20
    ∷ sequence 5 21 ∷ []))
    -- "In the body, public expressions stay"; a public parameter stays plain; no constraint, so no verify.
    ∷ is_written (file (uint_field ∷ []) (function (public_uint ∷ []) 5 ∷ []) (parameter_read 0 ∷ constant 1 2 ∷ operator 3 0 1
    ∷ field_read 0 ∷ operator 4 2 3 ∷ assign 0 4 ∷ []))
    (file (uint_field ∷ [])
    (written_function (public_uint ∷ [])
    [] []
    [] 5 ∷ [])
    (parameter_read 0 ∷ constant 1 2 ∷ operator 3 0 1 ∷ field_read 0 ∷ operator 4 2 3 ∷ assign 0 4 ∷ []))
    -- A tagged mapping: an entry read has its key's code, and an entry assigned takes that of the name used as key. The second
    -- function's variables begin at 0, its nodes follow the first's.
    ∷ is_written bank
    (file (tagged_cells ∷ [])
    (written_function (private_cell ∷ [])
    (variable 3 1 ∷ variable 1 1 ∷ variable 3 1 ∷ variable 3 1 ∷ []) (1 ∷ [])
    (constraint 0 0 65535 ∷ constraint 0 1 2 ∷ []) 17 ∷ written_function (public_address ∷ [])
    (variable 1 128 ∷ variable 3 1 ∷ variable 1 1 ∷ []) (128 ∷ 1 ∷ [])
    (constraint 0 0 18 ∷ constraint 0 2 19 ∷ []) 32 ∷ [])
    (variable_opened 2 ∷ variable_opened 3 ∷ operator 0 0 1 ∷ parameter_read 0 ∷ set_variable 0 3 ∷ me ∷ entry_read 0 5
    ∷ set_variable 2 6 ∷ parameter_read 0 ∷ set_variable 3 8 ∷ me ∷ variable_read 1 ∷ assign_entry 0 10 11 ∷ sequence 9 12
    ∷ sequence 7 13 ∷ verify ∷ sequence 14 15 ∷ sequence 4 16 ∷ variable_opened 1 ∷ constant 1 0 ∷ me ∷ entry_read 0 20
    ∷ set_variable 1 21 ∷ parameter_read 0 ∷ variable_read 0 ∷ assign_entry 0 23 24 ∷ sequence 22 25 ∷ me ∷ variable_read 2
    ∷ assign_entry 0 27 28 ∷ sequence 26 29 ∷ verify ∷ sequence 30 31 ∷ []))
    -- A public / in a circuit is a read variable; its operands follow the body rule.
    ∷ is_written (file (final_field ∷ uint_of_first ∷ []) (function (private_uint ∷ public_uint ∷ []) 6 ∷ []) (parameter_read 0
    ∷ parameter_read 1 ∷ constant 1 2 ∷ operator 3 1 2 ∷ operator 0 0 3 ∷ reveal 4 16 ∷ assign 1 5 ∷ []))
    (file (final_field ∷ cell_of_first ∷ [])
    (written_function (private_cell ∷ public_uint ∷ [])
    (variable 3 1 ∷ variable 1 16 ∷ variable 3 1 ∷ variable 2 0 ∷ []) (16 ∷ [])
    (constraint 0 0 65535 ∷ constraint 0 1 2 ∷ []) 17 ∷ [])
    (variable_opened 2 ∷ variable_read 3 ∷ operator 0 0 1 ∷ parameter_read 0 ∷ set_variable 0 3 ∷ parameter_read 0 ∷ set_variable 2 5
    ∷ parameter_read 1 ∷ constant 1 2 ∷ operator 3 7 8 ∷ set_variable 3 9 ∷ variable_read 1 ∷ assign 1 11 ∷ sequence 10 12
    ∷ sequence 6 13 ∷ verify ∷ sequence 14 15 ∷ sequence 4 16 ∷ []))
    -- So is a public %, here of two parameters.
    ∷ is_written (file (final_field ∷ uint_of_first ∷ []) (function (private_uint ∷ public_uint ∷ public_uint ∷ []) 6 ∷ []) (parameter_read 0
    ∷ parameter_read 1 ∷ parameter_read 2 ∷ operator 4 1 2 ∷ operator 0 0 3 ∷ reveal 4 16 ∷ assign 1 5 ∷ []))
    (file (final_field ∷ cell_of_first ∷ [])
    (written_function (private_cell ∷ public_uint ∷ public_uint ∷ [])
    (variable 3 1 ∷ variable 1 16 ∷ variable 3 1 ∷ variable 2 0 ∷ []) (16 ∷ [])
    (constraint 0 0 65535 ∷ constraint 0 1 2 ∷ []) 17 ∷ [])
    (variable_opened 2 ∷ variable_read 3 ∷ operator 0 0 1 ∷ parameter_read 0 ∷ set_variable 0 3 ∷ parameter_read 0 ∷ set_variable 2 5
    ∷ parameter_read 1 ∷ parameter_read 2 ∷ operator 4 7 8 ∷ set_variable 3 9 ∷ variable_read 1 ∷ assign 1 11 ∷ sequence 10 12
    ∷ sequence 6 13 ∷ verify ∷ sequence 14 15 ∷ sequence 4 16 ∷ []))
    -- "The read's own key or operands follow the body rule, and come before its variable.": a reveal to all below a key is supplied.
    ∷ is_written (file (final_field ∷ uint_of_first ∷ uint_mapping ∷ []) (function (private_uint ∷ private_address ∷ []) 6
    ∷ []) (parameter_read 0 ∷ parameter_read 1 ∷ reveal 1 0 ∷ entry_read 2 2 ∷ operator 0 0 3 ∷ reveal 4 16 ∷ assign 1 5 ∷ []))
    (file (final_field ∷ cell_of_first ∷ uint_mapping ∷ [])
    (written_function (private_cell ∷ private_cell ∷ [])
    (variable 3 1 ∷ variable 3 1 ∷ variable 1 16 ∷ variable 3 1 ∷ variable 0 0 ∷ variable 3 1 ∷ variable 2 0 ∷ []) (16 ∷ [])
    (constraint 0 0 65535 ∷ constraint 0 1 65535 ∷ constraint 0 4 0 ∷ constraint 0 2 3 ∷ []) 23 ∷ [])
    (variable_opened 5 ∷ variable_opened 3 ∷ variable_read 6 ∷ operator 0 1 2 ∷ parameter_read 0 ∷ set_variable 0 4 ∷ parameter_read 1
    ∷ set_variable 1 6 ∷ parameter_read 0 ∷ set_variable 3 8 ∷ parameter_read 1 ∷ set_variable 5 10 ∷ variable_read 4
    ∷ entry_read 2 12 ∷ set_variable 6 13 ∷ variable_read 2 ∷ assign 1 15 ∷ sequence 14 16 ∷ sequence 11 17 ∷ sequence 9 18
    ∷ verify ∷ sequence 19 20 ∷ sequence 7 21 ∷ sequence 5 22 ∷ []))
    -- "each once by first use": a key code that two supplied cells need stands once.
    ∷ is_written (file (final_field ∷ uint_of_first ∷ uint_of_first ∷ []) (function (private_uint ∷ []) 6 ∷ []) (parameter_read 0
    ∷ reveal 0 16 ∷ assign 1 1 ∷ parameter_read 0 ∷ reveal 3 16 ∷ assign 2 4 ∷ sequence 2 5 ∷ []))
    (file (final_field ∷ cell_of_first ∷ cell_of_first ∷ [])
    (written_function (private_cell ∷ [])
    (variable 3 1 ∷ variable 1 16 ∷ variable 3 1 ∷ variable 1 16 ∷ variable 3 1 ∷ []) (16 ∷ [])
    (constraint 0 0 65535 ∷ constraint 0 1 0 ∷ constraint 0 3 1 ∷ []) 17 ∷ [])
    (variable_opened 2 ∷ variable_opened 4 ∷ parameter_read 0 ∷ set_variable 0 2 ∷ parameter_read 0 ∷ set_variable 2 4 ∷ variable_read 1
    ∷ assign 1 6 ∷ sequence 5 7 ∷ parameter_read 0 ∷ set_variable 4 9 ∷ variable_read 3 ∷ assign 2 11 ∷ sequence 10 12
    ∷ sequence 8 13 ∷ verify ∷ sequence 14 15 ∷ sequence 3 16 ∷ []))
    -- "A private operator or not is supplied as a cell of owner 1"
    ∷ is_written (file (tagged_bools ∷ []) (function (private_bool ∷ []) 3 ∷ []) (me ∷ parameter_read 0 ∷ negation 1 ∷ assign_entry 0 0 2
    ∷ []))
    (file (tagged_cells ∷ [])
    (written_function (private_cell ∷ [])
    (variable 3 1 ∷ variable 1 1 ∷ variable 3 1 ∷ []) (1 ∷ [])
    (constraint 0 0 65535 ∷ constraint 0 1 1 ∷ []) 12 ∷ [])
    (variable_opened 2 ∷ negation 0 ∷ parameter_read 0 ∷ set_variable 0 2 ∷ parameter_read 0 ∷ set_variable 2 4 ∷ me ∷ variable_read 1
    ∷ assign_entry 0 6 7 ∷ sequence 5 8 ∷ verify ∷ sequence 9 10 ∷ sequence 3 11 ∷ []))
    -- "constraints inside hold under the innermost guard"
    ∷ is_written (contract (parameter_read 0 ∷ constant 1 1 ∷ operator 7 0 1 ∷ reveal 2 0 ∷ constant 0 1 ∷ constant 1 5 ∷ assign 1 5
    ∷ skip ∷ conditional 4 6 7 ∷ skip ∷ conditional 3 8 9 ∷ []))
    (file (final_field ∷ cell_of_first ∷ [])
    (written_function (private_cell ∷ [])
    (variable 3 1 ∷ variable 0 0 ∷ variable 3 1 ∷ variable 4 0 ∷ variable 4 0 ∷ variable 1 16 ∷ variable 4 0 ∷ variable 4 0
    ∷ []) (16 ∷ [])
    (constraint 0 0 65535 ∷ constraint 0 1 2 ∷ constraint 5 5 3 ∷ []) 31 ∷ [])
    (variable_opened 2 ∷ constant 1 1 ∷ operator 7 0 1 ∷ constant 1 5 ∷ parameter_read 0 ∷ set_variable 0 4 ∷ parameter_read 0
    ∷ set_variable 2 6 ∷ variable_read 1 ∷ constant 0 1 ∷ set_variable 3 9 ∷ constant 0 1 ∷ constant 0 1 ∷ set_variable 4 12
    ∷ variable_read 5 ∷ assign 1 14 ∷ sequence 13 15 ∷ constant 0 1 ∷ set_variable 6 17 ∷ skip ∷ sequence 18 19
    ∷ conditional 11 16 20 ∷ sequence 10 21 ∷ constant 0 1 ∷ set_variable 7 23 ∷ skip ∷ sequence 24 25 ∷ conditional 8 22 26
    ∷ sequence 7 27 ∷ verify ∷ sequence 28 29 ∷ sequence 5 30 ∷ []))
    -- "A private place stays a place."
    ∷ is_written (file (tagged_mapping ∷ []) (function [] 3 ∷ []) (me ∷ me ∷ entry_read 0 1 ∷ assign_entry 0 0 2 ∷ []))
    (file (tagged_cells ∷ [])
    (written_function []
    [] []
    [] 3 ∷ [])
    (me ∷ me ∷ entry_read 0 1 ∷ assign_entry 0 0 2 ∷ []))
    ∷ []
