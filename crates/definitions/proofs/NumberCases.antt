-- 01, Numbers given for a bad request, 1 to 15 and 22; Owners: files that have a number and no lower one, and files that have none.
use mathlib.Core.List.{List, [], ◌∷◌, ◌++◌}
use lib.ListN.{replicate}
use Rattle.definitions.proofs.Cases.{Case, has_number, has_section_number}
use Rattle.definitions.proofs.Contracts.{file_a}
use Rattle.definitions.proofs.Files.{field, parameter, function, node, file, final_field, uint_field, uint_of_first, uint_mapping}
use Rattle.definitions.proofs.Files.{tagged_mapping, public_uint, public_address, private_bool, private_uint, private_address}
use Rattle.definitions.proofs.Files.{constant, me, field_read, entry_read, parameter_read, operator, negation, reveal, skip}
use Rattle.definitions.proofs.Files.{sequence, assign, assign_entry, require, conditional, variable_read, variable_opened}
use Rattle.definitions.proofs.Files.{set_variable, verify, contract}

-- Each sentence with a file for which it holds, beside one for which it doesn't where that tells more.
unfoldable pub number_cases : List Case
number_cases =
    -- "1. The file ends too early for its counts, or bytes remain.": bytes remain; too early for a count that is off its limits too.
    has_number (file_a ++ (0 ∷ [])) 1
    ∷ has_number (200 ∷ []) 1
    -- "3. A shape, type, owner code, kind, operator, constant or unused part is outside the tables above."
    ∷ has_number (file (field 3 1 0 ∷ []) (function [] 0 ∷ []) (skip ∷ [])) 3
    ∷ has_number (file (field 0 3 0 ∷ []) (function [] 0 ∷ []) (skip ∷ [])) 3
    -- "A field's owner is 0, 16+f, or 2 for a mapping only."
    ∷ has_number (file (tagged_mapping ∷ []) (function [] 0 ∷ []) (skip ∷ [])) 0
    ∷ has_number (file (field 0 1 1 ∷ []) (function [] 0 ∷ []) (skip ∷ [])) 3
    ∷ has_number (file (field 0 1 2 ∷ []) (function [] 0 ∷ []) (skip ∷ [])) 3
    ∷ has_number (file (field 0 1 3 ∷ []) (function [] 0 ∷ []) (skip ∷ [])) 3
    ∷ has_number (file (field 0 1 15 ∷ []) (function [] 0 ∷ []) (skip ∷ [])) 3
    ∷ has_number (file (field 0 1 80 ∷ []) (function [] 0 ∷ []) (skip ∷ [])) 3
    ∷ has_number (file (field 0 1 127 ∷ []) (function [] 0 ∷ []) (skip ∷ [])) 3
    ∷ has_number (file (field 0 1 128 ∷ []) (function [] 0 ∷ []) (skip ∷ [])) 3
    -- "A final has type 2 and owner 0."
    ∷ has_number (file (final_field ∷ []) (function [] 0 ∷ []) (skip ∷ [])) 0
    ∷ has_number (file (field 1 1 0 ∷ []) (function [] 0 ∷ []) (skip ∷ [])) 3
    ∷ has_number (file (field 1 2 16 ∷ []) (function [] 0 ∷ []) (skip ∷ [])) 3
    -- "a type and an owner (0 or 1) for each parameter"
    ∷ has_number (file [] (function (parameter 3 0 ∷ []) 0 ∷ []) (skip ∷ [])) 3
    ∷ has_number (file [] (function (parameter 1 2 ∷ []) 0 ∷ []) (skip ∷ [])) 3
    -- "Kinds (decimal)": none of those that only a written file has.
    ∷ has_number (file [] (function [] 0 ∷ []) (node 0 0 0 0 0 ∷ [])) 3
    ∷ has_number (file [] (function [] 0 ∷ []) (variable_read 0 ∷ [])) 3
    ∷ has_number (file [] (function [] 0 ∷ []) (variable_opened 0 ∷ [])) 3
    ∷ has_number (file [] (function [] 0 ∷ []) (node 15 0 0 0 0 ∷ [])) 3
    ∷ has_number (file [] (function [] 0 ∷ []) (set_variable 0 0 ∷ [])) 3
    ∷ has_number (file [] (function [] 0 ∷ []) (verify ∷ [])) 3
    -- "bool 0 or 1, address 0 to 15"; operators 0 to 10.
    ∷ has_number (file [] (function [] 1 ∷ []) (constant 0 1 ∷ require 0 ∷ [])) 0
    ∷ has_number (file [] (function [] 1 ∷ []) (constant 0 2 ∷ require 0 ∷ [])) 3
    ∷ has_number (file [] (function [] 3 ∷ []) (constant 2 15 ∷ constant 2 15 ∷ operator 7 0 1 ∷ require 2 ∷ [])) 0
    ∷ has_number (file [] (function [] 3 ∷ []) (constant 2 16 ∷ constant 2 15 ∷ operator 7 0 1 ∷ require 2 ∷ [])) 3
    ∷ has_number (file [] (function [] 1 ∷ []) (node 1 3 0 0 0 ∷ require 0 ∷ [])) 3
    ∷ has_number (file [] (function [] 3 ∷ []) (constant 0 1 ∷ constant 0 1 ∷ operator 11 0 1 ∷ require 2 ∷ [])) 3
    -- "reveal first to owner code arg (0, 1, 16+f, 128+k)"
    ∷ has_number (contract (parameter_read 0 ∷ reveal 0 2 ∷ assign 1 1 ∷ [])) 3
    ∷ has_number (contract (parameter_read 0 ∷ reveal 0 80 ∷ assign 1 1 ∷ [])) 3
    ∷ has_number (contract (parameter_read 0 ∷ reveal 0 136 ∷ assign 1 1 ∷ [])) 3
    -- "Parts that a kind doesn't use are zero."
    ∷ has_number (file [] (function [] 0 ∷ []) (node 16 1 0 0 0 ∷ [])) 3
    ∷ has_number (file [] (function [] 0 ∷ []) (node 16 0 1 0 0 ∷ [])) 3
    ∷ has_number (file [] (function [] 0 ∷ []) (node 16 0 0 1 0 ∷ [])) 3
    ∷ has_number (file [] (function [] 0 ∷ []) (node 16 0 0 0 1 ∷ [])) 3
    ∷ has_number (file [] (function [] 1 ∷ []) (constant 0 1 ∷ node 20 0 0 1 0 ∷ [])) 3
    ∷ has_number (file [] (function [] 1 ∷ []) (node 1 0 1 0 1 ∷ require 0 ∷ [])) 3
    ∷ has_number (file [] (function [] 2 ∷ []) (skip ∷ skip ∷ node 17 1 0 1 0 ∷ [])) 3
    -- "4. A field number, in owner codes too, names nothing, a root is no node, or a child's number isn't below its parent's."
    ∷ has_number (contract (parameter_read 0 ∷ reveal 0 16 ∷ assign 2 1 ∷ [])) 4
    ∷ has_number (file (field 0 1 17 ∷ []) (function [] 0 ∷ []) (skip ∷ [])) 4
    ∷ has_number (contract (parameter_read 0 ∷ reveal 0 18 ∷ assign 1 1 ∷ [])) 4
    ∷ has_number (file [] (function [] 1 ∷ []) (skip ∷ [])) 4
    ∷ has_number (file [] (function [] 0 ∷ []) []) 4
    ∷ has_number (file [] (function [] 1 ∷ []) (skip ∷ sequence 0 1 ∷ [])) 4
    -- "5. A node is used other than once, as a root or a child.": twice, and never.
    ∷ has_number (file [] (function [] 1 ∷ []) (skip ∷ sequence 0 0 ∷ [])) 5
    ∷ has_number (file [] (function [] 0 ∷ []) (skip ∷ skip ∷ [])) 5
    -- "7. A statement stands where an expression is due, or the reverse.": as a root too.
    ∷ has_number (file [] (function [] 0 ∷ []) (constant 0 1 ∷ [])) 7
    ∷ has_number (file [] (function [] 1 ∷ []) (skip ∷ require 0 ∷ [])) 7
    ∷ has_number (file [] (function [] 2 ∷ []) (constant 0 1 ∷ skip ∷ sequence 0 1 ∷ [])) 7
    ∷ has_number (file [] (function [] 3 ∷ []) (skip ∷ skip ∷ skip ∷ conditional 0 1 2 ∷ [])) 7
    -- "8. The field's shape doesn't suit the node (3 takes 0 or 1; 18 takes 0; 4 and 19 take 2)"
    ∷ has_number (file (final_field ∷ []) (function [] 3 ∷ []) (field_read 0 ∷ me ∷ operator 7 0 1 ∷ require 2 ∷ [])) 0
    ∷ has_number (file (uint_mapping ∷ uint_field ∷ []) (function [] 1 ∷ []) (field_read 0 ∷ assign 1 0 ∷ [])) 8
    ∷ has_number (file (final_field ∷ []) (function [] 1 ∷ []) (me ∷ assign 0 0 ∷ [])) 8
    ∷ has_number (file (uint_mapping ∷ []) (function [] 1 ∷ []) (constant 1 1 ∷ assign 0 0 ∷ [])) 8
    ∷ has_number (file (uint_field ∷ uint_field ∷ []) (function [] 2 ∷ []) (me ∷ entry_read 0 0 ∷ assign 1 1 ∷ [])) 8
    ∷ has_number (file (uint_field ∷ []) (function [] 2 ∷ []) (me ∷ constant 1 1 ∷ assign_entry 0 0 1 ∷ [])) 8
    -- "an owner code's field isn't final": of a field, and of a reveal.
    ∷ has_number (file (uint_field ∷ uint_of_first ∷ []) (function [] 0 ∷ []) (skip ∷ [])) 8
    ∷ has_number (contract (parameter_read 0 ∷ reveal 0 17 ∷ assign 1 1 ∷ [])) 8
    -- "a parameter is missing, or an owner code's parameter isn't a public address"
    ∷ has_number (contract (parameter_read 1 ∷ reveal 0 16 ∷ assign 1 1 ∷ [])) 8
    ∷ has_number (file (uint_field ∷ []) (function (private_uint ∷ private_address ∷ []) 2 ∷ []) (parameter_read 0 ∷ reveal 0 129
    ∷ assign 0 1 ∷ [])) 8
    ∷ has_number (file (uint_field ∷ []) (function (private_uint ∷ public_uint ∷ []) 2 ∷ []) (parameter_read 0 ∷ reveal 0 129 ∷ assign 0 1
    ∷ [])) 8
    ∷ has_number (file (uint_field ∷ []) (function (private_uint ∷ public_address ∷ []) 2 ∷ []) (parameter_read 0 ∷ reveal 0 129
    ∷ assign 0 1 ∷ [])) 15
    -- "9. A data type doesn't fit; keys are addresses, conditions are bools."
    ∷ has_number (file [] (function [] 3 ∷ []) (constant 0 1 ∷ constant 0 1 ∷ operator 0 0 1 ∷ require 2 ∷ [])) 9
    ∷ has_number (file [] (function [] 3 ∷ []) (constant 1 1 ∷ constant 0 1 ∷ operator 7 0 1 ∷ require 2 ∷ [])) 9
    ∷ has_number (file [] (function [] 3 ∷ []) (constant 1 1 ∷ constant 1 1 ∷ operator 9 0 1 ∷ require 2 ∷ [])) 9
    ∷ has_number (file [] (function [] 2 ∷ []) (constant 1 1 ∷ negation 0 ∷ require 1 ∷ [])) 9
    ∷ has_number (file [] (function [] 1 ∷ []) (constant 1 1 ∷ require 0 ∷ [])) 9
    ∷ has_number (file [] (function [] 3 ∷ []) (constant 1 1 ∷ skip ∷ skip ∷ conditional 0 1 2 ∷ [])) 9
    ∷ has_number (file (uint_field ∷ []) (function [] 1 ∷ []) (constant 0 1 ∷ assign 0 0 ∷ [])) 9
    ∷ has_number (file (uint_mapping ∷ []) (function [] 2 ∷ []) (constant 1 1 ∷ constant 1 1 ∷ assign_entry 0 0 1 ∷ [])) 9
    -- "10. A key isn't public, or a tagged mapping's key isn't a name."
    ∷ has_number (file (uint_mapping ∷ []) (function (private_address ∷ []) 2 ∷ []) (parameter_read 0 ∷ constant 1 1 ∷ assign_entry 0 0 1
    ∷ [])) 10
    ∷ has_number (file (tagged_mapping ∷ []) (function [] 2 ∷ []) (constant 2 3 ∷ constant 1 1 ∷ assign_entry 0 0 1 ∷ [])) 10
    ∷ has_number (file (uint_mapping ∷ []) (function [] 2 ∷ []) (constant 2 3 ∷ constant 1 1 ∷ assign_entry 0 0 1 ∷ [])) 0
    ∷ has_number (file (tagged_mapping ∷ []) (function (public_address ∷ []) 2 ∷ []) (parameter_read 0 ∷ constant 1 1 ∷ assign_entry 0 0 1
    ∷ [])) 0
    -- "11. A place read, or an operand of an operator, not or reveal, has an owner neither all nor caller.": a place of h, and an entry
    -- of another.
    ∷ has_number (contract (parameter_read 0 ∷ field_read 1 ∷ assign 1 1 ∷ assign 1 0 ∷ sequence 2 3 ∷ [])) 11
    ∷ has_number (file (tagged_mapping ∷ []) (function (public_address ∷ []) 3 ∷ []) (parameter_read 0 ∷ entry_read 0 0 ∷ parameter_read 0
    ∷ assign_entry 0 2 1 ∷ [])) 11
    ∷ has_number (file (tagged_mapping ∷ []) (function [] 3 ∷ []) (me ∷ entry_read 0 0 ∷ me ∷ assign_entry 0 2 1 ∷ [])) 0
    -- A reveal to h belongs to h: as an operand it is no value of the caller.
    ∷ has_number (contract (parameter_read 0 ∷ reveal 0 16 ∷ constant 1 1 ∷ operator 0 1 2 ∷ assign 1 3 ∷ [])) 11
    -- "12. Operator 3 or 4 has a private operand.": the left one, the right one; / and %.
    ∷ has_number (contract (constant 1 2 ∷ parameter_read 0 ∷ operator 3 0 1 ∷ assign 1 2 ∷ [])) 12
    ∷ has_number (contract (parameter_read 0 ∷ constant 1 2 ∷ operator 4 0 1 ∷ assign 1 2 ∷ [])) 12
    ∷ has_number (file (uint_field ∷ []) (function (public_uint ∷ []) 3 ∷ []) (parameter_read 0 ∷ constant 1 2 ∷ operator 3 0 1
    ∷ assign 0 2 ∷ [])) 0
    -- "14. The condition of a require or an if isn't public.": of an if; a not of a private value is private.
    ∷ has_number (file [] (function (private_bool ∷ []) 3 ∷ []) (parameter_read 0 ∷ skip ∷ skip ∷ conditional 0 1 2 ∷ [])) 14
    ∷ has_number (file [] (function (private_bool ∷ []) 2 ∷ []) (parameter_read 0 ∷ negation 0 ∷ require 1 ∷ [])) 14
    -- "15. An assigned value's owner is neither all nor linked to the place's owner": a private value for a public place; me for h.
    ∷ has_number (file (uint_field ∷ []) (function (private_uint ∷ []) 1 ∷ []) (parameter_read 0 ∷ assign 0 0 ∷ [])) 15
    ∷ has_number (contract (parameter_read 0 ∷ reveal 0 1 ∷ assign 1 1 ∷ [])) 15
    ∷ has_number (contract (constant 1 7 ∷ assign 1 0 ∷ [])) 0
    -- "The first sentence that holds gives the number": a later 9 goes before an earlier 15, in another function too.
    ∷ has_number (contract (parameter_read 0 ∷ assign 1 0 ∷ constant 1 1 ∷ require 2 ∷ sequence 1 3 ∷ [])) 9
    ∷ has_number (file (final_field ∷ uint_of_first ∷ []) (function (private_uint ∷ []) 1 ∷ function [] 3 ∷ []) (parameter_read 0
    ∷ assign 1 0 ∷ constant 1 1 ∷ require 2 ∷ [])) 9
    -- "Links are chained.": h == g, then g == me; "or of an "and" tree holding such".
    ∷ has_number (file (final_field ∷ final_field ∷ uint_of_first ∷ []) (function (private_uint ∷ []) 11 ∷ []) (field_read 0 ∷ field_read 1
    ∷ operator 7 0 1 ∷ require 2 ∷ field_read 1 ∷ me ∷ operator 7 4 5 ∷ require 6 ∷ parameter_read 0 ∷ assign 2 8 ∷ sequence 7 9
    ∷ sequence 3 10 ∷ [])) 0
    ∷ has_number (file (final_field ∷ final_field ∷ uint_of_first ∷ []) (function (private_uint ∷ []) 10 ∷ []) (field_read 0 ∷ field_read 1
    ∷ operator 7 0 1 ∷ field_read 1 ∷ me ∷ operator 7 3 4 ∷ operator 9 2 5 ∷ require 6 ∷ parameter_read 0 ∷ assign 2 8
    ∷ sequence 7 9 ∷ [])) 0
    -- No links from an "or", a "not", an unequal; a constant address is no name.
    ∷ has_number (contract (field_read 0 ∷ me ∷ operator 7 0 1 ∷ constant 0 1 ∷ operator 10 2 3 ∷ require 4 ∷ parameter_read 0
    ∷ assign 1 6 ∷ sequence 5 7 ∷ [])) 15
    ∷ has_number (contract (field_read 0 ∷ me ∷ operator 8 0 1 ∷ negation 2 ∷ require 3 ∷ parameter_read 0 ∷ assign 1 5 ∷ sequence 4 6
    ∷ [])) 15
    ∷ has_number (contract (field_read 0 ∷ me ∷ operator 8 0 1 ∷ require 2 ∷ parameter_read 0 ∷ assign 1 4 ∷ sequence 3 5 ∷ [])) 15
    ∷ has_number (file (final_field ∷ final_field ∷ uint_of_first ∷ []) (function (private_uint ∷ []) 11 ∷ []) (field_read 0 ∷ constant 2 3
    ∷ operator 7 0 1 ∷ require 2 ∷ me ∷ constant 2 3 ∷ operator 7 4 5 ∷ require 6 ∷ parameter_read 0 ∷ assign 2 8 ∷ sequence 7 9
    ∷ sequence 3 10 ∷ [])) 15
    -- ".. for what follows in sequence": not for what stands before, nor for the condition itself, nor in another function.
    ∷ has_number (contract (parameter_read 0 ∷ assign 1 0 ∷ field_read 0 ∷ me ∷ operator 7 2 3 ∷ require 4 ∷ sequence 1 5 ∷ [])) 15
    ∷ has_number (contract (field_read 0 ∷ me ∷ operator 7 0 1 ∷ field_read 1 ∷ constant 1 1 ∷ operator 7 3 4 ∷ reveal 5 0
    ∷ operator 9 2 6 ∷ require 7 ∷ [])) 11
    ∷ has_number (file (final_field ∷ uint_of_first ∷ []) (function (private_uint ∷ []) 3 ∷ function (private_uint ∷ []) 5
    ∷ []) (field_read 0 ∷ me ∷ operator 7 0 1 ∷ require 2 ∷ parameter_read 0 ∷ assign 1 4 ∷ [])) 15
    -- Links from before an if: in both branches, and behind it.
    ∷ has_number (contract (field_read 0 ∷ me ∷ operator 7 0 1 ∷ require 2 ∷ constant 0 1 ∷ parameter_read 0 ∷ assign 1 5
    ∷ parameter_read 0 ∷ assign 1 7 ∷ conditional 4 6 8 ∷ parameter_read 0 ∷ assign 1 10 ∷ sequence 9 11 ∷ sequence 3 12 ∷ [])) 0
    -- 02, Note 1: "The then-branch should know the links its condition states": for 15, and for 11.
    ∷ has_number (contract (field_read 0 ∷ me ∷ operator 7 0 1 ∷ parameter_read 0 ∷ assign 1 3 ∷ skip ∷ conditional 2 4 5 ∷ [])) 0
    ∷ has_number (contract (field_read 0 ∷ me ∷ operator 7 0 1 ∷ field_read 1 ∷ constant 1 1 ∷ operator 0 3 4 ∷ assign 1 5 ∷ skip
    ∷ conditional 2 6 7 ∷ [])) 0
    -- "by the same reading as a require": below an "and", not below an "or"; the condition itself is judged with the links before it.
    ∷ has_number (contract (constant 0 1 ∷ field_read 0 ∷ me ∷ operator 7 1 2 ∷ operator 9 0 3 ∷ parameter_read 0 ∷ assign 1 5 ∷ skip
    ∷ conditional 4 6 7 ∷ [])) 0
    ∷ has_number (contract (constant 0 1 ∷ field_read 0 ∷ me ∷ operator 7 1 2 ∷ operator 10 0 3 ∷ parameter_read 0 ∷ assign 1 5 ∷ skip
    ∷ conditional 4 6 7 ∷ [])) 15
    ∷ has_number (contract (field_read 0 ∷ me ∷ operator 7 0 1 ∷ field_read 1 ∷ constant 1 1 ∷ operator 7 3 4 ∷ reveal 5 0
    ∷ operator 9 2 6 ∷ skip ∷ skip ∷ conditional 7 8 9 ∷ [])) 11
    -- "The else-branch learns nothing from the condition.": it, and what follows, is refused.
    ∷ has_number (contract (field_read 0 ∷ me ∷ operator 7 0 1 ∷ skip ∷ parameter_read 0 ∷ assign 1 4 ∷ conditional 2 3 5 ∷ [])) 15
    ∷ has_number (contract (field_read 0 ∷ me ∷ operator 7 0 1 ∷ skip ∷ skip ∷ conditional 2 3 4 ∷ parameter_read 0 ∷ assign 1 6
    ∷ sequence 5 7 ∷ [])) 15
    -- "After an if, a pair of names is linked when it was linked at the end of both branches.": by the condition and by a require; in the
    -- else-branch alone; h and g in the one, h and me in the other.
    ∷ has_number (contract (field_read 0 ∷ me ∷ operator 7 0 1 ∷ skip ∷ field_read 0 ∷ me ∷ operator 7 4 5 ∷ require 6 ∷ conditional 2 3 7
    ∷ parameter_read 0 ∷ assign 1 9 ∷ sequence 8 10 ∷ [])) 0
    ∷ has_number (contract (constant 0 1 ∷ skip ∷ field_read 0 ∷ me ∷ operator 7 2 3 ∷ require 4 ∷ conditional 0 1 5
    ∷ parameter_read 0 ∷ assign 1 7 ∷ sequence 6 8 ∷ [])) 15
    ∷ has_number (file (final_field ∷ final_field ∷ uint_of_first ∷ []) (function (private_uint ∷ []) 12 ∷ []) (constant 0 1 ∷ field_read 0
    ∷ field_read 1 ∷ operator 7 1 2 ∷ require 3 ∷ field_read 0 ∷ me ∷ operator 7 5 6 ∷ require 7 ∷ conditional 0 4 8 ∷ parameter_read 0
    ∷ assign 2 10 ∷ sequence 9 11 ∷ [])) 15
    -- Of the chained relations: h == g and g == me in the one, h == me in the other.
    ∷ has_number (file (final_field ∷ final_field ∷ uint_of_first ∷ []) (function (private_uint ∷ []) 17 ∷ []) (constant 0 1 ∷ field_read 0
    ∷ field_read 1 ∷ operator 7 1 2 ∷ require 3 ∷ field_read 1 ∷ me ∷ operator 7 5 6 ∷ require 7 ∷ sequence 4 8 ∷ field_read 0 ∷ me
    ∷ operator 7 10 11 ∷ require 12 ∷ conditional 0 9 13 ∷ parameter_read 0 ∷ assign 2 15 ∷ sequence 14 16 ∷ [])) 0
    -- A public address parameter is a name, a private one none.
    ∷ has_number (file (final_field ∷ uint_of_first ∷ []) (function (private_uint ∷ public_address ∷ []) 11 ∷ []) (field_read 0
    ∷ parameter_read 1 ∷ operator 7 0 1 ∷ require 2 ∷ parameter_read 1 ∷ me ∷ operator 7 4 5 ∷ require 6 ∷ parameter_read 0
    ∷ assign 1 8 ∷ sequence 7 9 ∷ sequence 3 10 ∷ [])) 0
    -- "a section 1, 2, 22": "22. A section number is above 2."
    ∷ has_section_number file_a 2 0
    ∷ has_section_number file_a 3 22
    ∷ has_section_number [] 3 1
    ∷ has_section_number (0 ∷ 0 ∷ 0 ∷ 0 ∷ []) 3 2
    ∷ []

-- The limits of counts, apart from the others: files of many parts take long to compute.
unfoldable pub limit_cases : List Case
limit_cases =
    -- "2. A count is off its limits.": "0 to 64" fields, "1 to 16" functions, "0 to 8" parameters, "0 to 512" nodes.
    has_number (0 ∷ 0 ∷ 0 ∷ 0 ∷ []) 2
    ∷ has_number (file (replicate 64 uint_field) (function [] 0 ∷ []) (skip ∷ [])) 0
    ∷ has_number (file (replicate 65 uint_field) (function [] 0 ∷ []) (skip ∷ [])) 2
    ∷ has_number (file [] (replicate 17 (function [] 0)) (skip ∷ [])) 2
    -- Sixteen functions are let pass; that they share a node is 5.
    ∷ has_number (file [] (replicate 16 (function [] 0)) (skip ∷ [])) 5
    ∷ has_number (file [] (function (replicate 8 public_uint) 0 ∷ []) (skip ∷ [])) 0
    ∷ has_number (file [] (function (replicate 9 public_uint) 0 ∷ []) (skip ∷ [])) 2
    ∷ has_section_number (file [] (function [] 0 ∷ []) (replicate 512 skip)) 0 0
    ∷ has_section_number (file [] (function [] 0 ∷ []) (replicate 513 skip)) 0 2
    ∷ []
