-- Contracts by which the base's rule is told from the amended one, and their numbers by both.
use Rattle.std.specs.Prelude.{◌≡◌, ◌∷◌}
use Rattle.kit.specs.Names.{refl, List, [], ℕ}
use Rattle.definitions.specs.Basics.{any, any_numbered, count_if, largest, flat_map, first_that_holds}
use Rattle.definitions.specs.ContractFile.{field_of, parameter_of, type_of, kind_of, node_of_kind, expression_parts}
use Rattle.definitions.specs.ContractFile.{statement_parts, fields_named, chain_length, expression_of, expression_at, statement_of}
use Rattle.definitions.specs.ContractFile.{statement_at, contract_of, same_name}
use Rattle.definitions.specs.Reading.{functions_passed, nodes_begin, fields_read, parameters_read, functions_read, nodes_read, sections_read}
use Rattle.definitions.specs.Owners.{with_link, name_of, owner_of, links_of_condition, links_after}
use Rattle.definitions.specs.Numbers.{ends_wrongly, count_off_limits, field_in_tables, parameter_in_tables, kind_in_tables, outside_tables}
use Rattle.definitions.specs.Numbers.{names_nothing, uses_of, used_other_than_once, too_deep, wrong_sort, expression_faults}
use Rattle.definitions.specs.Numbers.{statement_faults, contract_faults, check_number}
use Rattle.definitions.proofs.Files.{joined, constant, me, field_read, parameter_read, operator, skip, sequence, assign, require, conditional}
use Rattle.definitions.proofs.Files.{contract}
use Rattle.theory_nothing_lost.specs.Base.{base_links_after, base_statement_faults, base_contract_faults, base_check_number}

-- require h == me; if h == me then `count` takes r, else it takes r; then it takes r.
unfoldable pub guarded : List ℕ
guarded =
    contract (field_read 0 ∷ me ∷ operator 7 0 1 ∷ require 2 ∷ field_read 0 ∷ me ∷ operator 7 4 5 ∷ parameter_read 0 ∷ assign 1 7
    ∷ parameter_read 0 ∷ assign 1 9 ∷ conditional 6 8 10 ∷ parameter_read 0 ∷ assign 1 12 ∷ sequence 11 13 ∷ sequence 3 14 ∷ [])

-- if h == me then `count` takes r, else nothing.
unfoldable pub learnt : List ℕ
learnt = contract (field_read 0 ∷ me ∷ operator 7 0 1 ∷ parameter_read 0 ∷ assign 1 3 ∷ skip ∷ conditional 2 4 5 ∷ [])

-- if true then require h == me, else the same; then `count` takes r.
unfoldable pub joined_behind : List ℕ
joined_behind =
    contract (constant 0 1 ∷ field_read 0 ∷ me ∷ operator 7 1 2 ∷ require 3 ∷ field_read 0 ∷ me ∷ operator 7 5 6 ∷ require 7
    ∷ conditional 0 4 8 ∷ parameter_read 0 ∷ assign 1 10 ∷ sequence 9 11 ∷ [])

pub record Computed : Type 0 where
  pub guarded_before : base_check_number guarded ≡ 0
  pub learnt_before : base_check_number learnt ≡ 15
  pub learnt_now : check_number learnt ≡ 0
  pub joined_before : base_check_number joined_behind ≡ 15
  pub joined_now : check_number joined_behind ≡ 0

pub computed : Computed
unfolding any any_numbered count_if largest flat_map first_that_holds functions_passed nodes_begin fields_read parameters_read functions_read nodes_read sections_read field_of parameter_of type_of kind_of node_of_kind expression_parts statement_parts fields_named chain_length expression_of expression_at statement_of statement_at contract_of ends_wrongly count_off_limits field_in_tables parameter_in_tables kind_in_tables outside_tables names_nothing uses_of used_other_than_once too_deep wrong_sort expression_faults statement_faults contract_faults check_number with_link name_of owner_of links_of_condition links_after same_name joined guarded learnt joined_behind base_links_after base_statement_faults base_contract_faults base_check_number
computed = record { guarded_before = refl; learnt_before = refl; learnt_now = refl; joined_before = refl; joined_now = refl }
