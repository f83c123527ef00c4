-- Document 01's rule on links as it stood before 02's Note 1, and what checking and writing then answered: kept for one theorem, that the
-- Note loses nothing.
use Rattle.std.specs.Prelude.{◌∷◌, ◌++◌}
use Rattle.kit.specs.Names.{Bool, cond, List, [], map, ℕ, eqb, ltb, length, drop}
use Rattle.definitions.specs.Basics.{any, flat_map, first_that_holds}
use Rattle.definitions.specs.ContractFile.{Statement, skip, sequence, assign_field, assign_entry, require, conditional, Field, Function}
use Rattle.definitions.specs.ContractFile.{Contract, Scope, sections_of, contract_of}
use Rattle.definitions.specs.Owners.{Links, no_links, links_of_condition}
use Rattle.definitions.specs.Numbers.{condition_faults, statement_faults, field_faults, ends_wrongly, count_off_limits, outside_tables}
use Rattle.definitions.specs.Numbers.{names_nothing, used_other_than_once, too_deep, wrong_sort, or_else}
use Rattle.definitions.specs.Rewriting.{written_file}

module _ (scope : Scope) where
  -- 01, Owners: "An if gives on the links it was given, and nothing from inside."
  unfoldable pub base_links_after : Statement → Links → Links
  base_links_after skip linked = linked
  base_links_after (sequence first second) linked = base_links_after second (base_links_after first linked)
  base_links_after (assign_field f value) linked = linked
  base_links_after (assign_entry f key value) linked = linked
  base_links_after (require condition) linked = links_of_condition scope condition linked
  base_links_after (conditional condition then else) linked = linked

  unfoldable pub base_statement_faults : Links → Statement → List ℕ
  base_statement_faults linked skip = []
  base_statement_faults linked (sequence first second) =
      base_statement_faults linked first
      ++ base_statement_faults (base_links_after first linked) second
  base_statement_faults linked (assign_field f value) = statement_faults scope linked (assign_field f value)
  base_statement_faults linked (assign_entry f key value) = statement_faults scope linked (assign_entry f key value)
  base_statement_faults linked (require condition) = condition_faults scope linked condition
  base_statement_faults linked (conditional condition then else) =
      condition_faults scope linked condition
      ++ base_statement_faults linked then
      ++ base_statement_faults linked else

abbrev pub base_function_faults : List Field → Function → List ℕ
base_function_faults fields g =
    base_statement_faults (record { fields = fields; parameters = g.parameters }) no_links g.body

unfoldable pub base_contract_faults : Contract → List ℕ
base_contract_faults c =
    flat_map (field_faults c.fields) c.fields
    ++ flat_map (base_function_faults c.fields) c.functions

abbrev pub base_contract_sentences : Contract → List Bool
base_contract_sentences c =
    let faults = base_contract_faults c in
    map (λ n. any (eqb n) faults) (8 ∷ 9 ∷ 10 ∷ 11 ∷ 12 ∷ 13 ∷ 14 ∷ 15 ∷ [])

unfoldable pub base_check_number : List ℕ → ℕ
base_check_number file =
    let s = sections_of file in
    first_that_holds 1 (ends_wrongly file
    ∷ count_off_limits file
    ∷ outside_tables s
    ∷ names_nothing s
    ∷ used_other_than_once s
    ∷ too_deep s
    ∷ wrong_sort s
    ∷ base_contract_sentences (contract_of s))

unfoldable pub base_write_number : List ℕ → ℕ → ℕ
base_write_number file room =
    or_else (base_check_number file) (first_that_holds 16 (ltb room (length (written_file file)) ∷ []))

unfoldable pub base_output_after_writing : List ℕ → List ℕ → List ℕ
base_output_after_writing file out =
    cond (eqb (base_write_number file (length out)) 0)
    (written_file file ++ drop (length (written_file file)) out)
    out
