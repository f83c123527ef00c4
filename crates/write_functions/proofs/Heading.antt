-- The heading that a log and the claims' numbers tell is the written function's.
use Rattle.std.specs.Prelude.{◌≡◌, ◌+◌, ◌*◌, ◌-◌, ◌/◌, ◌≤◌}
use Rattle.kit.specs.Names.{refl, ap, sym, ◌∙◌, subst, List, ℕ, zero, suc, arith, length, take}
use Rattle.kit.specs.Names.{length-take-le, get_or-take}
use Rattle.definitions.specs.ContractFile.{byte_at}
use Rattle.definitions.specs.Rewriting.{sizes, command_tree, function_trees, constraint_bytes, function_bytes}
use Rattle.theory_trees.specs.Trees.{statement_in}
use Rattle.memory_append.specs.Append.{Appended}
use Rattle.file_accepted.specs.Context.{nodes_in, fields_in, parameters_in, scope_in}
use Rattle.file_accepted.specs.Functions.{root_at}
use Rattle.rewrite_events.specs.Events.{variable_count}
use Rattle.rewrite_log.specs.Entries.{Entries}
use Rattle.write_variables.specs.Variables.{owners_fit}
use Rattle.write_variables.proofs.Links.{claims_told}
use Rattle.write_heading_laws.proofs.Heading.{heading_told}
use Rattle.write_headings.specs.Parts.{claims_of, heading_parts, HeadingFits}
use Rattle.write_headings.proofs.Parts.{heading_is}
use Rattle.write_nodes.proofs.TreeNodes.{size_positive}
use Rattle.write_circuits.specs.Circuits.{sixes_from}
use Rattle.write_function_room.specs.Functions.{written_in, events_in}
use Rattle.write_functions.specs.declared.Parts.{Parts}
use Rattle.write_functions.specs.Writing.{constraints_in, HeadingReady}
use Rattle.write_functions.proofs.Written.{trees_counted}

heading_parts_law : (file : List ℕ) (at base : ℕ) (log : List ℕ) → Entries (nodes_in file) (events_in file at) log → owners_fit (events_in file at)
    → heading_parts file at (variable_count (events_in file at)) log (constraint_bytes base (constraints_in file at)) (base + sizes (function_trees (written_in file at)) - 1)
    ≡ function_bytes base (written_in file at)
unfolding parameters_in
heading_parts_law file at base log entries fit =
    sym (heading_is file at (variable_count (events_in file at)) log (constraint_bytes base (constraints_in file at)) (base + sizes (function_trees (written_in file at)) - 1))
    ∙ sym (heading_told (fields_in file) (nodes_in file) file (at + 1) (byte_at file at) (statement_in (nodes_in file) (root_at file at)) log entries fit base)

-- Claims are read from the first numbers as from all of them.
front_sixes : (numbers : List ℕ) (n from count : ℕ) → from + 4 * count ≤ n → sixes_from (take n numbers) from count ≡ sixes_from numbers from count
unfolding sixes_from
front_sixes numbers n from zero h = refl
front_sixes numbers n from (suc count) h =
    rw (get_or-take n numbers from 0 (omega arith), get_or-take n numbers (from + 1) 0 (omega arith), get_or-take n numbers (from + 3) 0 (omega arith), front_sixes numbers n (from + 4) count (omega arith))

claims_front : (numbers : List ℕ) (count : ℕ) → 4 * count ≤ length numbers → claims_of (take (4 * count) numbers) ≡ sixes_from numbers 0 count
claims_front numbers count fits =
    let fours : length (take (4 * count) numbers) / 4 ≡ count = omega (arith, length-take-le (4 * count) numbers fits) in
    ap (sixes_from (take (4 * count) numbers) 0) fours ∙ front_sixes numbers (4 * count) 0 count (omega arith)

module _ (file : List ℕ) (at : ℕ) (log numbers headings : List ℕ) (from : ℕ) (parts : Parts) (base total : ℕ)
    (ready : HeadingReady file at log numbers headings from parts base total) where
  -- The heading of the log and the numbers, as far as they are told.
  abbrev parts_given : List ℕ
  parts_given = heading_parts file at parts.made (take parts.logged log) (claims_of (take (4 * parts.claims) numbers)) (base + total - 1)

  pub some_nodes : 1 ≤ total
  some_nodes = omega (arith, ready.whole, trees_counted file at, size_positive (command_tree (written_in file at).body))

  parts_are : parts_given ≡ function_bytes base (written_in file at)
  parts_are =
      let front = claims_front numbers parts.claims ready.told.fours ∙ ready.told.bytes in
      rw (ready.told.made, front, ready.whole) (heading_parts_law file at base (take parts.logged log) ready.told.entries ready.room.owners)

  pub heading_asked : HeadingFits file at parts.made (take parts.logged log) (claims_of (take (4 * parts.claims) numbers)) (base + total - 1) from (length headings)
  heading_asked =
      record {
        near = ready.room.context.near_function;
        variables = omega (arith, ready.told.made, ready.room.variables);
        constraints = omega (arith, claims_told (nodes_in file) (scope_in file at) ready.told.entries, ready.room.claims, ready.room.variables, ready.room.events);
        bytes = omega (arith, ap length parts_are, ready.room.heading_by_parts, ready.heading_space);
      }

  pub heading_written : (after : List ℕ) (end : ℕ) → Appended headings after from parts_given end → Appended headings after from (function_bytes base (written_in file at)) end
  heading_written after end a = subst (λ (l : List ℕ). Appended headings after from l end) parts_are a
