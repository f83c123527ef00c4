-- Cases that pin the definitions: what each says, and the test that decides it.
use mathlib.Core.Path.{◌≡◌, refl, ap, ap₂, sym}
use mathlib.Core.Bool.{Bool, true, false, ◌&&◌, false≢true}
use mathlib.Core.List.Memᴰ
use mathlib.Core.List.{List, [], ◌∷◌, zip_with, Memᴰ}
use mathlib.Core.Logic.{⊎_elim}
use mathlib.Core.Path.{subst}
use Prim.Native.Nat.{ℕ}
use lib.Dec.{T, eqb, eqb→eq}
use lib.ListN.{length}
use Rattle.definitions.specs.Basics.{bit, all, any, any_numbered, count_if, largest, flat_map, first_that_holds}
use Rattle.definitions.specs.Ledger.{Ledger, deploy_number, deployed, all_fit, public_of, is_well_formed, not_callable, arguments_off}
use Rattle.definitions.specs.Ledger.{call_number, call_with, honest_contents, honest_variables, honest_parameters, ledger_after_call}
use Rattle.definitions.specs.Ledger.{circuit_value, content_of, is_walked, state_after, walk_completes}
use Rattle.definitions.specs.Reading.{functions_passed, nodes_begin, fields_read, parameters_read, functions_read, nodes_read, sections_read}
use Rattle.definitions.specs.Reading.{part_read}
use Rattle.definitions.specs.ContractFile.{contract_in, field_of, parameter_of, type_of, kind_of, node_of_kind}
use Rattle.definitions.specs.ContractFile.{expression_parts, statement_parts, fields_named, chain_length, expression_of, expression_at}
use Rattle.definitions.specs.ContractFile.{statement_of, statement_at, contract_of, Operator, same_name}
use Rattle.definitions.specs.Numbers.{ends_wrongly, count_off_limits, field_in_tables, parameter_in_tables, kind_in_tables, outside_tables}
use Rattle.definitions.specs.Numbers.{names_nothing, uses_of, used_other_than_once, too_deep, wrong_sort, expression_faults}
use Rattle.definitions.specs.Numbers.{statement_faults, contract_faults, check_number, section_number, section_answer}
use Rattle.definitions.specs.Original.{operate, value, is_worked_out, places_after, completes, disclosed, disclosed_by}
use Rattle.definitions.specs.Original.{original_completes, original_after, original_discloses, numbers_from, per_place, position}
use Rattle.definitions.specs.Original.{deployed_numbers}
use Rattle.definitions.specs.Owners.{with_link, name_of, owner_of, links_of_condition, links_after}
use Rattle.definitions.specs.Crossings.{origins_at, written_function_end, origins_from, origins_in, crossings_in, total_in, crossings_after_writing}
use Rattle.definitions.specs.Report.{tallies, insert, sorted, digits, report_text, report_number, report_length, output_after_report}
use Rattle.definitions.specs.Report.{refused_line}
use Rattle.definitions.specs.Rewriting.{kept, one_part, two_parts, supplying, reading, steps_before, single, in_sequence, in_branch}
use Rattle.definitions.specs.Rewriting.{in_branches, rewrite_statement, private_parameters, openings, rewrite_function, rewrite, in_body}
use Rattle.definitions.specs.Rewriting.{in_circuit, size, numbered, body_tree, circuit_tree, command_tree, sizes, numbered_all, each_once}
use Rattle.definitions.specs.Rewriting.{constraint_bytes, function_written, functions_written, contract_written, written_file, write_number}
use Rattle.definitions.specs.Rewriting.{written_length, output_after_writing}
use Rattle.definitions.specs.View.{Request, run_at_deployment, is_taken, run_after, disclosed_in, disclosed_on, disclosed_number}
use Rattle.definitions.specs.View.{disclosed_length, output_after_disclosing, views_after, disclosures, item_for, items_for, item_bytes}
use Rattle.definitions.specs.View.{view_bytes, view_number, view_length, output_after_view}

pub data Case : Type 0 where
  -- a file, and its number from checking
  has_number : List ℕ → ℕ → Case
  -- a file, the number of a section, and the number that asking for it gets; and that part
  has_section_number : List ℕ → ℕ → ℕ → Case
  has_section : List ℕ → ℕ → List ℕ → Case
  -- a file, and the file written for it
  is_written : List ℕ → List ℕ → Case
  -- a file and the lent output; writing's number and length, and the output afterwards
  writes : List ℕ → List ℕ → ℕ → ℕ → List ℕ → Case
  -- a file, how long the lent output is, and the count of each of sixteen functions that writing hands back
  hands_back : List ℕ → ℕ → List ℕ → Case
  -- a file, and its report
  is_reported : List ℕ → List ℕ → Case
  -- a file and the lent output; the report's number and length, and the output afterwards
  reports : List ℕ → List ℕ → ℕ → ℕ → List ℕ → Case
  -- a number, and the line that is printed where it refuses
  is_refused_by : ℕ → List ℕ → Case
  -- a file, the finals' addresses, and the deployment's number
  has_deploy_number : List ℕ → List ℕ → ℕ → Case
  -- a ledger, a call on it, and its number
  has_call_number : Ledger → Request → ℕ → Case
  -- a file, the finals' addresses, a first call, and whether it is taken
  is_taken_or_not : List ℕ → List ℕ → Request → Bool → Case
  -- a ledger, a party and the lent output; the view's number and length, and the output afterwards
  looks : Ledger → ℕ → List ℕ → ℕ → ℕ → List ℕ → Case
  -- a ledger, a call on it, a party and the lent output; number and length of what the call would disclose, and the output afterwards
  tells : Ledger → Request → ℕ → List ℕ → ℕ → ℕ → List ℕ → Case
  -- an operator, two numbers, and what it gives
  computes : Operator → ℕ → ℕ → ℕ → Case
  -- a file, the finals' addresses, calls, a party, and its view after deployment and after each call
  is_viewed : List ℕ → List ℕ → List Request → ℕ → List (List ℕ) → Case
  -- the same, and what each call discloses to the party
  is_disclosed : List ℕ → List ℕ → List Request → ℕ → List (List ℕ) → Case
  -- a file, the original's places, a call, a party, and what the call discloses to it
  call_discloses : List ℕ → List ℕ → Request → ℕ → List ℕ → Case

-- A request's number and length, then what the lent output holds.
abbrev answered : ℕ → ℕ → List ℕ → List ℕ
answered number long output = number ∷ long ∷ output

abbrev written : List ℕ → List ℕ → List ℕ
written file out = answered (write_number file (length out)) (written_length file (length out)) (output_after_writing file out)

abbrev reported : List ℕ → List ℕ → List ℕ
reported file out = answered (report_number file (length out)) (report_length file (length out)) (output_after_report file out)

abbrev looked : Ledger → ℕ → List ℕ → List ℕ
looked l party out = answered (view_number party l (length out)) (view_length party l (length out)) (output_after_view party l out)

abbrev told : Ledger → Request → ℕ → List ℕ → List ℕ
told l r party out =
    let asked : ℕ = length out in
    answered (disclosed_number l r.function r.caller r.arguments party asked)
    (disclosed_length l r.function r.caller r.arguments party asked)
    (output_after_disclosing l r.function r.caller r.arguments party out)

abbrev pub Holds : Case → Type 0
Holds (has_number file n) = check_number file ≡ n
Holds (has_section_number file n number) = section_number file n ≡ number
Holds (has_section file n part) = section_answer file n ≡ part
Holds (is_written file bytes) = written_file file ≡ bytes
Holds (writes file out number long after) = written file out ≡ answered number long after
Holds (hands_back file room counts) = crossings_after_writing file room ≡ counts
Holds (is_reported file text) = report_text file ≡ text
Holds (reports file out number long after) = reported file out ≡ answered number long after
Holds (is_refused_by n line) = refused_line n ≡ line
Holds (has_deploy_number file addresses n) = deploy_number file addresses ≡ n
Holds (has_call_number l r n) = call_number l r.function r.caller r.arguments ≡ n
Holds (is_taken_or_not file addresses r taken) = is_taken (run_at_deployment file addresses) r ≡ taken
Holds (looks l party out number long after) = looked l party out ≡ answered number long after
Holds (tells l r party out number long after) = told l r party out ≡ answered number long after
Holds (computes o left right result) = operate o left right ≡ result
Holds (is_viewed file addresses requests party views) = views_after party (run_at_deployment file addresses) requests ≡ views
Holds (is_disclosed file addresses requests party lists) = disclosures party (run_at_deployment file addresses) requests ≡ lists
Holds (call_discloses file places r party values) = original_discloses (contract_in file) places r.function r.caller r.arguments party ≡ values

-- Lists of numbers, and lists of these, by a test.
unfoldable pub same_numbers : List ℕ → List ℕ → Bool
same_numbers [] [] = true
same_numbers [] (n ∷ ns) = false
same_numbers (m ∷ ms) [] = false
same_numbers (m ∷ ms) (n ∷ ns) = eqb m n && same_numbers ms ns

unfoldable pub same_lists : List (List ℕ) → List (List ℕ) → Bool
same_lists [] [] = true
same_lists [] (n ∷ ns) = false
same_lists (m ∷ ms) [] = false
same_lists (m ∷ ms) (n ∷ ns) = same_numbers m n && same_lists ms ns

both : (a b : Bool) → T (a && b) → T a × T b
both true b t = (tt, t)
both false b t = absurd t

same_numbers_law : (ms ns : List ℕ) → T (same_numbers ms ns) → ms ≡ ns
unfolding same_numbers
same_numbers_law [] [] t = refl
same_numbers_law [] (n ∷ ns) t = absurd t
same_numbers_law (m ∷ ms) [] t = absurd t
same_numbers_law (m ∷ ms) (n ∷ ns) t =
    let h = both (eqb m n) (same_numbers ms ns) t in
    ap₂ (λ x xs. x ∷ xs) (eqb→eq m n h.0) (same_numbers_law ms ns h.1)

same_lists_law : (ms ns : List (List ℕ)) → T (same_lists ms ns) → ms ≡ ns
unfolding same_lists
same_lists_law [] [] t = refl
same_lists_law [] (n ∷ ns) t = absurd t
same_lists_law (m ∷ ms) [] t = absurd t
same_lists_law (m ∷ ms) (n ∷ ns) t =
    let h = both (same_numbers m n) (same_lists ms ns) t in
    ap₂ (λ x xs. x ∷ xs) (same_numbers_law m n h.0) (same_lists_law ms ns h.1)

same_bit : (a b : Bool) → bit a ≡ bit b → a ≡ b
same_bit true true e = refl
same_bit false false e = refl
same_bit true false e = absurd (false≢true (ap (eqb 0) e))
same_bit false true e = absurd (false≢true (ap (eqb 1) e))

-- The test of a case, and of a whole table, which antt computes.
abbrev pub passes : Case → Bool
passes (has_number file n) = eqb (check_number file) n
passes (has_section_number file n number) = eqb (section_number file n) number
passes (has_section file n part) = same_numbers (section_answer file n) part
passes (is_written file bytes) = same_numbers (written_file file) bytes
passes (writes file out number long after) = same_numbers (written file out) (answered number long after)
passes (hands_back file room counts) = same_numbers (crossings_after_writing file room) counts
passes (is_reported file text) = same_numbers (report_text file) text
passes (reports file out number long after) = same_numbers (reported file out) (answered number long after)
passes (is_refused_by n line) = same_numbers (refused_line n) line
passes (has_deploy_number file addresses n) = eqb (deploy_number file addresses) n
passes (has_call_number l r n) = eqb (call_number l r.function r.caller r.arguments) n
passes (is_taken_or_not file addresses r taken) = eqb (bit (is_taken (run_at_deployment file addresses) r)) (bit taken)
passes (looks l party out number long after) = same_numbers (looked l party out) (answered number long after)
passes (tells l r party out number long after) = same_numbers (told l r party out) (answered number long after)
passes (computes o left right result) = eqb (operate o left right) result
passes (is_viewed file addresses requests party views) = same_lists (views_after party (run_at_deployment file addresses) requests) views
passes (is_disclosed file addresses requests party lists) = same_lists (disclosures party (run_at_deployment file addresses) requests) lists
passes (call_discloses file places r party values) =
    same_numbers (original_discloses (contract_in file) places r.function r.caller r.arguments party) values

holds : (c : Case) → T (passes c) → Holds c
holds (has_number file n) t = eqb→eq _ n t
holds (has_section_number file n number) t = eqb→eq _ number t
holds (has_section file n part) t = same_numbers_law _ part t
holds (is_written file bytes) t = same_numbers_law _ bytes t
holds (writes file out number long after) t = same_numbers_law _ (answered number long after) t
holds (hands_back file room counts) t = same_numbers_law _ counts t
holds (is_reported file text) t = same_numbers_law _ text t
holds (reports file out number long after) t = same_numbers_law _ (answered number long after) t
holds (is_refused_by n line) t = same_numbers_law _ line t
holds (has_deploy_number file addresses n) t = eqb→eq _ n t
holds (has_call_number l r n) t = eqb→eq _ n t
holds (is_taken_or_not file addresses r taken) t = same_bit _ taken (eqb→eq _ _ t)
holds (looks l party out number long after) t = same_numbers_law _ (answered number long after) t
holds (tells l r party out number long after) t = same_numbers_law _ (answered number long after) t
holds (computes o left right result) t = eqb→eq _ result t
holds (is_viewed file addresses requests party views) t = same_lists_law _ views t
holds (is_disclosed file addresses requests party lists) t = same_lists_law _ lists t
holds (call_discloses file places r party values) t = same_numbers_law _ values t

unfoldable pub all_pass : List Case → Bool
unfolding all any any_numbered count_if largest flat_map first_that_holds deploy_number deployed all_fit public_of is_well_formed not_callable arguments_off call_number call_with honest_contents honest_variables honest_parameters ledger_after_call functions_passed nodes_begin fields_read parameters_read functions_read nodes_read sections_read part_read field_of parameter_of type_of circuit_value content_of is_walked state_after walk_completes kind_of node_of_kind expression_parts statement_parts fields_named chain_length expression_of expression_at statement_of statement_at contract_of ends_wrongly count_off_limits field_in_tables parameter_in_tables kind_in_tables outside_tables names_nothing uses_of used_other_than_once too_deep wrong_sort expression_faults statement_faults contract_faults check_number section_number section_answer value is_worked_out places_after completes disclosed disclosed_by original_completes original_after original_discloses with_link name_of owner_of links_of_condition links_after numbers_from per_place position deployed_numbers origins_at written_function_end origins_from origins_in crossings_in total_in crossings_after_writing tallies insert sorted digits report_text report_number report_length output_after_report kept one_part two_parts supplying reading steps_before single in_sequence in_branch in_branches rewrite_statement private_parameters openings rewrite_function rewrite in_body in_circuit run_at_deployment is_taken run_after disclosed_in disclosed_on disclosed_number disclosed_length output_after_disclosing views_after disclosures same_name item_for items_for item_bytes view_bytes view_number view_length output_after_view size numbered body_tree circuit_tree command_tree sizes numbered_all each_once constraint_bytes function_written functions_written contract_written written_file write_number written_length output_after_writing zip_with same_numbers same_lists
all_pass [] = true
all_pass (c ∷ cs) = passes c && all_pass cs

-- Each case of a table that passes holds.
pub each_holds : (cases : List Case) → T (all_pass cases) → (c : Case) → Memᴰ c cases → Holds c
unfolding all_pass
each_holds [] t c m = absurd (Memᴰ.not-nil m)
each_holds (d ∷ cases) t c m =
    let h = both (passes d) (all_pass cases) t in
    ⊎_elim (λ e. subst Holds (sym e) (holds d h.0)) (λ n. each_holds cases h.1 c n) (Memᴰ.cases_cons m)

-- A single case, by its test.
pub by_test : (c : Case) → T (all_pass (c ∷ [])) → Holds c
by_test c t = each_holds (c ∷ []) t c (Memᴰ.head refl)
