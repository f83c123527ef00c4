-- The theorems on the entries cited at the example's calls, for whatever the entries answer there.
use Rattle.std.specs.Prelude.{◌≡◌, ◌∷◌, ◌<◌}
use Rattle.kit.specs.Names.{ap, sym, ◌∙◌, subst, true, cond, List, [], ℕ, arith, length, get_or, take}
use Rattle.definitions.specs.ContractFile.{contract_in}
use Rattle.definitions.specs.Original.{Reader, anyone, only, place_readers, original_completes}
use Rattle.definitions.specs.Ledger.{Content, content_at, opened_number, is_content_of}
use Rattle.definitions.specs.View.{Run, disclosed_on}
use Rattle.theory_relations.specs.Standing.{Stands}
use Rattle.theory_demands.specs.Example.{tagged, pay, show, calls, start, after}
use Rattle.theory_demands.proofs.Computed.{computed}
use Rattle.ledger_struct.specs.declared.Ledger as code
use Rattle.ledger_struct.specs.Ledgers.{ledger_of}
use Rattle.ledger_struct.specs.Whole.{places_for, struct_of}
use Rattle.theory_entries.specs.Traces.{Trace, PairedAnswers, numbers, lent, shown, struct_after, original_places, places_in}
use Rattle.theory_entries.proofs.Answers.{answered, refuses, answers_paired, two_disclose_alike}
use Rattle.theory_entries.proofs.Following.{file_of_run, numbers_of_trace, run_of_trace}
use Rattle.theory_entries.proofs.Entries.{entries_stand_for_original, entries_complete_as_original}
use Rattle.theory_entries.proofs.Entries.{entries_leave_nothing_behind}
use Rattle.theory_entries.proofs.Entries.{refused_calls_change_nothing, told_before_counts, equal_looks}
use Rattle.theory_entries.proofs.Existing.{traces_exist, lent_there}

module _ (trace : Trace 4 tagged [] (calls 7)) where
  numbers_answered : numbers trace ≡ answered
  unfolding start
  numbers_answered = numbers_of_trace trace ∙ computed.numbers

  original_after_law : (n : ℕ) → original_places trace n ≡ (after n).original
  unfolding start
  original_after_law n = ap (λ (run : Run). run.original) (run_of_trace trace n)

  -- After the four calls the struct's place of address 3 is a cell of address 3 that opens to 7 and to no other number.
  abbrev entry_of_three : Content
  entry_of_three = content_at (places_in (struct_after trace 4)) 3

  entry_stands : Stands (only 3) entry_of_three 7
  unfolding start
  entry_stands =
      let numbers = original_after_law 4 ∙ computed.original in
      let inside : 3 < length (original_places trace 4) = subst (λ (o : List ℕ). 3 < length o) (sym numbers) (omega arith) in
      let file_is = sym (file_of_run tagged [] (take 4 (calls 7))) in
      let reader : get_or (place_readers (contract_in tagged).fields (original_places trace 4)) 3 anyone ≡ only 3 =
      (λ i. get_or (place_readers (contract_in (file_is i)).fields (original_after_law 4 i)) 3 anyone) ∙ computed.reader in
      subst (λ (n : ℕ). Stands (only 3) entry_of_three n) (ap (λ (o : List ℕ). get_or o 3 0) numbers)
      (subst (λ (r : Reader). Stands r entry_of_three (get_or (original_places trace 4) 3 0)) reader
      ((entries_stand_for_original trace 4).each 3 inside))

  entry_is_of_three : is_content_of (only 3) 7 entry_of_three ≡ true
  entry_is_of_three = ap (is_content_of (only 3) 7) entry_stands.is

  entry_opens_to_seven_alone : (n : ℕ) → opened_number entry_of_three ≡ n → n ≡ 7
  entry_opens_to_seven_alone n e = sym e ∙ ap opened_number entry_stands.is

  -- The struct handed back by the first call says done, that of the fourth says failed, and the refused second call hands back the first's.
  first_is_done : (struct_after trace 1).outcome ≡ 0
  unfolding start calls pay
  first_is_done =
      entries_complete_as_original trace 0 (ap (λ (ns : List ℕ). get_or ns 0 18) numbers_answered)
      ∙ (λ i. cond {A = ℕ} (original_completes (contract_in (sym (file_of_run tagged [] []) i)) (original_after_law 0 i) 0 3 (7 ∷ [])) 0 1)
      ∙ ap (λ b. cond {A = ℕ} b 0 1) computed.first_completes

  fourth_fails_law : (struct_after trace 4).outcome ≡ 1
  unfolding start calls show
  fourth_fails_law =
      let file_is = sym (file_of_run tagged [] (take 3 (calls 7))) in
      entries_complete_as_original trace 3 (ap (λ (ns : List ℕ). get_or ns 3 18) numbers_answered)
      ∙ (λ i. cond {A = ℕ} (original_completes (contract_in (file_is i)) (original_after_law 3 i) 1 4 []) 0 1)
      ∙ ap (λ b. cond {A = ℕ} b 0 1) computed.fourth_fails

  second_changes_nothing : struct_after trace 2 ≡ struct_after trace 1
  second_changes_nothing =
      refused_calls_change_nothing trace 1 (λ e. refuses (ap (λ (ns : List ℕ). get_or ns 1 0) (sym numbers_answered) ∙ e))

  -- The third call had two variables; after the failed fourth the struct holds none, behind the count of 0 neither.
  variables_of_third : (struct_after trace 3).variable_count ≡ 2
  unfolding start struct_of
  variables_of_third =
      ap (λ (l : code.Ledger). l.variable_count) (entries_leave_nothing_behind trace 3)
      ∙ ap (λ (run : Run). length run.ledger.variables) (run_of_trace trace 3) ∙ computed.third_variables

  none_left_by_fourth : (struct_after trace 4).variables ≡ places_for 1024 []
  unfolding start struct_of
  none_left_by_fourth =
      ap (λ (l : code.Ledger). l.variables) (entries_leave_nothing_behind trace 4)
      ∙ ap (λ (run : Run). places_for 1024 run.ledger.variables) (run_of_trace trace 4) ∙ ap (places_for 1024) computed.fourth_variables

  -- Told on the struct before the third call: it would disclose 7 to address 4.
  told_before : disclosed_on (ledger_of (struct_after trace 2)) 1 3 [] 4 ≡ 7 ∷ []
  unfolding start calls show
  told_before =
      told_before_counts trace 2 (ap (λ (ns : List ℕ). get_or ns 2 18) numbers_answered)
      ∙ ap (λ (ds : List (List ℕ)). get_or ds 2 []) computed.disclosed

  -- Beside a trace with secret 8 and the same lent memory: the looks after deployment and after two calls show address 4 the same.
  looks_agree_before : (trace' : Trace 4 tagged [] (calls 8)) → lent trace ≡ lent trace' → take 3 (shown trace) ≡ take 3 (shown trace')
  unfolding start
  looks_agree_before trace' memory =
      let answers = sym (numbers_of_trace trace ∙ computed.numbers) in
      let answers' = sym (numbers_of_trace trace' ∙ computed.numbers') in
      equal_looks trace trace'
      (subst (λ (ns : List ℕ). PairedAnswers 4 (contract_in tagged) (calls 7) (numbers trace) (calls 8) ns) answers'
      (subst (λ (ns : List ℕ). PairedAnswers 4 (contract_in tagged) (calls 7) ns (calls 8) answered) answers answers_paired))
      memory 2 two_disclose_alike

-- There are such traces, whatever memory is lent: of two of them, with secrets 7 and 8, the first three looks show address 4 the same.
existing_looks_agree : (memory : List ℕ)
    → take 3 (shown (traces_exist 4 memory tagged [] computed.accepted (calls 7)))
    ≡ take 3 (shown (traces_exist 4 memory tagged [] computed.accepted (calls 8)))
unfolding calls
existing_looks_agree memory =
    looks_agree_before (traces_exist 4 memory tagged [] computed.accepted (calls 7))
    (traces_exist 4 memory tagged [] computed.accepted (calls 8))
    (lent_there 4 memory tagged [] computed.accepted (calls 7) ∙ sym (lent_there 4 memory tagged [] computed.accepted (calls 8)))
