-- The theorems cited at the example's calls, each for something that is seen there: a theorem that says less does not give it.
use Rattle.std.specs.Prelude.{◌≡◌, ◌||◌, ◌∷◌, ◌≤◌}
use Rattle.kit.specs.Names.{ap, sym, ◌∙◌, subst, true, false, cond, not, false≢true, List, [], ℕ, suc, arith, get_or}
use Rattle.kit.specs.Names.{take}
use Rattle.definitions.specs.Basics.{all, first_that_holds}
use Rattle.definitions.specs.Original.{Reader, anyone, only}
use Rattle.definitions.specs.Rewriting.{Constraint}
use Rattle.definitions.specs.Ledger.{Content, plain, cell, opened_number, opens_for, is_content_of, content_at, circuit_value, constraint_holds}
use Rattle.definitions.specs.Ledger.{last_address, honest_parameters_of}
use Rattle.definitions.specs.View.{views_after, view_number, run_after, disclosed_on}
use Rattle.theory_laws.proofs.TruthValues.{and_left}
use Rattle.theory_relations.specs.Standing.{Stands}
use Rattle.theory_demands.specs.Claims.{SerialUpTo, SerialOf}
use Rattle.theory_demands.specs.Example.{tagged, pay, show, calls, start, after, after_third}
use Rattle.theory_demands.proofs.Computed.{computed}
use Rattle.theory_demands.proofs.Demands.{rewritten_stands_for_original, rewritten_completes_as_original, ledgers_stay_well_formed}
use Rattle.theory_demands.proofs.Demands.{serials_are_new}
use Rattle.theory_demands.proofs.Demands.{equal_views, told_before_is_disclosed}

-- After the four calls the entry of address 3 is a cell of address 3, and it opens to 7 and to no other number.
abbrev entry_of_three : Content
entry_of_three = content_at (after 4).ledger.places 3

entry_stands : Stands (only 3) entry_of_three 7
unfolding start
entry_stands =
    subst (λ (n : ℕ). Stands (only 3) entry_of_three n) (ap (λ (o : List ℕ). get_or o 3 0) computed.original)
    (subst (λ (r : Reader). Stands r entry_of_three (get_or (after 4).original 3 0)) computed.reader
    ((rewritten_stands_for_original tagged [] computed.accepted (take 4 (calls 7))).each 3))

entry_is_of_three : is_content_of (only 3) 7 entry_of_three ≡ true
entry_is_of_three = ap (is_content_of (only 3) 7) entry_stands.is

entry_opens_to_seven_alone : (n : ℕ) → opened_number entry_of_three ≡ n → n ≡ 7
entry_opens_to_seven_alone n e = sym e ∙ ap opened_number entry_stands.is

-- The first and the third call are done, since the original completes them; the fourth fails, since the original divides by 0 there.
first_is_done : (run_after (after 0) (pay 7)).ledger.outcome ≡ 0
unfolding start pay
first_is_done =
    (rewritten_completes_as_original tagged [] computed.accepted (take 0 (calls 7)) (pay 7) computed.first_taken).outcome
    ∙ ap (λ b. cond {A = ℕ} b 0 1) computed.first_completes

third_is_done : after_third.outcome ≡ 0
unfolding start show
third_is_done =
    (rewritten_completes_as_original tagged [] computed.accepted (take 2 (calls 7)) (show 3) computed.third_taken).outcome
    ∙ ap (λ b. cond {A = ℕ} b 0 1) computed.third_completes

fourth_fails_law : (run_after (after 3) (show 4)).ledger.outcome ≡ 1
unfolding start show
fourth_fails_law =
    (rewritten_completes_as_original tagged [] computed.accepted (take 3 (calls 7)) (show 4) computed.fourth_taken).outcome
    ∙ ap (λ b. cond {A = ℕ} b 0 1) computed.fourth_fails

-- The constraint of the third call ties what is published, variable 0, to what the caller's cell opens to, variable 1.
published_is_opened : is_content_of anyone (opened_number (content_at after_third.variables 1)) (content_at after_third.variables 0) ≡ true
unfolding start all circuit_value
published_is_opened =
    let faithful = rewritten_completes_as_original tagged [] computed.accepted (take 2 (calls 7)) (show 3) computed.third_taken in
    and_left _ true
    (ap (λ (cs : List Constraint). all (constraint_holds (last_address after_third) after_third.variables) cs) (sym computed.constraints)
    ∙ faithful.constraints third_is_done)

-- The ledger after the failed call is not refused as ill formed: in a room of 1,000 bytes address 4 is given its view.
view_is_given : view_number 4 (after 4).ledger 1000 ≡ 0
unfolding start view_number first_that_holds
view_is_given =
    let well_formed = ledgers_stay_well_formed tagged [] computed.accepted (take 4 (calls 7)) in
    λ i. first_that_holds 21 ((not (well_formed i) || false || computed.view_fits i) ∷ [])

-- The call of a content's serial; a plain one has none.
abbrev serial_call : Content → ℕ
serial_call = elim [ plain v ↦ 0 | cell c ↦ c.call ]

abbrev argument_again : Content
argument_again = content_at (honest_parameters_of (after 1).ledger 0 3 (9 ∷ [])) 0

abbrev entry_before : Content
entry_before = content_at (after 1).ledger.places 3

-- Were address 3 to pay in again after the first call, its argument would be a cell of call 2, where the ledger's are of calls up to 1.
serial_is_new : serial_call argument_again ≡ 2
unfolding start pay
serial_is_new =
    of_cell argument_again computed.argument_is_cell ((serials_are_new tagged [] (take 1 (calls 7)) (pay 9)).1.parameters.at 0)
    ∙ ap suc computed.first_call
  where
    of_cell : {n : ℕ} (content : Content) → opens_for 3 content ≡ true → SerialOf n content → serial_call content ≡ n
    of_cell (plain v) is_cell h = absurd (false≢true is_cell)
    of_cell (cell c) is_cell h = h

serials_are_old : serial_call entry_before ≤ 1
unfolding start
serials_are_old =
    subst (λ (n : ℕ). serial_call entry_before ≤ n) computed.first_call
    (of_content entry_before ((serials_are_new tagged [] (take 1 (calls 7)) (pay 9)).0.places.at 3))
  where
    of_content : {n : ℕ} (content : Content) → SerialUpTo n content → serial_call content ≤ n
    of_content (plain v) h = omega arith
    of_content (cell c) h = h

-- Secrets 7 and 8 are disclosed to address 4 by the third call: up to the second its views are the same, and after the third they differ.
views_agree_before : take 3 (views_after 4 start (calls 7)) ≡ take 3 (views_after 4 start (calls 8))
unfolding start
views_agree_before =
    equal_views tagged [] computed.accepted 4 (calls 7) (calls 8) computed.paired 2
    (ap (take 2) computed.disclosed ∙ ap (take 2) (sym computed.disclosed'))

views_differ_after : get_or (views_after 4 start (calls 7)) 3 [] ≡ get_or (views_after 4 start (calls 8)) 3 [] → ⊥
views_differ_after = computed.views_differ

-- Told before the third call is made: it would disclose 7 to address 4.
told_before : disclosed_on (after 2).ledger 1 3 [] 4 ≡ 7 ∷ []
unfolding start show
told_before =
    told_before_is_disclosed tagged [] computed.accepted (take 2 (calls 7)) (show 3) 4 computed.third_taken ∙ computed.told
