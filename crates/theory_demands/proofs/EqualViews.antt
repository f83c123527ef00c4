-- Demand 3, by induction over two lists of calls.
use Rattle.std.specs.Prelude.{◌≡◌, ◌||◌, ◌∷◌}
use Rattle.kit.specs.Names.{ap, ap₂, sym, ◌∙◌, subst, true, cond, not, List, [], ℕ, zero, suc, eqb, get_or, take}
use Rattle.definitions.specs.ContractFile.{parameter_at, contract_in}
use Rattle.definitions.specs.Original.{original_discloses}
use Rattle.definitions.specs.Ledger.{Ledger, function_of_ledger, call_number, ledger_after_call}
use Rattle.definitions.specs.View.{disclosed_on, Request, Run, is_taken, run_after, disclosed_in, views_after, disclosures, AlikeFor, Paired}
use Rattle.definitions.specs.View.{finished, both_refused, both_taken}
use Rattle.theory_secrecy.proofs.Views.{AlikeLedgers, alike_views}
use Rattle.theory_demands.proofs.Faithful.{FaithfulRun, taken_number, refused_run, same_file_law, faithful_after}
use Rattle.theory_demands.proofs.AlikeCalls.{aligned, alike_after}

-- What is told of a call before it is made is what the call discloses: on a faithful run the opened places are the original's.
pub told_is_disclosed : (party : ℕ) (run : Run) → FaithfulRun run → (r : Request) → is_taken run r ≡ true
    → disclosed_on run.ledger r.function r.caller r.arguments party ≡ disclosed_in party run r
unfolding disclosed_on disclosed_in
told_is_disclosed party run h r e =
    ap (λ (o : List ℕ). original_discloses (contract_in run.ledger.file) o r.function r.caller r.arguments party) h.opened
    ∙ ap (λ b. cond b (original_discloses (contract_in run.ledger.file) run.original r.function r.caller r.arguments party) []) (sym e)

-- The second call may stand on another ledger with the same file and call number, and name function and caller by equal numbers.
module _ (party : ℕ) (l : Ledger) (f c : ℕ) (a a' : List ℕ) (clear : call_number l f c a ≡ 0)
    (arguments : (k : ℕ) → not (parameter_at (function_of_ledger l f).parameters k).private || eqb c party ≡ true → get_or a k 0 ≡ get_or a' k 0) where
  abbrev SecondCall : Ledger → ℕ → ℕ → Type 0
  SecondCall m f' c' =
      call_number m f' c' a' ≡ 0 → disclosed_on l f c a party ≡ disclosed_on m f' c' a' party
      → AlikeLedgers party (ledger_after_call l f c a) (ledger_after_call m f' c' a')

  alike_call : (m : Ledger) (f' c' : ℕ) → AlikeLedgers party l m → l.file ≡ m.file → f ≡ f' → c ≡ c' → SecondCall m f' c'
  unfolding disclosed_on original_discloses
  alike_call m f' c' h file function caller =
      let same : aligned l m ≡ m =
      λ i. record {
        file = file i;
        call = h.call i;
        function = m.function;
        caller = m.caller;
        outcome = m.outcome;
        parameters = m.parameters;
        variables = m.variables;
        places = m.places;
      } in
      let first : SecondCall (aligned l m) f c = λ clear' disclosed. alike_after party l m f c a a' clear clear' h.places arguments disclosed in
      subst (λ (n : ℕ). SecondCall m f' n) caller (subst (λ (n : ℕ). SecondCall m n c) function (subst (λ (n : Ledger). SecondCall n f c) same first))

module _ (party : ℕ) where
  -- Two runs that the party cannot tell apart.
  pub record AlikeRuns (run run' : Run) : Type 0 where
    pub faithful : FaithfulRun run
    pub faithful' : FaithfulRun run'
    pub file : run.ledger.file ≡ run'.ledger.file
    pub ledgers : AlikeLedgers party run.ledger run'.ledger

  alike_runs_after : (run run' : Run) → AlikeRuns run run' → (r r' : Request) → is_taken run r ≡ true → is_taken run' r' ≡ true
      → AlikeFor party (contract_in run.ledger.file) r r' → disclosed_in party run r ≡ disclosed_in party run' r' → AlikeRuns (run_after run r) (run_after run' r')
  unfolding run_after
  alike_runs_after run run' h r r' e e' same disclosed =
      record {
        faithful = faithful_after run h.faithful r;
        faithful' = faithful_after run' h.faithful' r';
        file = same_file_law run r ∙ h.file ∙ sym (same_file_law run' r');
        ledgers =
            alike_call party run.ledger r.function r.caller r.arguments r'.arguments (taken_number run r e) same.arguments run'.ledger r'.function
            r'.caller h.ledgers h.file same.function same.caller (taken_number run' r' e')
            (told_is_disclosed party run h.faithful r e ∙ disclosed ∙ sym (told_is_disclosed party run' h.faithful' r' e'));
      }

  cons_head : {x y : List ℕ} {xs ys : List (List ℕ)} → x ∷ xs ≡ y ∷ ys → x ≡ y
  cons_head e = cc

  cons_tail : {x y : List ℕ} {xs ys : List (List ℕ)} → x ∷ xs ≡ y ∷ ys → xs ≡ ys
  cons_tail e = cc

  -- As far as the disclosures agree, so do the views, and one more: the view that a call follows is there before it discloses anything.
  pub views_agree : {run run' : Run} {rs rs' : List Request} → Paired party run run' rs rs' → (n : ℕ) → AlikeRuns run run'
      → take n (disclosures party run rs) ≡ take n (disclosures party run' rs')
      → take (suc n) (views_after party run rs) ≡ take (suc n) (views_after party run' rs')
  unfolding views_after disclosures
  views_agree finished n h d = ap (λ v. take (suc n) (v ∷ [])) (alike_views h.ledgers)
  views_agree (both_refused e e' pairs) zero h d = ap (λ v. v ∷ []) (alike_views h.ledgers)
  views_agree (both_taken e e' same pairs) zero h d = ap (λ v. v ∷ []) (alike_views h.ledgers)
  views_agree (both_refused {run} {run'} {r} {r'} {rs} {rs'} e e' pairs) (suc n) h d =
      let s = refused_run run r e in
      let s' = refused_run run' r' e' in
      let later : take n (disclosures party run rs) ≡ take n (disclosures party run' rs') =
      ap (λ (x : Run). take n (disclosures party x rs)) (sym s) ∙ cons_tail d ∙ ap (λ (x : Run). take n (disclosures party x rs')) s' in
      let views : take (suc n) (views_after party (run_after run r) rs) ≡ take (suc n) (views_after party (run_after run' r') rs') =
      ap (λ (x : Run). take (suc n) (views_after party x rs)) s ∙ views_agree pairs n h later
      ∙ ap (λ (x : Run). take (suc n) (views_after party x rs')) (sym s') in
      ap₂ (λ x y. x ∷ y) (alike_views h.ledgers) views
  views_agree (both_taken {run} {run'} {r} {r'} {rs} {rs'} e e' same pairs) (suc n) h d =
      let k = alike_runs_after run run' h r r' e e' same (cons_head d) in
      ap₂ (λ x y. x ∷ y) (alike_views h.ledgers) (views_agree pairs n k (cons_tail d))
