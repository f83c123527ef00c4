-- Two lists of calls that are paired by the numbers that `call` answered are paired by document 01's numbers.
use Rattle.std.specs.Prelude.{◌≡◌, ◌∷◌}
use Rattle.kit.specs.Names.{ap, sym, ◌∙◌, subst, false, List, ℕ, ne_eqb}
use Rattle.definitions.specs.Basics.{is_zero}
use Rattle.definitions.specs.ContractFile.{contract_in}
use Rattle.definitions.specs.View.{Request, Run, is_taken, run_after, AlikeFor, Paired}
use Rattle.theory_demands.specs.Claims.{call_numbers}
use Rattle.theory_demands.proofs.Faithful.{same_file_law, refused_run}
use Rattle.theory_entries.specs.Traces.{PairedAnswers, finished, both_refused, both_taken}

head : {x y : ℕ} {xs ys : List ℕ} → x ∷ xs ≡ y ∷ ys → x ≡ y
head e = cc

tail : {x y : ℕ} {xs ys : List ℕ} → x ∷ xs ≡ y ∷ ys → xs ≡ ys
tail e = cc

pub pairs_of_answers : {party : ℕ} (file : List ℕ) {rs rs' : List Request} {ns ns' : List ℕ}
    → PairedAnswers party (contract_in file) rs ns rs' ns' → (run run' : Run) → run.ledger.file ≡ file
    → ns ≡ call_numbers run rs → ns' ≡ call_numbers run' rs' → Paired party run run' rs rs'
unfolding call_numbers is_taken
pairs_of_answers file finished run run' same e e' = Paired.finished
pairs_of_answers file (both_refused {r} {r'} {rs} {rs'} {number} {number'} refuses refuses' pairs) run run' same e e' =
    let t : is_taken run r ≡ false = ap is_zero (sym (head e)) ∙ ne_eqb number 0 refuses in
    let t' : is_taken run' r' ≡ false = ap is_zero (sym (head e')) ∙ ne_eqb number' 0 refuses' in
    let left = tail e ∙ ap (λ (x : Run). call_numbers x rs) (refused_run run r t) in
    let left' = tail e' ∙ ap (λ (x : Run). call_numbers x rs') (refused_run run' r' t') in
    Paired.both_refused t t' (pairs_of_answers file pairs run run' same left left')
pairs_of_answers {party} file (both_taken {r} {r'} zero_number zero_number' alike pairs) run run' same e e' =
    Paired.both_taken (ap is_zero (sym (head e) ∙ zero_number)) (ap is_zero (sym (head e') ∙ zero_number'))
    (subst (λ (f : List ℕ). AlikeFor party (contract_in f) r r') (sym same) alike)
    (pairs_of_answers file pairs (run_after run r) (run_after run' r') (same_file_law run r ∙ same) (tail e) (tail e'))
