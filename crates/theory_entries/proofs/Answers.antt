-- What the example of theory_demands gives the theorems on the entries: its answers, paired for address 4 with different secrets.
use Rattle.std.specs.Prelude.{◌≡◌, ◌∷◌}
use Rattle.kit.specs.Names.{refl, ap, sym, ◌∙◌, false≢true, List, [], ℕ, take}
use Rattle.definitions.specs.Basics.{is_zero}
use Rattle.definitions.specs.ContractFile.{contract_in}
use Rattle.theory_demands.specs.Example.{tagged, pay, show, calls, start}
use Rattle.theory_demands.proofs.Computed.{alike_itself, computed}
use Rattle.theory_entries.specs.Traces.{PairedAnswers, finished, both_refused, both_taken, DiscloseAlike}

-- The numbers of the four calls, with either secret.
abbrev pub answered : List ℕ
answered = 0 ∷ 18 ∷ 0 ∷ 0 ∷ []

pub refuses : ◌≡◌ {A = ℕ} 18 0 → ⊥
refuses e = false≢true (ap is_zero e)

pub answers_paired : PairedAnswers 4 (contract_in tagged) (calls 7) answered (calls 8) answered
unfolding calls pay
answers_paired =
    both_taken {r = pay 7} {r' = pay 8} refl refl computed.alike
    (both_refused refuses refuses
    (both_taken refl refl (alike_itself 4 (contract_in tagged) (show 3))
    (both_taken refl refl (alike_itself 4 (contract_in tagged) (show 4)) finished)))

-- The first two calls disclose the same, and the third does not.
pub two_disclose_alike : DiscloseAlike 4 2 start (calls 7) (calls 8)
two_disclose_alike = ap (take 2) computed.disclosed ∙ sym (ap (take 2) computed.disclosed')
