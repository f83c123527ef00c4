-- The theorem cited at a contract that the base accepted, with an if between its links and their use; and two that it refused: the Note
-- gains them, so that the theorem has no converse.
use Rattle.std.specs.Prelude.{◌≡◌}
use Rattle.kit.specs.Names.{sym, ◌∙◌, List, ℕ, arith}
use Rattle.definitions.specs.Numbers.{check_number}
use Rattle.definitions.specs.Rewriting.{output_after_writing}
use Rattle.theory_nothing_lost.specs.Base.{base_check_number, base_output_after_writing}
use Rattle.theory_nothing_lost.proofs.NothingLost.{nothing_is_lost}
use Rattle.theory_nothing_lost.proofs.Computed.{guarded, learnt, joined_behind, computed}

different : ◌≡◌ {A = ℕ} 15 0 → ⊥
different e = omega (arith, e)

guarded_stays : check_number guarded ≡ 0
guarded_stays = (nothing_is_lost guarded computed.guarded_before).accepted

guarded_written_as_before : (out : List ℕ) → output_after_writing guarded out ≡ base_output_after_writing guarded out
guarded_written_as_before = (nothing_is_lost guarded computed.guarded_before).written

-- A rule is ruled out by which a file that the base accepted has a number.
none_is_refused : (file : List ℕ) → base_check_number file ≡ 0 → check_number file ≡ 15 → ⊥
none_is_refused file before now = different (sym now ∙ (nothing_is_lost file before).accepted)

-- "files accepted before": not these two, which are accepted now.
not_accepted_before : (base_check_number learnt ≡ 0 → ⊥) × (base_check_number joined_behind ≡ 0 → ⊥)
not_accepted_before = (λ h. different (sym computed.learnt_before ∙ h), λ h. different (sym computed.joined_before ∙ h))
