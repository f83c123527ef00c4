use Rattle.std.specs.Prelude.{◌≡◌, ◌+◌, ◌-◌, ◌≤◌}
use Rattle.kit.specs.Names.{ap, sym, ◌∙◌, Bool, cond, ⊎_elim, ℕ, arith, not-true, not-false, rules}
use Rattle.test_ledgers.specs.Damage.{wrong_answers}
use Rattle.test_ledgers.proofs.Damages.{left_wrong, wrong_start, wrong_next, wrong_done}
use Rattle.test_ledgers.proofs.damage.wrong_answers.Goals as goal
use Rattle.test_ledgers.proofs.damage.wrong_answers.Goals.{then-not-answers, else-not-answers, then-not-answers-2, else-not-answers-2}

none : (n : ℕ) → n ≡ n + 0
none n = omega arith

pub loop-kind-init : goal.loop-kind-init
loop-kind-init c = (
  elim c.if-not-answers.branch [ then-not-answers w ↦ omega arith | else-not-answers w ↦ omega arith ],
  wrong_start _ c.answers.result c.if-not-answers.wrong c.answers.ensures
      (elim c.if-not-answers.branch [
        | then-not-answers w ↦ w.wrong-is ∙ ap (λ (b : Bool). cond {A = ℕ} b 0 1) (sym w.if-not-answers.true)
        | else-not-answers w ↦ w.wrong-is ∙ ap (λ (b : Bool). cond {A = ℕ} b 0 1) (sym w.if-not-answers.false)
      ]),
)

pub loop-kind-preserved : goal.loop-kind-preserved
loop-kind-preserved c =
    let loop = c.loop-kind in
    let a = c.answers-in-loop-kind.result in (
      elim c.if-not-answers-2.branch [ then-not-answers-2 w ↦ omega arith | else-not-answers-2 w ↦ omega arith ],
      wrong_next _ a _ loop.wrong c.if-not-answers-2.wrong loop.kind (search rules) c.damaged.ensures c.answers-in-loop-kind.ensures
          (elim c.if-not-answers-2.branch [
            | then-not-answers-2 w ↦ w.wrong-is ∙ ap (λ (b : Bool). loop.wrong + cond b 0 1) (sym w.if-not-answers-2.true)
            | else-not-answers-2 w ↦ w.wrong-is ∙ none loop.wrong ∙ ap (λ (b : Bool). loop.wrong + cond b 0 1) (sym w.if-not-answers-2.false)
          ]) loop.invariant.1,
    )

pub returns : goal.returns
returns c = let loop = c.loop-kind in wrong_done _ loop.wrong loop.kind (search rules) loop.invariant.1
