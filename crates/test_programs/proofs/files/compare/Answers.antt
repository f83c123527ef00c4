use Rattle.std.specs.Prelude.{◌≡◌, ◌≤◌, ◌-◌}
use Rattle.kit.specs.Names.{⊎_elim, arith, length, not-true, not-false, rules}
use Rattle.test_programs.proofs.FileRecords.{Counting, counting_start, counting_done, counting_cut, counting_same, counting_other}
use Rattle.test_programs.proofs.files.compare.Goals as goal
use Rattle.test_programs.proofs.files.compare.Goals.{then-not-agrees, else-not-agrees}

pub loop-at-init : goal.loop-at-init
loop-at-init c = (search rules, counting_start c.args.input.now)

pub returns-then-input-end : goal.returns-then-input-end
returns-then-input-end c = counting_cut _ _ _ _ c.loop-at.invariant.1 _ _ _ c.part_end-file_end.ensures.value c.part_end-written_end.ensures.value
    c.part_end-end.ensures.value (search rules) (search rules)

pub loop-at-preserved : goal.loop-at-preserved
loop-at-preserved c =
    let loop = c.loop-at in
    elim c.if-not-agrees.branch [
      | then-not-agrees w ↦ (
        omega arith,
        rw w.different-is (counting_other _ _ _ _ loop.invariant.1 _ _ _ c.part_end-file_end.ensures.value
            c.part_end-written_end.ensures.value c.part_end-end.ensures.value (search rules) (search rules) _ c.agrees.ensures
            w.if-not-agrees.true),
      )
      | else-not-agrees w ↦ (
        omega arith,
        rw w.different-is (counting_same _ _ _ _ loop.invariant.1 _ _ _ c.part_end-file_end.ensures.value
            c.part_end-written_end.ensures.value c.part_end-end.ensures.value (search rules) (search rules) _ c.agrees.ensures
            w.if-not-agrees.false),
      )
    ]

pub returns : goal.returns
returns c = counting_done _ _ _ _ c.loop-at.invariant.1 (search rules)
