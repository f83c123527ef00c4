use Rattle.std.specs.Prelude.{◌≡◌, ◌+◌, ◌*◌, ◌-◌}
use Rattle.kit.specs.Names.{refl, ◌∙◌, arith}
use Rattle.memory_append.proofs.Appending.{appending_start}
use Rattle.write_claims.proofs.Sixes.{six_room, six_appended, sixes_done}
use Rattle.write_claims.proofs.append_claims.Goals as goal

pub loop-i-init : goal.loop-i-init
loop-i-init c = let all : c.args.count - 0 ≡ c.args.count = omega arith in rw all (appending_start _ _ _, refl)

pub append_claim-at-requires : goal.append_claim-at-requires
append_claim-at-requires c = let args = c.args in
    six_room args.numbers.now args.count _ args.from c.requires.1 _ _ _ _ c.loop-i.invariant.0 (omega arith)

pub loop-i-preserved : goal.loop-i-preserved
loop-i-preserved c = let args = c.args in let i = c.loop-i.i in
    let left : args.count - (i + 1) ≡ (args.count - i) - 1 = omega arith in
    let place : 4 * (i + 1) ≡ 4 * i + 4 = omega arith in
    rw (left, place) (
      six_appended args.numbers.now args.count _ args.from c.requires.1 _ _ _ _ c.loop-i.invariant.0 (omega arith) _ _ c.append_claim-at.ensures,
      c.append_claim-at.auto.out ∙ c.loop-i.invariant.1,
    )

pub returns : goal.returns
returns c = let args = c.args in
    sixes_done args.numbers.now args.count _ args.from c.requires.1 _ _ _ _ c.loop-i.invariant.0 (omega arith)
