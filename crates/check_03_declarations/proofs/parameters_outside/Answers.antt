use Rattle.std.specs.Prelude.{◌≡◌, ◌+◌, ◌-◌, ◌*◌}
use Rattle.kit.specs.Names.{refl, ap, not, arith}
use Rattle.definitions.specs.Numbers.{parameter_in_tables}
use Rattle.file_decoded.proofs.Records.{parameters_step, parameters_end}
use Rattle.file_children.proofs.Loops.{any_next, any_found, any_done}
use Rattle.check_03_declarations.specs.Outside.{parameter_outside}
use Rattle.check_03_declarations.proofs.parameters_outside.Goals as goal

pub loop-i-init : goal.loop-i-init
loop-i-init c =
    let all : c.args.count - 0 ≡ c.args.count = omega arith in
    let start : c.args.from + 2 * 0 ≡ c.args.from = omega arith in
    rw (all, start) refl

pub loop-i-preserved : goal.loop-i-preserved
unfolding parameter_in_tables
loop-i-preserved c =
    let i = c.loop-i.i in
    let one_less : c.args.count - (i + 1) ≡ (c.args.count - i) - 1 = omega arith in
    let next_place : c.args.from + 2 * (i + 1) ≡ c.args.from + 2 * i + 2 = omega arith in
    rw (one_less, next_place) (any_next parameter_outside _ _ _ _ (parameters_step _ (c.args.from + 2 * i) _ (omega arith)) c.loop-i.invariant
    (ap not (rw (c.number_from-data_type.ensures.value, c.number_from-owner.ensures.value) at c.if-not-data_type-owner.false)))

pub returns-then-not-data_type-owner : goal.returns-then-not-data_type-owner
unfolding parameter_in_tables
returns-then-not-data_type-owner c =
    any_found parameter_outside _ _ _ _ (parameters_step _ (c.args.from + 2 * c.loop-i.i) _ (omega arith)) c.loop-i.invariant
    (ap not (rw (c.number_from-data_type.ensures.value, c.number_from-owner.ensures.value) at c.if-not-data_type-owner.true))

pub returns : goal.returns
returns c = any_done parameter_outside _ _ (parameters_end _ (c.args.from + 2 * c.loop-i.i) _ (omega arith)) c.loop-i.invariant
