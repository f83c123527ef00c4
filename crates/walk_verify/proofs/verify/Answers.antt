use Rattle.std.specs.Prelude.{◌≡◌, ◌+◌, ◌*◌, ◌-◌, ◌/◌}
use Rattle.kit.specs.Names.{arith, length}
use Rattle.write_trees.specs.Table.{table_of}
use Rattle.walk_contents.proofs.ConstraintParts.{next_holds, one_fails, none_left, all_from_start}
use Rattle.walk_verify.proofs.verify.Goals as goal

pub loop-i-init : goal.loop-i-init
loop-i-init c = let args = c.args in
    let all : length args.constraints.now / 4 - 0 ≡ length args.constraints.now / 4 = omega arith in
    rw all (all_from_start args.addresses.now args.variables.now (table_of args.nodes.now) args.constraints.now)

pub constraint_holds-requires : goal.constraint_holds-requires
constraint_holds-requires c = (omega arith, c.requires)

pub returns-then-not-constraint_holds : goal.returns-then-not-constraint_holds
returns-then-not-constraint_holds c = let args = c.args in
    one_fails args.addresses.now args.variables.now (table_of args.nodes.now) args.constraints.now _ (length args.constraints.now / 4 - c.loop-i.i) (4 * c.loop-i.i) _
    (omega arith) c.constraint_holds.ensures c.if-not-constraint_holds.true c.loop-i.invariant

pub loop-i-preserved : goal.loop-i-preserved
loop-i-preserved c = let args = c.args in let i = c.loop-i.i in
    let left : length args.constraints.now / 4 - (i + 1) ≡ (length args.constraints.now / 4 - i) - 1 = omega arith in
    let next : 4 * (i + 1) ≡ 4 * i + 4 = omega arith in
    rw (left, next)
    (next_holds args.addresses.now args.variables.now (table_of args.nodes.now) args.constraints.now _ (length args.constraints.now / 4 - i) (4 * i) _
    (omega arith) c.constraint_holds.ensures c.if-not-constraint_holds.false c.loop-i.invariant)

pub returns : goal.returns
returns c = let args = c.args in
    none_left args.addresses.now args.variables.now (table_of args.nodes.now) args.constraints.now _ (length args.constraints.now / 4 - c.loop-i.i) (4 * c.loop-i.i)
    (omega arith) c.loop-i.invariant
