use Rattle.std.specs.Prelude.{◌+◌}
use Rattle.kit.specs.Names.{arith}
use Rattle.walk_contents.proofs.ConstraintParts.{set_holds, unset_holds}
use Rattle.walk_constraints.proofs.constraint_holds.Goals as goal

pub overflow_cast-guard : goal.overflow_cast-guard
overflow_cast-guard c = omega (arith, c.shared_slice_known-5-1.given c.args.at)

pub overflow_cast-i : goal.overflow_cast-i
overflow_cast-i c = omega (arith, c.shared_slice_known-6-1.given (c.args.at + 1))

pub overflow_cast-owner : goal.overflow_cast-owner
overflow_cast-owner c = omega (arith, c.shared_slice_known-7-1.given (c.args.at + 2))

pub overflow_cast-root : goal.overflow_cast-root
overflow_cast-root c = omega (arith, c.shared_slice_known-8-1.given (c.args.at + 3))

pub returns-then-is_set : goal.returns-then-is_set
returns-then-is_set c = set_holds _ _ _ _ c.if-is_set.true c.is_set.ensures c.claim_holds.ensures

pub returns-else-is_set : goal.returns-else-is_set
returns-else-is_set c = unset_holds _ _ _ c.if-is_set.false c.is_set.ensures
