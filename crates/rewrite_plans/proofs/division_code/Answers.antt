-- A public division is read.
use Rattle.rewrite_plans.proofs.PlansByKind.{division_read, division_private, division_not}
use Rattle.rewrite_plans.proofs.division_code.Goals as goal

pub returns-then-owner_code-eq-EVERYONE_BYTE : goal.returns-then-owner_code-eq-EVERYONE_BYTE
returns-then-owner_code-eq-EVERYONE_BYTE c = division_read _ _ c.is_division.ensures _ _ _ c.owner_code.ensures c.if-is_division.true c.if-owner_code-eq-EVERYONE_BYTE.true

pub returns-else-owner_code-eq-EVERYONE_BYTE : goal.returns-else-owner_code-eq-EVERYONE_BYTE
returns-else-owner_code-eq-EVERYONE_BYTE c = division_private _ _ c.is_division.ensures _ _ _ c.owner_code.ensures c.if-owner_code-eq-EVERYONE_BYTE.false

pub returns-else-is_division : goal.returns-else-is_division
returns-else-is_division c = division_not _ _ c.is_division.ensures _ _ c.if-is_division.false
