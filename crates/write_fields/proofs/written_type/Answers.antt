-- The type as it stands where the owner code is 0, else 3.
use Rattle.kit.specs.Names.{arith, eq-eqb, ne_eqb}
use Rattle.write_fields.proofs.written_type.Goals as goal

pub returns-then-owner-eq-EVERYONE_CODE : goal.returns-then-owner-eq-EVERYONE_CODE
returns-then-owner-eq-EVERYONE_CODE c = record { value = rw (eq-eqb _ 0 c.if-owner-eq-EVERYONE_CODE.true); upper_bound = omega arith }

pub returns-else-owner-eq-EVERYONE_CODE : goal.returns-else-owner-eq-EVERYONE_CODE
returns-else-owner-eq-EVERYONE_CODE c = record { value = rw (ne_eqb _ 0 c.if-owner-eq-EVERYONE_CODE.false); upper_bound = omega arith }
