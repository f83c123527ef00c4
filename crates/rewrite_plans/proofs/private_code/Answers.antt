-- A private operator or not is supplied for the caller.
use Rattle.kit.specs.Names.{ap, sym, Bool, cond, eq-eqb, ne_eqb}
use Rattle.rewrite_plans.proofs.private_code.Goals as goal

pub returns-then-owner-eq-EVERYONE_BYTE : goal.returns-then-owner-eq-EVERYONE_BYTE
returns-then-owner-eq-EVERYONE_BYTE c = sym (ap (λ (b : Bool). cond b 0 2) (eq-eqb _ _ c.if-owner-eq-EVERYONE_BYTE.true))

pub returns-else-owner-eq-EVERYONE_BYTE : goal.returns-else-owner-eq-EVERYONE_BYTE
returns-else-owner-eq-EVERYONE_BYTE c = sym (ap (λ (b : Bool). cond b 0 2) (ne_eqb _ _ c.if-owner-eq-EVERYONE_BYTE.false))
