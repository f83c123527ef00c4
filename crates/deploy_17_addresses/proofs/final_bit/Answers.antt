-- A final is known by the byte of its shape.
use Rattle.kit.specs.Names.{arith}
use Rattle.deploy_ledger.proofs.Numbers.{is_final_law, not_final}
use Rattle.deploy_17_addresses.proofs.final_bit.Goals as goal

pub returns-then-byte_at-eq-FINAL : goal.returns-then-byte_at-eq-FINAL
returns-then-byte_at-eq-FINAL c = record { value = rw (is_final_law c.args.file.now c.args.f _ c.requires.0 c.byte_at.ensures.value c.if-byte_at-eq-FINAL.true); upper_bound = omega arith }

pub returns-else-byte_at-eq-FINAL : goal.returns-else-byte_at-eq-FINAL
returns-else-byte_at-eq-FINAL c = record { value = rw (not_final c.args.file.now c.args.f _ c.requires.0 c.byte_at.ensures.value c.if-byte_at-eq-FINAL.false); upper_bound = omega arith }
