use Rattle.std.specs.Prelude.{◌≡◌, ◌+◌, ◌-◌, ◌*◌}
use Rattle.kit.specs.Names.{ap, ℕ, arith}
use Rattle.definitions.specs.ContractFile.{functions_end}
use Rattle.file_bytes.proofs.ReadingSteps.{functions_end_next, functions_end_done}
use Rattle.file_functions.proofs.function_start.Goals as goal

pub loop-init : goal.loop-init
loop-init c =
    let all : c.args.f - 0 ≡ c.args.f = omega arith in
    (rw all (ap (λ (n : ℕ). functions_end c.args.f c.args.file.now (1 + 3 * n + 1)) c.byte_at-fields.ensures.value), omega arith)

pub loop-preserved : goal.loop-preserved
loop-preserved c =
    let one_less : c.args.f - (c.loop.counter + 1) ≡ (c.args.f - c.loop.counter) - 1 = omega arith in
    (rw one_less (functions_end_next _ _ _ _ _ (omega arith) c.function_end-at.ensures.value c.loop.invariant.0), omega arith)

pub returns : goal.returns
returns c = record { value = functions_end_done _ _ _ _ (omega arith) c.loop.invariant.0; upper_bound = omega arith }
