-- The front against the bytes, and then what is behind it.
use Rattle.std.specs.Prelude.{◌&&◌}
use Rattle.kit.specs.Names.{refl, ap, sym, ◌∙◌, Bool, arith, length}
use Rattle.test_shared.specs.Bytes.{same_bytes}
use Rattle.test_programs.specs.Outputs.{unwritten}
use Rattle.test_programs.proofs.Outputs.{holds_short, holds_both}
use Rattle.test_programs.proofs.files.holds.Goals as goal

pub returns-then-out-bytes : goal.returns-then-out-bytes
returns-then-out-bytes c = holds_short c.args.out.now c.args.bytes.now (omega arith)

pub returns-then-same_bytes : goal.returns-then-same_bytes
returns-then-same_bytes c =
    ap (λ (b : Bool). b && c.is_unwritten.result) (sym c.if-same_bytes.true)
    ∙ holds_both _ _ _ _ _ _ (omega arith) c.split_at.ensures.front c.split_at.ensures.back c.same_bytes.ensures c.is_unwritten.ensures

pub returns-else-same_bytes : goal.returns-else-same_bytes
returns-else-same_bytes c =
    c.if-same_bytes.false ∙ ap (λ (b : Bool). b && same_bytes c.split_at.result.1.now (unwritten (length c.split_at.result.1.now))) (sym c.if-same_bytes.false)
    ∙ holds_both _ _ _ _ _ _ (omega arith) c.split_at.ensures.front c.split_at.ensures.back c.same_bytes.ensures refl
