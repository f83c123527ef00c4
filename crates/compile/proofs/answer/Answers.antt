-- The file's length tells which room suffices.
use Rattle.kit.specs.Names.{sym, ◌∙◌, leb-true}
use Rattle.compile.proofs.answer.Goals as goal

pub answer_tiny-requires : goal.answer_tiny-requires
answer_tiny-requires c = leb-true _ 112 (sym c.is_tiny.ensures ∙ c.if-is_tiny.true)

pub answer_short-requires : goal.answer_short-requires
answer_short-requires c = leb-true _ 512 (sym c.is_short_file.ensures ∙ c.if-is_short_file.true)
