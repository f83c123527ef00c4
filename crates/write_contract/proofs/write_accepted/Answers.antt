-- The file's length tells whether it is tiny.
use Rattle.kit.specs.Names.{sym, ◌∙◌, leb-true}
use Rattle.write_contract.proofs.write_accepted.Goals as goal

pub write_accepted_tiny-requires : goal.write_accepted_tiny-requires
write_accepted_tiny-requires c = let pre = c.requires in (pre.0, pre.1, leb-true _ 112 (sym c.is_tiny.ensures ∙ c.if-is_tiny.true))
