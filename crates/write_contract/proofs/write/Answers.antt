-- The layout tells whether the file is short.
use Rattle.kit.specs.Names.{sym, ◌∙◌, leb-true}
use Rattle.write_contract.proofs.write.Goals as goal

pub write_short-requires : goal.write_short-requires
write_short-requires c = (c.read_layout-layout.ensures, leb-true c.read_layout-layout.result.nodes 64 (sym c.is_short.ensures ∙ c.if-is_short.true))

pub write_long-requires : goal.write_long-requires
write_long-requires c = c.read_layout-layout.ensures
