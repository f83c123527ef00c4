use Rattle.kit.specs.Names.{◌∙◌, arith}
use Rattle.test_programs.proofs.Outputs.{unwritten_seen, unwritten_ends}
use Rattle.test_programs.proofs.files.is_unwritten.Goals as goal

pub loop-byte-preserved : goal.loop-byte-preserved
loop-byte-preserved c = unwritten_seen _ c.loop-byte.byte-index (omega arith) c.loop-byte.unwritten ∙ c.loop-byte.invariant

pub returns : goal.returns
returns c = unwritten_ends _ c.loop-byte.byte-index (omega arith) c.loop-byte.unwritten ∙ c.loop-byte.invariant
