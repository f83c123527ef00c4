-- The length's own two bytes, then as many as it says.
use Rattle.kit.specs.Names.{rules}
use Rattle.test_programs.proofs.FileRecords.{part_ends_law}
use Rattle.test_programs.proofs.files.part_end.Goals as goal

pub returns : goal.returns
returns c = record { value = part_ends_law _ _ _ c.two_bytes_at.ensures.value; lower_bound = search rules }
