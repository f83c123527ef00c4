-- Each part begins behind its length, which stands where the part before it ends.
use Rattle.kit.specs.Names.{rules}
use Rattle.test_programs.proofs.ProgramRecords.{record_is}
use Rattle.test_programs.proofs.programs.read_record.Goals as goal

pub returns : goal.returns
returns c = record { fact = record_is _ _ _ _ _ c.byte_at-name_end.ensures.value c.byte_at.ensures.value c.four_bytes_at.ensures c.four_bytes_at-2.ensures; name_end_bound = search rules }
