-- By the byte of the parameter's owner.
use Rattle.honest_parameters.proofs.Honest.{reader_public, reader_private}
use Rattle.kit.specs.Names.{rules}
use Rattle.honest_parameters.proofs.parameter_reader.Goals as goal

pub returns-then-byte_at-eq-EVERYONE_CODE : goal.returns-then-byte_at-eq-EVERYONE_CODE
returns-then-byte_at-eq-EVERYONE_CODE c = let (_, k-bound) = c.requires in
    record { result_value = reader_public _ _ _ _ k-bound c.byte_at.ensures.value _ c.if-byte_at-eq-EVERYONE_CODE.true; short = search rules }

pub returns-else-byte_at-eq-EVERYONE_CODE : goal.returns-else-byte_at-eq-EVERYONE_CODE
returns-else-byte_at-eq-EVERYONE_CODE c = let (_, k-bound) = c.requires in
    record { result_value = reader_private _ _ _ _ k-bound c.byte_at.ensures.value _ c.if-byte_at-eq-EVERYONE_CODE.false; short = search rules }
