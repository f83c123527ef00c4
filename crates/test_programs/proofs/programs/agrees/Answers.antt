-- The record is all there, takes no option, and its program prints what is expected.
use Rattle.kit.specs.Names.{◌∙◌, ne_eqb, rules}
use Rattle.test_programs.proofs.ProgramRecords.{record_cut, record_options, record_agrees_law}
use Rattle.test_programs.proofs.programs.agrees.Goals as goal

pub returns-then-bytes-record : goal.returns-then-bytes-record
returns-then-bytes-record c = record_cut _ _ c.read_record-record.ensures.fact (search rules)

pub returns-then-options-eq0 : goal.returns-then-options-eq0
returns-then-options-eq0 c = let is = c.read_record-record.ensures.fact in
    record_agrees_law _ _ is c.if-bytes-record.false _ c.part-options.ensures c.if-options-eq0.true _ _ _ c.part-name.ensures c.part-input.ensures
    c.part-expected.ensures _ c.prints.ensures

pub returns-else-options-eq0 : goal.returns-else-options-eq0
returns-else-options-eq0 c = ne_eqb _ 0 c.if-options-eq0.false ∙ record_options _ _ c.read_record-record.ensures.fact c.if-bytes-record.false _ c.part-options.ensures c.if-options-eq0.false
