-- What is written into the front of the output, held against the record.
use Rattle.kit.specs.Names.{sym, arith, length-take-le}
use Rattle.test_programs.proofs.FileRecords.{written_answer, refused_written, short_written, long_written}
use Rattle.test_programs.proofs.files.agrees_in.Goals as goal

pub slice_bounds-write-end-2 : goal.slice_bounds-write-end-2
slice_bounds-write-end-2 c = sym (length-take-le c.args.room c.fill.new.out (omega arith))

pub returns-then-number-ne0 : goal.returns-then-number-ne0
returns-then-number-ne0 c = let all = c.args in let told = c.write-answer.ensures in
    refused_written all.file.now all.written.now all.room all.number c.requires.1 _ c.if-number-ne0.true
    (written_answer all.file.now _ all.room c.requires.0 _ _ _ _ c.fill.ensures told.0 told.1.0 told.1.1.1 _ _ _
    c.is_answer.ensures)

pub returns-then-room-written : goal.returns-then-room-written
returns-then-room-written c = let all = c.args in let told = c.write-answer.ensures in
    short_written all.file.now all.written.now all.room all.number c.requires.1 _ c.if-number-ne0.false c.if-room-written.true
    (written_answer all.file.now _ all.room c.requires.0 _ _ _ _ c.fill.ensures told.0 told.1.0 told.1.1.1 _ _ _
    c.is_answer-then-room-written.ensures)

pub returns : goal.returns
returns c = let all = c.args in let told = c.write-answer.ensures in
    long_written all.file.now all.written.now all.room all.number c.requires.1 _ c.if-number-ne0.false c.if-room-written.false
    (written_answer all.file.now _ all.room c.requires.0 _ _ _ _ c.fill.ensures told.0 told.1.0 told.1.1.1 _ _ _
    c.is_answer-2.ensures)
