-- Each room agrees where all do.
use Rattle.kit.specs.Names.{sym, ◌∙◌, arith, rules}
use Rattle.test_programs.proofs.FileRecords.{too_long, enough, one_less}
use Rattle.test_programs.proofs.files.writes.Goals as goal

pub returns-then-length-gt49152 : goal.returns-then-length-gt49152
returns-then-length-gt49152 c = let all = c.args in too_long all.file.now all.written.now all.number (search rules)

pub returns-then-not-agrees_in : goal.returns-then-not-agrees_in
returns-then-not-agrees_in c = let all = c.args in
    sym c.if-not-agrees_in.true ∙ c.agrees_in.ensures ∙ enough all.file.now all.written.now all.number 49152 (omega arith) (omega arith)

pub returns-then-not-agrees_in-2 : goal.returns-then-not-agrees_in-2
returns-then-not-agrees_in-2 c = let all = c.args in
    sym c.if-not-agrees_in-2.true ∙ c.agrees_in-2.ensures ∙ enough all.file.now all.written.now all.number _ (omega arith) (omega arith)

pub returns-then-length-eq0 : goal.returns-then-length-eq0
returns-then-length-eq0 c = let all = c.args in
    sym c.if-not-agrees_in-2.false ∙ c.agrees_in-2.ensures
    ∙ enough all.file.now all.written.now all.number _ (omega arith) (omega arith)

pub returns : goal.returns
returns c = let all = c.args in
    one_less all.file.now all.written.now all.number (omega arith) _ (omega arith)
    (sym c.agrees_in-2.ensures ∙ c.if-not-agrees_in-2.false) c.agrees_in-3.ensures
