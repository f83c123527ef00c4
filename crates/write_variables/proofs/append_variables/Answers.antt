use Rattle.kit.specs.Names.{refl, arith, rules}
use Rattle.write_variables.specs.Variables.{variable_of}
use Rattle.write_variables.proofs.PerEntry.{entries_start, entry_room, entry_appended, entries_appended}
use Rattle.write_variables.proofs.append_variables.Goals as goal

pub loop-entry-init : goal.loop-entry-init
loop-entry-init c = let args = c.args in
    (entries_start variable_of args.log.now _ c.as_chunks.ensures.front args.out.now args.from c.requires, refl)

pub append_variable-at-requires : goal.append_variable-at-requires
append_variable-at-requires c = let args = c.args in
    entry_room variable_of args.log.now _ c.as_chunks.ensures.front args.out.now args.from c.requires _ _ _
    (omega arith) c.loop-entry.invariant.0

pub loop-entry-preserved : goal.loop-entry-preserved
loop-entry-preserved c = let args = c.args in (
  entry_appended variable_of args.log.now _ c.as_chunks.ensures.front args.out.now args.from c.requires _ _ _ _ _ (omega arith)
      c.loop-entry.invariant.0 c.append_variable-at.ensures,
  search rules,
)

pub returns : goal.returns
returns c = let args = c.args in
    entries_appended variable_of args.log.now _ c.as_chunks.ensures.front args.out.now args.from c.requires _ _ _
    (omega arith) c.loop-entry.invariant.0
