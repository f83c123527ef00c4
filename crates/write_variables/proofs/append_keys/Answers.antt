use Rattle.kit.specs.Names.{refl, arith, rules}
use Rattle.write_variables.proofs.Keys.{keys_start, key_room, key_appended, keys_done}
use Rattle.write_variables.proofs.append_keys.Goals as goal

pub loop-entry-init : goal.loop-entry-init
loop-entry-init c = let args = c.args in
    (keys_start args.log.now _ c.as_chunks.ensures.front args.out.now args.from c.requires, refl, refl)

pub append_key-at-requires : goal.append_key-at-requires
append_key-at-requires c = let args = c.args in let loop = c.loop-entry in (
  search rules,
  key_room args.log.now _ c.as_chunks.ensures.front args.out.now args.from c.requires _ loop.table _ _
      (omega arith) loop.invariant.0,
)

pub loop-entry-preserved : goal.loop-entry-preserved
loop-entry-preserved c = let args = c.args in (
  key_appended args.log.now _ c.as_chunks.ensures.front args.out.now args.from c.requires _ _ _ _ _ _ _ (omega arith)
      c.loop-entry.invariant.0 c.append_key-at.ensures,
  search rules,
  search rules,
)

pub returns : goal.returns
returns c = let args = c.args in let loop = c.loop-entry in
    keys_done args.log.now _ c.as_chunks.ensures.front args.out.now args.from c.requires _ loop.table _ _ (omega arith) loop.invariant.0
