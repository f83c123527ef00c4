use Rattle.std.specs.Prelude.{◌≡◌, ◌+◌, ◌-◌}
use Rattle.kit.specs.Names.{refl, arith, rules}
use Rattle.memory_append.proofs.Appending.{appending_start}
use Rattle.write_parameters.proofs.Openings.{pair_room, pair_appended, pairs_done}
use Rattle.write_parameters.proofs.append_opening_variables.Goals as goal

pub loop-init : goal.loop-init
loop-init c = let all : c.args.count - 0 ≡ c.args.count = omega arith in rw all (appending_start _ _ _, refl)

pub append_byte-next-requires : goal.append_byte-next-requires
append_byte-next-requires c = let args = c.args in
    let room = pair_room args.out.now args.from args.count c.requires _ _ _ (omega arith) c.loop.invariant.0 in omega arith

pub append_byte-at-requires : goal.append_byte-at-requires
append_byte-at-requires c = let args = c.args in
    let room = pair_room args.out.now args.from args.count c.requires _ _ _ (omega arith) c.loop.invariant.0 in omega arith

pub loop-preserved : goal.loop-preserved
loop-preserved c = let args = c.args in
    let left : args.count - (c.loop.counter + 1) ≡ (args.count - c.loop.counter) - 1 = omega arith in
    rw left (
      pair_appended args.out.now args.from args.count c.requires _ _ _ (omega arith) c.loop.invariant.0 _ _ _ _
          c.append_byte-next.ensures c.append_byte-at.ensures,
      search rules,
    )

pub returns : goal.returns
returns c = let args = c.args in
    pairs_done args.out.now args.from args.count c.requires _ _ _ (omega arith) c.loop.invariant.0
