-- The constant, then the setting above it.
use Rattle.write_guards.proofs.Guards.{guard_put}
use Rattle.write_guards.proofs.put_guard.Goals as goal

pub returns : goal.returns
returns c = let (numbers, bytes) = c.requires in
    let put-leaf = c.put_leaf.ensures.0 in
    let put-setting = c.put_setting.ensures in
    guard_put _ _ _ _ numbers bytes _ _ _ put-leaf put-setting.0 put-setting.1
