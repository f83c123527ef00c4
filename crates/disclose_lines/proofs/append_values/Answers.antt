use Rattle.kit.specs.Names.{arith, get_or}
use Rattle.disclose_lines.proofs.Values.{value_short, text_start, text_next, text_done}
use Rattle.disclose_lines.proofs.append_values.Goals as goal

pub loop-value-init : goal.loop-value-init
loop-value-init c = (text_start _ _ _ c.requires, omega (arith, c.requires))

pub append_value-at-requires : goal.append_value-at-requires
append_value-at-requires c = omega (arith, c.loop-value.invariant.1)

pub loop-value-preserved : goal.loop-value-preserved
loop-value-preserved c = let (appending, left) = c.loop-value.invariant in let i = c.loop-value.value-index in let next = c.append_value-at in
    (text_next _ _ _ c.requires _ _ i appending _ _ (omega arith) next.ensures, omega (arith, left, value_short (get_or c.args.values.now i 0), next.ensures.place, next.auto.out))

pub returns : goal.returns
returns c = text_done _ _ _ c.requires _ _ c.loop-value.value-index c.loop-value.invariant.0 (omega arith)
