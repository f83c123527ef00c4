use Rattle.kit.specs.Names.{◌∙◌, arith, le-ltb, rules}
use Rattle.test_programs.proofs.Rehearsals.{going_start, going_called, going_stops, going_ends}
use Rattle.test_programs.proofs.programs.runs.Goals as goal

pub loop-k-init : goal.loop-k-init
loop-k-init c = let parts = c.read_script-parts.ensures in
    (search rules, going_start _ _ _ _ parts.party parts.calls _ _ c.line_end-at.ensures)

pub returns-then-at-eq0 : goal.returns-then-at-eq0
returns-then-at-eq0 c = let parts = c.read_script-parts.ensures in
    going_stops _ _ _ _ parts.party parts.calls _ _ c.loop-k.k c.loop-k.at (omega arith) c.loop-k.invariant.1

pub loop-k-preserved : goal.loop-k-preserved
loop-k-preserved c = let parts = c.read_script-parts.ensures in (
  search rules,
  going_called _ _ _ _ parts.party parts.calls _ _ _ c.loop-k.k c.loop-k.at _ (search rules) c.if-at-eq0.false c.call_at-called.ensures
      c.line_end-at-in-loop-k.ensures c.loop-k.invariant.1,
)

pub returns-then-at-gt0 : goal.returns-then-at-gt0
returns-then-at-gt0 c = let parts = c.read_script-parts.ensures in
    going_ends _ _ _ _ parts.party parts.calls _ _ c.loop-k.k c.loop-k.at (search rules) c.if-at-gt0.true c.loop-k.invariant.1

pub returns-else-at-gt0 : goal.returns-else-at-gt0
returns-else-at-gt0 c = let parts = c.read_script-parts.ensures in
    le-ltb 0 _ c.if-at-gt0.false ∙ going_stops _ _ _ _ parts.party parts.calls _ _ c.loop-k.k c.loop-k.at (omega arith) c.loop-k.invariant.1
