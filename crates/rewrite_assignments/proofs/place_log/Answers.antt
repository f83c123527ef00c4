-- By the code of the place, then by whether the value is public.
-- A public value in a private place stands above the other answers: a cell for another owner is refused here first.
use Rattle.kit.specs.Names.{sym, ◌∙◌}
use Rattle.rewrite_assignments.proofs.Placing.{open_ready, value_ready, public_ready, open_placed, value_placed, public_placed}
use Rattle.rewrite_assignments.proofs.place_log.Goals as goal

pub body_log-requires : goal.body_log-requires
body_log-requires c = let args = c.args in
    open_ready _ _ args.guard _ _ _ _ c.requires c.if-owner-eq-EVERYONE_CODE.true

pub shape_of-log-then-owner-eq-EVERYONE_CODE : goal.shape_of-log-then-owner-eq-EVERYONE_CODE
shape_of-log-then-owner-eq-EVERYONE_CODE c = c.body_log.auto.log

pub returns-then-owner-eq-EVERYONE_CODE : goal.returns-then-owner-eq-EVERYONE_CODE
returns-then-owner-eq-EVERYONE_CODE c = let args = c.args in
    open_placed _ _ args.guard _ _ _ _ _ _ c.if-owner-eq-EVERYONE_CODE.true c.body_log.ensures

pub is_public-requires : goal.is_public-requires
is_public-requires c = c.requires.ready.inside

pub supply_log-requires : goal.supply_log-requires
supply_log-requires c = let args = c.args in let pre = c.requires in
    public_ready _ _ args.guard _ _ _ _ pre c.if-owner-eq-EVERYONE_CODE.false (sym c.is_public.ensures ∙ c.if-is_public.true)

pub shape_of-log-then-is_public : goal.shape_of-log-then-is_public
shape_of-log-then-is_public c = c.supply_log.auto.log

pub returns-then-is_public : goal.returns-then-is_public
returns-then-is_public c = let args = c.args in
    let if1-left = c.if-owner-eq-EVERYONE_CODE.false in
    let is_public_law = c.is_public.ensures in
    public_placed _ _ args.guard _ _ _ _ _ _ if1-left (sym is_public_law ∙ c.if-is_public.true) c.supply_log.ensures

pub body_log-requires-2 : goal.body_log-requires-2
body_log-requires-2 c = let args = c.args in let pre = c.requires in
    value_ready _ _ args.guard _ _ _ _ pre (sym c.is_public.ensures ∙ c.if-is_public.false)

pub shape_of-log : goal.shape_of-log
shape_of-log c = c.body_log-2.auto.log

pub returns : goal.returns
returns c = let args = c.args in
    let is_public_law = c.is_public.ensures in
    value_placed _ _ args.guard _ _ _ _ _ _ (sym is_public_law ∙ c.if-is_public.false) c.body_log-2.ensures
