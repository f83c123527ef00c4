use Rattle.kit.specs.Names.{sym, ◌∙◌}
use Rattle.honest_supplies.proofs.Writing.{wrote_as}
use Rattle.honest_supplies.proofs.Steps.{ready_as, placed_supply, placed_body, placed_open}
use Rattle.honest_supplies.proofs.place_slots.Goals as goal

pub supply_slots-requires : goal.supply_slots-requires
supply_slots-requires c = let pre = c.requires in
    ready_as _ _ _ _ _ _ (placed_supply _ _ _ _ _ c.if-private.true (sym c.is_public.ensures ∙ c.if-is_public.true)) pre

pub body_slots-requires : goal.body_slots-requires
body_slots-requires c = let pre = c.requires in
    ready_as _ _ _ _ _ _ (placed_body _ _ _ _ _ c.if-private.true (sym c.is_public.ensures ∙ c.if-is_public.false)) pre

pub body_slots-requires-else-private : goal.body_slots-requires-else-private
body_slots-requires-else-private c = let args = c.args in let pre = c.requires in
    ready_as _ _ _ _ _ _ (placed_open args.function.now.file.now args.function.now.at args.placing.n args.placing.private c.if-private.false) pre

pub returns-then-is_public : goal.returns-then-is_public
returns-then-is_public c = let if1-taken = c.if-private.true in
    let is_public_law = c.is_public.ensures in
    wrote_as _ _ _ _ _ _ _ (placed_supply _ _ _ _ _ if1-taken (sym is_public_law ∙ c.if-is_public.true)) c.supply_slots.ensures

pub returns-else-is_public : goal.returns-else-is_public
returns-else-is_public c = let if1-taken = c.if-private.true in
    let is_public_law = c.is_public.ensures in
    wrote_as _ _ _ _ _ _ _ (placed_body _ _ _ _ _ if1-taken (sym is_public_law ∙ c.if-is_public.false)) c.body_slots.ensures

pub returns-else-private : goal.returns-else-private
returns-else-private c = let args = c.args in
    wrote_as _ _ _ _ _ _ _ (placed_open args.function.now.file.now args.function.now.at args.placing.n args.placing.private c.if-private.false) c.body_slots-else-private.ensures
