-- The place belongs to its field's owner.
use Rattle.kit.specs.Names.{arith}
use Rattle.rewrite_assignments.proofs.Placing.{field_ready, field_logged}
use Rattle.rewrite_assignments.proofs.assign_field_log.Goals as goal

pub field_owner-requires : goal.field_owner-requires
field_owner-requires c = let (f-bound, ready) = c.requires in (f-bound, record { at = c.args.function.now.context.field_listed })

pub place_log-requires : goal.place_log-requires
place_log-requires c = let args = c.args in let (_, ready) = c.requires in
    let place_code_law = c.place_code-owner in
    field_ready _ _ args.guard _ _ c.field_owner.ensures place_code_law.result (omega arith) _ place_code_law.ensures _ _ ready

pub shape_of-log : goal.shape_of-log
shape_of-log c = c.place_log.auto.log

pub returns : goal.returns
returns c = let args = c.args in
    let field-owner = c.field_owner.ensures in
    let place_code_law = c.place_code-owner in
    field_logged _ _ args.guard _ _ field-owner place_code_law.result (omega arith) _ place_code_law.ensures _ _ _ _ c.place_log.ensures
