-- The place belongs to its field's owner, or to the name used as key.
use Rattle.kit.specs.Names.{◌∙◌, arith}
use Rattle.rewrite_assignments.proofs.Placing.{key_ready, entry_ready, entry_logged}
use Rattle.rewrite_assignments.proofs.assign_entry_log.Goals as goal

pub field_owner-declared-requires : goal.field_owner-declared-requires
field_owner-declared-requires c = let ((f-bound, _), ready) = c.requires in
    (f-bound, record { at = c.args.function.now.context.field_listed })

pub name_code-name-requires : goal.name_code-name-requires
name_code-name-requires c = let (_, ready) = c.requires in ready.inside

pub body_log-q-requires : goal.body_log-q-requires
body_log-q-requires c = let args = c.args in let ((_, value-bound), ready) = c.requires in
    let place_code_law = c.place_code-owner in
    key_ready _ _ args.guard _ _ c.field_owner-declared.ensures place_code_law.result (omega arith) _ _ _ c.name_code-name.ensures place_code_law.ensures value-bound _ _ ready

pub place_log-requires : goal.place_log-requires
place_log-requires c = let args = c.args in
    let ((_, value-bound), ready) = c.requires in
    let field-owner = c.field_owner-declared.ensures in
    let name_code_law = c.name_code-name.ensures in
    let place_code_law = c.place_code-owner in
    entry_ready _ _ args.guard _ _ field-owner place_code_law.result (omega arith) _ _ _ name_code_law place_code_law.ensures value-bound _ _ ready _ _ c.body_log-q.ensures

pub shape_of-log : goal.shape_of-log
shape_of-log c = c.place_log.auto.log ∙ c.body_log-q.auto.log

pub returns : goal.returns
returns c = let args = c.args in let ((_, value-bound), ready) = c.requires in
    let field-owner = c.field_owner-declared.ensures in
    let name_code_law = c.name_code-name.ensures in
    let place_code_law = c.place_code-owner in
    let body-log = c.body_log-q.ensures in
    entry_logged _ _ args.guard _ _ field-owner place_code_law.result (omega arith) _ _ _ name_code_law place_code_law.ensures value-bound _ _ ready _ _ body-log _ _ c.place_log.ensures
