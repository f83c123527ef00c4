use Rattle.kit.specs.Names.{◌∙◌, refl}
use Rattle.write_nodes.proofs.TreeNodes.{numbered_as}
use Rattle.write_nodes.proofs.Parents.{room_value, room_setting, numbered_setting}
use Rattle.write_steps.proofs.put_step.Goals as goal

pub write_body_form-value-requires : goal.write_body_form-value-requires
write_body_form-value-requires c = let (n-bound, (i-bound, room)) = c.requires in (n-bound, (i-bound, room_value _ _ _ _ _ room))

pub put_setting-requires : goal.put_setting-requires
put_setting-requires c = let (_, (_, room)) = c.requires in
    room_setting _ _ _ _ _ room _ _ c.write_body_form-value.ensures

pub shape_of-out : goal.shape_of-out
shape_of-out c = c.put_setting.auto.out ∙ c.write_body_form-value.auto.out

pub returns : goal.returns
returns c = let (_, (_, room)) = c.requires in
    let write-body-form = c.write_body_form-value.ensures in
    let put-setting = c.put_setting.ensures in
    numbered_as _ _ _ _ _ _ _ _ refl put-setting.1 (numbered_setting _ _ _ _ _ room _ _ write-body-form _ put-setting.0)
