-- The cases of the request.
use Rattle.kit.specs.Names.{arith}
use Rattle.view.proofs.Requests.{refused_room, refused_form, accepted}
use Rattle.view.proofs.view_apart.Goals as goal

pub returns-then-out-length : goal.returns-then-out-length
returns-then-out-length c = refused_room _ _ _ _ _ _ _ (omega arith)

pub returns-then-is_well_formed : goal.returns-then-is_well_formed
returns-then-is_well_formed c = accepted _ _ _ _ _ _ _ _ _ _ c.requires.3 c.view_length-length.ensures c.if-out-length.false
    c.is_well_formed.ensures c.if-is_well_formed.true (c.view_bytes.ensures _)

pub returns-else-is_well_formed : goal.returns-else-is_well_formed
returns-else-is_well_formed c = refused_form _ _ _ _ _ _ _ _ c.is_well_formed.ensures c.if-is_well_formed.false
