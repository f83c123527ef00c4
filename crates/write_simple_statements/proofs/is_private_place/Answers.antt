use Rattle.write_simple_statements.proofs.Places.{private_place}
use Rattle.write_simple_statements.proofs.is_private_place.Goals as goal

pub returns : goal.returns
returns c = private_place _ _ _ c.field_owner.ensures
