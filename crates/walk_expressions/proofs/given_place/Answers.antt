use Rattle.kit.specs.Names.{refl}
use Rattle.walk_expressions.proofs.given_place.Goals as goal

pub returns : goal.returns
returns c = record { is_walked = refl; same = rw c.position.ensures at c.content_at-content.ensures }
