use Rattle.rewrite_owners.proofs.Names.{tested_public}
use Rattle.rewrite_owners.proofs.is_public.Goals as goal

pub returns : goal.returns
returns c = tested_public _ _ _ c.owner_code.ensures
