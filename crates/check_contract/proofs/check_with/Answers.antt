use Rattle.kit.specs.Names.{arith}
use Rattle.check_contract.proofs.check_with.Goals as goal

pub check_in-requires : goal.check_in-requires
check_in-requires g c = (
  c.requires.layout,
  record {
    for_nodes = λ h. omega (arith, (c.requires.enough h).0, c.numbers_room-nodes.ensures.0);
    for_owners = λ h. omega (arith, (c.requires.enough h).1, c.numbers_room-owners.ensures.0);
  },
)

pub returns : goal.returns
returns g c = c.check_in.ensures.0
