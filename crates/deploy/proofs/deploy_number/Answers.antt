-- The file's own number stands before that of the addresses.
use Rattle.deploy_17_addresses.proofs.Addresses.{own_first}
use Rattle.deploy.proofs.deploy_number.Goals as goal

pub returns : goal.returns
returns c = own_first _ _ _ _ _ c.check-own.ensures c.addresses_number-given.ensures c.first_number.ensures
