-- What a deployment hands back.
use Rattle.std.specs.Prelude.{◌≡◌}
use Rattle.kit.specs.Names.{cond, List, [], ℕ}
use Rattle.definitions.specs.Basics.{is_zero}
use Rattle.definitions.specs.Ledger as ledger
use Rattle.definitions.specs.Ledger.{deploy_number, deployed}
use Rattle.ledger_struct.specs.Ledgers.{ledger_of}
use Rattle.ledger_struct.specs.Whole.{struct_of}
use Rattle.deploy.specs.declared.Deployment.{Deployment}

-- The papers leave the ledger of a refused deployment free: here it has no file, no call and no places.
unfoldable pub nothing_deployed : ledger.Ledger
nothing_deployed = record { file = []; call = 0; function = 0; caller = 0; outcome = 0; parameters = []; variables = []; places = [] }

pub record Refused (number : ℕ) (r : Deployment) : Type 0 where
  pub given : r.number ≡ number
  pub whole : r.ledger ≡ struct_of nothing_deployed

-- The number, and the deployed ledger where it is 0: the whole struct, parts that no count covers included, and what it means.
pub record Deployed (file addresses : List ℕ) (r : Deployment) : Type 0 where
  pub number : r.number ≡ deploy_number file addresses
  pub ledger : ledger_of r.ledger ≡ cond (is_zero r.number) (deployed file addresses) nothing_deployed
  pub whole : r.ledger ≡ struct_of (cond (is_zero r.number) (deployed file addresses) nothing_deployed)
