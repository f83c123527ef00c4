use Rattle.std.proofs.Common.{tests}
use Rattle.kit.specs.Names.{◌∙◌, ltb, rules}
use Rattle.std.proofs.lemmas.Iterator.{YieldsList-from_slice}
use Rattle.std.proofs.lemmas.Iterator.Search.{any_from_yields_List}
use Rattle.deploy_17_addresses.proofs.Addresses.{any_listed}
use Rattle.deploy_17_addresses.proofs.any_too_high.Goals as goal

pub returns : goal.returns
returns c = let addresses = c.args.addresses.now in
    any_from_yields_List (ltb 15) _ _ _ c.any.ensures.ran (YieldsList-from_slice addresses cc) (λ x b q k. search (rules, tests))
    ∙ any_listed (ltb 15) addresses
