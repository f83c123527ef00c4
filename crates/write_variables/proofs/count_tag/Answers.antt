use Rattle.std.proofs.Common.{rules, tests}
use Rattle.std.proofs.lemmas.Iterator.{YieldsList-from_slice}
use Rattle.std.proofs.lemmas.Iterator.Consumers.{YieldsList-from_filter, count_from_yields_List}
use Rattle.write_variables.proofs.PerEntry.{has_tag, tags_counted}
use Rattle.write_variables.proofs.count_tag.Goals as goal

pub returns : goal.returns
returns c = let args = c.args in
    let entries = c.as_chunks.result.0.now in
    tags_counted args.tag args.log.now entries c.as_chunks.ensures.front c.count.result
    (count_from_yields_List c.filter.result _ c.count.ensures.ran
    (YieldsList-from_filter _ (has_tag args.tag) (YieldsList-from_slice entries cc) c.filter.ensures.closure
    (λ x b q k. search (rules, tests))))
