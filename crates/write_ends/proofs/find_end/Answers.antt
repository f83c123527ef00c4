use Rattle.std.proofs.Common.{rules, tests}
use Rattle.std.proofs.lemmas.Iterator.{YieldsList-from_slice}
use Rattle.std.proofs.lemmas.Iterator.Search.{position_from_yields_List}
use Rattle.write_ends.proofs.Turns.{is_end, end_found, no_end}
use Rattle.write_ends.proofs.find_end.Goals as goal

pub returns-in-Some : goal.returns-in-Some
returns-in-Some c =
    let from_slice = YieldsList-from_slice c.as_chunks.result.0.now c.iter.ensures.rest in
    let answers = position_from_yields_List is_end _ _ c.position.result c.position.ensures.ran from_slice
    (λ x b q k. search (rules, tests)) in
    end_found c.args.log.now c.args.from _ c.as_chunks.ensures.front c.as_chunks.ensures.front_len _ answers _ c.in-Some.is

pub returns-in-None : goal.returns-in-None
returns-in-None c =
    let from_slice = YieldsList-from_slice c.as_chunks.result.0.now c.iter.ensures.rest in
    let answers = position_from_yields_List is_end _ _ c.position.result c.position.ensures.ran from_slice
    (λ x b q k. search (rules, tests)) in
    no_end c.args.log.now c.args.from _ c.as_chunks.ensures.front c.as_chunks.ensures.front_len _ answers c.in-None.is
