use Rattle.kit.specs.Names.{sym, ◌∙◌, true, false, arith, rules}
use Rattle.check_05_uses.proofs.Loops.{no_uses, room_start}
use Rattle.check_05_uses.proofs.UseCounts.{room_less}
use Rattle.check_06_depth.proofs.Loops.{no_depths, none_noted}
use Rattle.check_05_to_07.proofs.Order.{all_numbers}
use Rattle.check_05_to_07.proofs.uses_depth_sorts.Goals as goal

pub look_at_nodes-wrong-requires : goal.look_at_nodes-wrong-requires
unfolding no_uses no_depths
look_at_nodes-wrong-requires c = (c.requires.0.few_nodes, c.requires.1, room_start _ (omega arith), none_noted _)

pub look_at_roots-number-requires : goal.look_at_roots-number-requires
unfolding no_uses no_depths
look_at_roots-number-requires c = let (_, room, chains, _) = c.look_at_nodes-wrong.ensures in (room_less _ 16 _ room (omega arith), chains.bounded)

pub some_other_than_one-requires : goal.some_other_than_one-requires
unfolding no_uses no_depths
some_other_than_one-requires c = search rules

pub returns-then-some_other_than_one : goal.returns-then-some_other_than_one
unfolding no_uses no_depths
returns-then-some_other_than_one c = λ fields parameters. let (counted, _, chains, sorts) = c.look_at_nodes-wrong.ensures in
    let (rooted, number) = c.look_at_roots-number.ensures parameters in
    all_numbers fields c.args.functions.now parameters c.args.nodes.now c.requires.0.few_nodes _ _ _ _ counted chains sorts rooted _ number
    true (sym c.if-some_other_than_one.true ∙ c.some_other_than_one.ensures)

pub returns : goal.returns
unfolding no_uses no_depths
returns c = λ fields parameters. let (counted, _, chains, sorts) = c.look_at_nodes-wrong.ensures in
    let (rooted, number) = c.look_at_roots-number.ensures parameters in
    all_numbers fields c.args.functions.now parameters c.args.nodes.now c.requires.0.few_nodes _ _ _ _ counted chains sorts rooted _ number
    false (sym c.if-some_other_than_one.false ∙ c.some_other_than_one.ensures)
