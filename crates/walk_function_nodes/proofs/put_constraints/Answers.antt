-- The openings' numbers, then the claims' with their circuits.
use Rattle.walk_function_nodes.proofs.Parts.{private_space, function_claimable, circuits_room, constraints_put}
use Rattle.walk_function_nodes.proofs.put_constraints.Goals as goal

pub put_openings-requires : goal.put_openings-requires
put_openings-requires c = private_space _ _ _ _ _ c.requires.logged c.args.numbers.now c.requires.space

pub put_circuits-requires : goal.put_circuits-requires
put_circuits-requires c = let l = c.requires.logged in
    (function_claimable _ _ _ _ _ l, circuits_room _ _ _ _ _ l _ _ _ c.requires c.put_openings.ensures)

pub returns : goal.returns
returns c = let put-openings = c.put_openings.ensures in
    constraints_put _ _ _ _ _ c.requires.logged _ _ _ c.requires put-openings _ _ _ c.put_circuits.ensures
