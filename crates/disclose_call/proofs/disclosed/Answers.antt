-- The ledger is taken apart, and its parts are asked.
use Rattle.std.specs.Prelude.{◌≡◌}
use Rattle.kit.specs.Names.{refl, sym, arith, length, length-take-le, rules}
use Rattle.ledger_struct.proofs.Flat.{flat_cut}
use Rattle.ledger_struct.proofs.Apart.{flat_few, parts_make}
use Rattle.disclose_call.proofs.disclosed.Goals as goal

pub slice_bounds-bytes-end : goal.slice_bounds-bytes-end
slice_bounds-bytes-end c = let bytes : length c.args.l.file ≡ 4596 = search rules in omega (arith, c.at_most-length.ensures, bytes)

pub slice_bounds-disclosed_apart-end : goal.slice_bounds-disclosed_apart-end
slice_bounds-disclosed_apart-end c = let bytes : length c.args.l.file ≡ 4596 = search rules in let cut = c.at_most-length in sym (length-take-le cut.result c.args.l.file (omega (arith, cut.ensures, bytes)))

pub slice_bounds-disclosed_apart-end-2 : goal.slice_bounds-disclosed_apart-end-2
slice_bounds-disclosed_apart-end-2 c = sym (flat_cut _ _ 8 _ c.flat_parameters-shown.ensures)

pub slice_bounds-disclosed_apart-end-3 : goal.slice_bounds-disclosed_apart-end-3
slice_bounds-disclosed_apart-end-3 c = sym (flat_cut _ _ 1024 _ c.flat_variables-set.ensures)

pub slice_bounds-disclosed_apart-end-4 : goal.slice_bounds-disclosed_apart-end-4
slice_bounds-disclosed_apart-end-4 c = sym (flat_cut _ _ 1024 _ c.flat_places-held.ensures)

pub disclosed_apart-requires : goal.disclosed_apart-requires
disclosed_apart-requires c = (flat_few _ _ 8 _ c.flat_parameters-shown.ensures, omega (arith, flat_few _ _ 1024 _ c.flat_places-held.ensures))

pub returns : goal.returns
returns c = let bytes : length c.args.l.file ≡ 4596 = search rules in rw (parts_make c.args.l _ _ _ _ _ _ _ _ bytes c.at_most-length.ensures refl c.flat_parameters-shown.ensures
    c.flat_variables-set.ensures c.flat_places-held.ensures) at c.disclosed_apart.ensures
