-- The ledger is taken apart, and the call is made on its parts.
use Rattle.std.specs.Prelude.{◌≡◌}
use Rattle.kit.specs.Names.{refl, sym, arith, length, length-take-le, rules}
use Rattle.ledger_struct.proofs.Flat.{flat_cut}
use Rattle.ledger_struct.proofs.Apart.{flat_few, parts_make}
use Rattle.call.proofs.call.Goals as goal

pub slice_bounds-bytes-end : goal.slice_bounds-bytes-end
slice_bounds-bytes-end c = let bytes : length c.args.l.file ≡ 4596 = search rules in omega (arith, c.at_most-length.ensures, bytes)

pub slice_bounds-called_on-end : goal.slice_bounds-called_on-end
slice_bounds-called_on-end c = let bytes : length c.args.l.file ≡ 4596 = search rules in let cut = c.at_most-length in sym (length-take-le cut.result c.args.l.file (omega (arith, cut.ensures, bytes)))

pub slice_bounds-called_on-end-2 : goal.slice_bounds-called_on-end-2
slice_bounds-called_on-end-2 c = sym (flat_cut _ _ 8 _ c.flat_parameters-shown.ensures)

pub slice_bounds-called_on-end-3 : goal.slice_bounds-called_on-end-3
slice_bounds-called_on-end-3 c = sym (flat_cut _ _ 1024 _ c.flat_variables-set.ensures)

pub slice_bounds-called_on-end-4 : goal.slice_bounds-called_on-end-4
slice_bounds-called_on-end-4 c = sym (flat_cut _ _ 1024 _ c.flat_places-held.ensures)

pub called_on-requires : goal.called_on-requires
called_on-requires c = let bytes : length c.args.l.file ≡ 4596 = search rules in let q = c.flat_places-held.ensures in let v = c.flat_variables-set.ensures in let p = c.flat_parameters-shown.ensures in
    (parts_make c.args.l _ _ _ _ _ _ _ _ bytes c.at_most-length.ensures refl p v q, flat_few _ _ 8 _ p, omega (arith, flat_few _ _ 1024 _ q))
