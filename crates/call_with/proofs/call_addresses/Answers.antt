use Rattle.kit.specs.Names.{sym, arith, length-take-le}
use Rattle.call_with.proofs.call_addresses.Goals as goal

pub slice_bounds-put_addresses-end : goal.slice_bounds-put_addresses-end
slice_bounds-put_addresses-end c = sym (length-take-le _ _ (omega arith))

pub slice_bounds-put_addresses-end-2 : goal.slice_bounds-put_addresses-end-2
slice_bounds-put_addresses-end-2 c = sym (length-take-le _ _ (omega arith))

pub returns : goal.returns
returns c = let plain-numbers-first = c.plain_numbers.ensures.first in
    let plain-numbers2-first = c.plain_numbers-2.ensures.first in
    rw (sym plain-numbers-first, sym plain-numbers2-first) c.put_addresses.ensures
