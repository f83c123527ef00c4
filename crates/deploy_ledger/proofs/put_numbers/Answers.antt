use Rattle.std.specs.Prelude.{◌<◌, ◌≤◌}
use Rattle.kit.specs.Names.{arith, length}
use Rattle.file_accepted.specs.Context.{fields_in}
use Rattle.ledger_places.proofs.Positions.{fields_count}
use Rattle.deploy_ledger.proofs.Numbers.{zeros_put, final_next, final_count, zeros_field, zeros_count}
use Rattle.deploy_ledger.proofs.Numbers.{numbers_done, numbers_counted, is_final_law, not_final}
use Rattle.deploy_ledger.proofs.put_numbers.Goals as goal
use Rattle.deploy_ledger.proofs.put_numbers.Goals.{then-byte_at-eq-FINAL, else-byte_at-eq-FINAL}

pub loop-f-preserved : goal.loop-f-preserved
loop-f-preserved c = let file = c.args.file.now in let counted = fields_count file in
    let loop = c.loop-f in let so_far = loop.invariant in
    let inside : loop.f < length (fields_in file) = omega (arith, c.byte_at-count.ensures.value) in
    elim c.if-byte_at-eq-FINAL.branch [
      | then-byte_at-eq-FINAL w ↦
          let final = is_final_law file loop.f _ (omega arith) c.byte_at.ensures.value w.if-byte_at-eq-FINAL.true in
          rw (w.numbers-is, w.p-is, w.a-is) (record {
            at_most = omega arith;
            given = omega arith;
            stand = final_next (fields_in file) loop.f inside c.args.addresses.now loop.numbers _ loop.a loop.p _ final (omega arith)
                w.address_at.ensures so_far.stand;
            counted = final_count (fields_in file) loop.f inside c.args.addresses.now loop.a loop.p _ final so_far.counted;
          })
      | else-byte_at-eq-FINAL w ↦
          let final = not_final file loop.f _ (omega arith) c.byte_at.ensures.value w.if-byte_at-eq-FINAL.false in
          let many = w.place_count-many.ensures in
          let zeros = zeros_put loop.numbers _ loop.p w.place_count-many.result _ (omega (arith, many.upper_bound)) (omega arith)
          (w.fill.ensures.after (λ y same. same)) in
          rw (w.numbers-is, w.p-is, w.a-is) (record {
            at_most = omega (arith, many.upper_bound);
            given = omega arith;
            stand = zeros_field (fields_in file) loop.f inside _ loop.numbers _ _ loop.p _ final (omega (arith, many.upper_bound))
                many.value zeros so_far.stand;
            counted = zeros_count (fields_in file) loop.f inside _ loop.p _ _ final many.value so_far.counted;
          })
    ]

pub returns : goal.returns
returns c = let file = c.args.file.now in let counted = fields_count file in
    let loop = c.loop-f in let so_far = loop.invariant in
    let out : length (fields_in file) ≤ loop.f = omega (arith, c.byte_at-count.ensures.value) in record {
      stand = numbers_done (fields_in file) loop.f _ _ _ _ out so_far.stand;
      many = numbers_counted (fields_in file) loop.f _ _ _ out so_far.counted;
      few = omega (arith, so_far.at_most, c.byte_at-count.ensures.value);
    }
