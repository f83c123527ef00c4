use Rattle.std.specs.Prelude.{◌<◌}
use Rattle.kit.specs.Names.{refl, arith, length}
use Rattle.file_accepted.specs.Context.{fields_in}
use Rattle.ledger_places.proofs.Positions.{fields_count}
use Rattle.deploy_ledger.proofs.Places.{field_counted, field_given, fields_whole, tidy_none}
use Rattle.deploy_ledger.proofs.put_places.Goals as goal

pub loop-f-init : goal.loop-f-init
loop-f-init c = record { counted = omega (arith, c.requires.per_place); stand = refl; tidy = tidy_none _ refl }

pub place_count-many-requires : goal.place_count-many-requires
place_count-many-requires c = omega (arith, c.requires.few_fields, c.byte_at-count.ensures.value)

pub put_field-made-requires : goal.put_field-made-requires
put_field-made-requires c = let fields = fields_in c.args.file.now in let loop = c.loop-f in
    let same = c.byte_at-count.ensures.value in let counted = fields_count c.args.file.now in
    let many = c.place_count-many.ensures in
    let inside : loop.f < length fields = omega arith in
    let more = field_counted fields c.args.numbers.now loop.f loop.p _ inside many.value loop.invariant.counted in
    record { deployable = c.requires; f_bound = omega arith; count_in_bounds = omega (arith, many.upper_bound) }

pub overflow_add-p : goal.overflow_add-p
overflow_add-p c = omega (arith, c.requires.few_places, c.place_count-many.ensures.upper_bound)

pub loop-f-preserved : goal.loop-f-preserved
loop-f-preserved c = let fields = fields_in c.args.file.now in let numbers = c.args.numbers.now in
    let same = c.byte_at-count.ensures.value in let counted = fields_count c.args.file.now in
    let loop = c.loop-f in let so_far = loop.invariant in let many = c.place_count-many.ensures.value in
    let inside : loop.f < length fields = omega arith in
    let more = field_counted fields numbers loop.f loop.p _ inside many so_far.counted in record {
      counted = more;
      stand = field_given fields numbers loop.f loop.p _ inside many loop.places _ _ (omega arith)
          c.put_field-made.ensures.stands so_far.stand;
      tidy = c.put_field-made.ensures.tidy so_far.tidy;
    }

pub returns : goal.returns
returns c = let file = c.args.file.now in let loop = c.loop-f in let so_far = loop.invariant in
    let same = c.byte_at-count.ensures.value in let counted = fields_count file in let fields = fields_in file in
    record { whole = fields_whole fields c.args.numbers.now loop.f loop.p _ _ (omega arith) so_far.counted so_far.stand so_far.tidy }
