use Rattle.std.specs.Prelude.{◌+◌}
use Rattle.kit.specs.Names.{ap, ◌∙◌, arith, get_or, length-set, rules}
use Rattle.definitions.specs.ContractFile.{field_at}
use Rattle.definitions.specs.Original.{Reader, final_address, position}
use Rattle.definitions.specs.Ledger.{content_for}
use Rattle.file_accepted.specs.Context.{fields_in}
use Rattle.ledger_struct.proofs.Flat.{unmapped}
use Rattle.deploy_ledger.proofs.Places.{short_reader, field_start, field_next, field_done, tidy_first, tidy_next, tidy_last}
use Rattle.deploy_ledger.proofs.put_field.Goals as goal

pub loop-key-init : goal.loop-key-init
loop-key-init c = record {
  long = search (unmapped, rules);
  stands = field_start (fields_in c.args.file.now) c.args.numbers.now c.args.f c.args.p c.args.count c.args.places;
  tidy = tidy_first c.args.p c.args.places;
}

pub place_reader-reader-requires : goal.place_reader-reader-requires
place_reader-reader-requires c = let deployable = c.requires.deployable in let f-bound = c.requires.f_bound in (f-bound, deployable.few_fields)

pub content_for-content-requires : goal.content_for-content-requires
content_for-content-requires c = let place-reader = c.place_reader-reader in
    short_reader place-reader.result (final_address (fields_in c.args.file.now) c.args.numbers.now) (field_at (fields_in c.args.file.now) c.args.f).owner
    c.loop-key.key place-reader.ensures
    (λ g. c.requires.deployable.bytes (position (fields_in c.args.file.now) g 0)) (omega (arith, c.requires.count_in_bounds))

pub bounds-made-p : goal.bounds-made-p
bounds-made-p c = let deployable = c.requires.deployable in let (numbers-room, count-bound) = c.requires.count_in_bounds in
    omega (arith, deployable.few_places, numbers-room, count-bound)

pub loop-key-preserved : goal.loop-key-preserved
loop-key-preserved c = let fields = fields_in c.args.file.now in let numbers = c.args.numbers.now in let p = c.args.p in
    let loop = c.loop-key in let so_far = loop.invariant in
    let few = c.requires.deployable.few_places in let room = c.requires.count_in_bounds in
    let content = c.content_for-content.ensures
    ∙ ap (λ (r : Reader). content_for r 0 0 (get_or numbers (p + loop.key) 0)) c.place_reader-reader.ensures in record {
      long = simp length-set so_far.long;
      stands = field_next fields numbers c.args.f p c.args.count loop.key loop.made _ _ (omega arith) (omega arith) (omega arith)
          content so_far.stands;
      tidy = λ before. tidy_next loop.made (p + loop.key) (p + (loop.key + 1)) _ so_far.long (omega arith) (omega arith)
          (so_far.tidy before);
    }

pub returns : goal.returns
returns c = let loop = c.loop-key in let so_far = loop.invariant in record {
  stands =
      field_done (fields_in c.args.file.now) c.args.numbers.now c.args.f c.args.p c.args.count loop.key _ _ (omega arith) (omega arith)
      so_far.stands;
  tidy = λ before. tidy_last _ _ loop.key _ (omega arith) (omega arith) (so_far.tidy before);
}
