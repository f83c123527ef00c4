-- The places opened, the address of each name, the parameters, the log of the body, then the variables.
use Rattle.std.specs.Prelude.{◌*◌}
use Rattle.kit.specs.Names.{refl, ap, sym, ◌∙◌, arith, length, length-take-le, take_at}
use Rattle.ledger_contents.specs.Contents.{contents_of}
use Rattle.ledger_numbers.proofs.Numbers.{numbers_whole}
use Rattle.call_honest.proofs.HonestParts.{opened_by, arguments_few, addresses_ready, parameters_ready, given_honest, log_room}
use Rattle.call_honest.proofs.supply.Goals as goal

pub put_addresses-requires : goal.put_addresses-requires
put_addresses-requires c = addresses_ready _ _ _ _ _ _ c.requires.0.known.called _ refl

pub slice_bounds-put_parameters-end : goal.slice_bounds-put_parameters-end
slice_bounds-put_parameters-end c = omega (arith, arguments_few _ _ _ _ _ _ c.requires.0.known.called, c.requires.2)

pub slice_bounds-put_parameters-end-2 : goal.slice_bounds-put_parameters-end-2
slice_bounds-put_parameters-end-2 c = sym (length-take-le _ _ (omega (arith, arguments_few _ _ _ _ _ _ c.requires.0.known.called, c.requires.2)))

pub put_parameters-requires : goal.put_parameters-requires
put_parameters-requires c = parameters_ready _ _ _ _ _ _ c.requires.0.known.called _
    (length-take-le _ _ (omega (arith, arguments_few _ _ _ _ _ _ c.requires.0.known.called, c.requires.2)))

pub log_body-logged-requires : goal.log_body-logged-requires
log_body-logged-requires c = let known = c.requires.0.known in
    log_room _ _ _ _ _ _ known.called _ _ known.private_is (omega arith)

pub slice_bounds-supply_logged-end : goal.slice_bounds-supply_logged-end
slice_bounds-supply_logged-end c = sym (length-take-le _ _ (omega (arith, c.log_body-logged.ensures.fits)))

pub supply_logged-requires : goal.supply_logged-requires
supply_logged-requires c = let opened = numbers_whole _ _ _ _ c.requires.1 c.opened_numbers.ensures in (
  record {
    ledger = c.requires.0.ledger;
    told = record {
      known = opened_by _ _ _ _ _ _ _ _ _ c.requires.0.known opened;
      entries = c.log_body-logged.ensures.entries;
      addressed = c.put_addresses.ensures;
    };
  },
  c.requires.3,
)

pub returns : goal.returns
returns c = let opened = numbers_whole _ _ _ _ c.requires.1 c.opened_numbers.ensures in
    let p = c.put_parameters in let front = take_at p.new.flat _ (5 * length c.args.arguments.now)
    (p.auto.flat ∙ length-take-le _ c.args.given.now (omega (arith, arguments_few _ _ _ _ _ _ c.requires.0.known.called, c.requires.2))) in
    λ l placed follows. record {
      parameters = ap contents_of front ∙ given_honest _ _ _ _ _ _ placed.called _ _ follows p.ensures;
      variables = c.supply_logged.ensures l (record {
        known = opened_by _ _ _ _ _ _ _ _ _ placed opened;
        entries = c.log_body-logged.ensures.entries;
        addressed = c.put_addresses.ensures;
      }) follows;
    }
