-- Each turn gives the places of one field more their contents.
use Rattle.std.specs.Prelude.{◌≡◌, ◌++◌, ◌+◌}
use Rattle.kit.specs.Names.{length, drop}
use Rattle.definitions.specs.Original.{per_place, place_readers}
use Rattle.file_accepted.specs.Context.{fields_in}
use Rattle.ledger_struct.specs.Ledgers.{contents_in}
use Rattle.deploy_ledger.specs.Deployments.{contents_for, Tidy}
use Rattle.deploy_ledger.proofs.Places.{asked}
use Rattle.deploy_ledger.proofs.put_places.Given as goal

abbrev pub invariant-loop-f : goal.invariant-loop-f
invariant-loop-f l = record {
  counted : l.p + length (per_place (asked (fields_in l.file) l.numbers) (drop l.f (fields_in l.file))) ≡ length l.numbers;
  stand : contents_in l.p l.places
      ++ contents_for (per_place (asked (fields_in l.file) l.numbers) (drop l.f (fields_in l.file))) (drop l.p l.numbers)
      ≡ contents_for (place_readers (fields_in l.file) l.numbers) l.numbers;
  tidy : Tidy l.p l.places;
}
