-- Each turn gives one place more its content.
use Rattle.std.specs.Prelude.{◌≡◌, ◌++◌, ◌+◌, ◌-◌}
use Rattle.kit.specs.Names.{length, drop}
use Rattle.file_accepted.specs.Context.{fields_in}
use Rattle.ledger_struct.specs.Ledgers.{contents_in}
use Rattle.deploy_ledger.specs.Deployments.{contents_for, readers_of, field_contents, Tidy}
use Rattle.deploy_ledger.proofs.put_field.Given as goal

abbrev pub invariant-loop-key : goal.invariant-loop-key
invariant-loop-key l = record {
  long : length l.made ≡ 1024;
  stands : contents_in (l.p + l.key) l.made
      ++ contents_for (readers_of (fields_in l.file) l.numbers l.f l.key (l.count - l.key)) (drop (l.p + l.key) l.numbers)
      ≡ contents_in l.p l.initial.made ++ field_contents (fields_in l.file) l.numbers l.f l.p l.count;
  tidy : Tidy l.p l.initial.made → Tidy (l.p + l.key) l.made;
}
