-- Each turn writes the numbers of one field more.
use Rattle.std.specs.Prelude.{◌≡◌, ◌+◌, ◌*◌, ◌≤◌}
use Rattle.kit.specs.Names.{length, drop}
use Rattle.memory_buffer.specs.Buffer.{stored}
use Rattle.definitions.specs.Original.{deployed_numbers}
use Rattle.file_accepted.specs.Context.{fields_in}
use Rattle.deploy_ledger.proofs.put_numbers.Given as goal

abbrev pub invariant-loop-f : goal.invariant-loop-f
invariant-loop-f l = record {
  at_most : l.p ≤ 16 * l.f;
  given : l.a ≤ l.f;
  stand : stored l.numbers l.p (deployed_numbers (drop l.f (fields_in l.file)) (drop l.a l.addresses))
      ≡ stored l.initial.numbers 0 (deployed_numbers (fields_in l.file) l.addresses);
  counted : l.p + length (deployed_numbers (drop l.f (fields_in l.file)) (drop l.a l.addresses))
      ≡ length (deployed_numbers (fields_in l.file) l.addresses);
}
