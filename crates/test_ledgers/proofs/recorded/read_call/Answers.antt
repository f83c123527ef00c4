-- The parts of a call are read one after another.
use Rattle.kit.specs.Names.{refl, ap, ◌∙◌, ℕ}
use Rattle.rehearse_scripts.specs.Scripts.{numbers_at}
use Rattle.test_ledgers.proofs.recorded.read_call.Goals as goal

pub returns : goal.returns
returns c = let count = c.byte_at-count.ensures in let made = c.numbers_at-arguments.ensures in record {
  function = c.byte_at-function.ensures.value;
  caller = c.byte_at-caller.ensures.value;
  counted = count.value;
  room = made.0;
  stand = made.1 ∙ ap (λ (n : ℕ). numbers_at n c.args.bytes.now 3) count.value;
  behind = refl;
  few = count.upper_bound;
}
