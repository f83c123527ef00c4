-- A run that differs counts twice.
use Rattle.std.specs.Prelude.{◌+◌}
use Rattle.kit.specs.Names.{refl, ap, ◌∙◌, Bool, cond, ℕ}
use Rattle.test_ledgers.proofs.recorded.counted.Goals as goal

pub returns : goal.returns
returns c = let differs = c.difference.ensures.0 ∙ ap (λ (b : Bool). cond b 0 1)
    c.both-same.ensures in record {
      runs = refl;
      different = ap (λ (n : ℕ). c.args.tally.different + n) differs;
      behind = refl;
    }
