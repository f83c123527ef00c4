-- One value is stored.
use Rattle.std.specs.Prelude.{◌<◌}
use Rattle.kit.specs.Names.{refl, sym, arith, length}
use Rattle.memory_buffer.proofs.Storing.{stored_one}
use Rattle.disclose_expressions.proofs.append_value.Goals as goal

pub returns : goal.returns
returns c =
    record {
      contents = let inside : c.args.at < length c.args.out.now = omega (arith, c.requires) in sym
          (stored_one _ _ _ inside);
      place = refl;
    }
