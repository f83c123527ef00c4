-- The space, and then the digits.
use Rattle.std.specs.Prelude.{◌∷◌}
use Rattle.kit.specs.Names.{[], arith}
use Rattle.memory_append.proofs.Appending.{appended_then}
use Rattle.report_text.proofs.Digits.{digits_length}
use Rattle.disclose_lines.proofs.append_value.Goals as goal

pub append_digits-requires : goal.append_digits-requires
append_digits-requires c = omega (arith, digits_length 20 c.args.value, c.append_byte-next.ensures.place)

pub returns : goal.returns
returns c = appended_then _ _ _ _ (32 ∷ []) _ _ _ c.append_byte-next.ensures (omega arith) c.append_digits.ensures
