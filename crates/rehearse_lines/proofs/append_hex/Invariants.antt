-- Each turn appends the digits of one byte more.
use Rattle.kit.specs.Names.{drop}
use Rattle.memory_append.specs.Append.{Appending}
use Rattle.rehearse_lines.specs.Lines.{hex_text}
use Rattle.rehearse_lines.proofs.append_hex.Given as goal

abbrev pub invariant-loop-byte : goal.invariant-loop-byte
invariant-loop-byte l = Appending l.initial.out l.out l.from l.at (hex_text l.bytes) (hex_text (drop l.byte-index l.bytes))
