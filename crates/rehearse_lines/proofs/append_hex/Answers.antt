use Rattle.kit.specs.Names.{arith}
use Rattle.rehearse_lines.proofs.Hex.{hex_start, hex_room, hex_next, hex_done}
use Rattle.rehearse_lines.proofs.append_hex.Goals as goal

pub loop-byte-init : goal.loop-byte-init
loop-byte-init c = hex_start _ _ _ c.requires

pub append_hex_byte-at-requires : goal.append_hex_byte-at-requires
append_hex_byte-at-requires c =
    hex_room _ _ _ c.requires _ _ c.loop-byte.byte-index c.loop-byte.invariant (omega arith)

pub loop-byte-preserved : goal.loop-byte-preserved
loop-byte-preserved c =
    hex_next _ _ _ c.requires _ _ c.loop-byte.byte-index c.loop-byte.invariant _ _ (omega arith) c.append_hex_byte-at.ensures

pub returns : goal.returns
returns c = hex_done _ _ _ c.requires _ _ c.loop-byte.byte-index c.loop-byte.invariant (omega arith)
