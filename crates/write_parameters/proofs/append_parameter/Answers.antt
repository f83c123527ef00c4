-- Two bytes either way.
use Rattle.kit.specs.Names.{arith}
use Rattle.write_parameters.proofs.Parameters.{public_room, private_room, public_appended, private_appended}
use Rattle.write_parameters.proofs.append_parameter.Goals as goal

pub append_byte-next-requires : goal.append_byte-next-requires
append_byte-next-requires c = let args = c.args in
    let room = public_room args.kind args.owner _ _ c.if-owner-eq-EVERYONE_CODE.true c.requires in omega arith

pub append_byte-requires : goal.append_byte-requires
append_byte-requires c = let args = c.args in let pre = c.requires in
    let if1-taken = c.if-owner-eq-EVERYONE_CODE.true in
    let room = public_room args.kind args.owner _ _ if1-taken pre in omega arith

pub append_byte-next-requires-else-owner-eq-EVERYONE_CODE : goal.append_byte-next-requires-else-owner-eq-EVERYONE_CODE
append_byte-next-requires-else-owner-eq-EVERYONE_CODE c = let args = c.args in
    let room = private_room args.kind args.owner _ _ c.if-owner-eq-EVERYONE_CODE.false c.requires in omega arith

pub append_byte-requires-else-owner-eq-EVERYONE_CODE : goal.append_byte-requires-else-owner-eq-EVERYONE_CODE
append_byte-requires-else-owner-eq-EVERYONE_CODE c = let args = c.args in let pre = c.requires in
    let if1-left = c.if-owner-eq-EVERYONE_CODE.false in
    let room = private_room args.kind args.owner _ _ if1-left pre in omega arith

pub returns-then-owner-eq-EVERYONE_CODE : goal.returns-then-owner-eq-EVERYONE_CODE
returns-then-owner-eq-EVERYONE_CODE c = let args = c.args in
    let pre = c.requires in let if1-taken = c.if-owner-eq-EVERYONE_CODE.true in
    let type_code = c.type_code.ensures in
    let append-byte = c.append_byte-next.ensures in
    public_appended args.kind args.owner _ _ _ _ _ _ pre _ if1-taken type_code append-byte c.append_byte.ensures

pub returns-else-owner-eq-EVERYONE_CODE : goal.returns-else-owner-eq-EVERYONE_CODE
returns-else-owner-eq-EVERYONE_CODE c = let args = c.args in
    let pre = c.requires in let if1-left = c.if-owner-eq-EVERYONE_CODE.false in
    let append-byte3 = c.append_byte-next-else-owner-eq-EVERYONE_CODE.ensures in
    private_appended args.kind args.owner _ _ _ _ _ _ pre if1-left append-byte3 c.append_byte-else-owner-eq-EVERYONE_CODE.ensures
