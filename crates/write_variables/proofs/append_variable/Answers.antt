-- Two bytes, or none for an entry that makes no variable.
use Rattle.kit.specs.Names.{sym, ◌∙◌, arith}
use Rattle.write_variables.proofs.Variables.{nothing_made, variable_room, variable_appended}
use Rattle.write_variables.proofs.append_variable.Goals as goal

pub append_byte-next-requires : goal.append_byte-next-requires
append_byte-next-requires c = let args = c.args in
    let room = variable_room args.tag args.owner (sym c.makes_none.ensures ∙ c.if-makes_none.false) _ _ c.requires in omega arith

pub append_byte-requires : goal.append_byte-requires
append_byte-requires c = let args = c.args in
    let room = variable_room args.tag args.owner (sym c.makes_none.ensures ∙ c.if-makes_none.false) _ _ c.requires in omega arith

pub returns-then-makes_none : goal.returns-then-makes_none
returns-then-makes_none c = let args = c.args in nothing_made args.tag args.owner _ _ (sym c.makes_none.ensures ∙ c.if-makes_none.true)

pub returns-else-makes_none : goal.returns-else-makes_none
returns-else-makes_none c = let args = c.args in
    variable_appended args.tag args.owner (sym c.makes_none.ensures ∙ c.if-makes_none.false) _ _ _ _ _ _ _ c.requires c.origin_of.ensures
    c.append_byte-next.ensures c.append_byte.ensures
