use Rattle.kit.specs.Names.{arith}
use Rattle.rules_fields.proofs.Fields.{owner_tagged, owner_everyone, owner_named}
use Rattle.rules_fields.proofs.owner_fault.Goals as goal

pub returns-then-declared : goal.returns-then-declared
returns-then-declared c = let field = c.field_from-declared in owner_tagged c.args.fields.now c.args.f field.result field.ensures c.if-declared.true

pub returns-then-declared-eq-EVERYONE : goal.returns-then-declared-eq-EVERYONE
returns-then-declared-eq-EVERYONE c = let field = c.field_from-declared in owner_everyone c.args.fields.now c.args.f field.result field.ensures c.if-declared.false c.if-declared-eq-EVERYONE.true

pub overflow_sub-declared : goal.overflow_sub-declared
overflow_sub-declared c = let is = c.field_from-declared.ensures in let some = c.if-declared-eq-EVERYONE.false in is.final (omega arith)

pub field_from-named-requires : goal.field_from-named-requires
field_from-named-requires c = let is = c.field_from-declared.ensures in let some = c.if-declared-eq-EVERYONE.false in let below = is.listed in
    let final = is.final (omega arith) in (c.requires.0, omega arith)

pub returns : goal.returns
returns c = let field = c.field_from-declared in
    owner_named c.args.fields.now c.args.f field.result field.ensures _ _ c.if-declared.false
    c.if-declared-eq-EVERYONE.false c.field_from-named.ensures c.number_if.ensures
