-- An entry that makes no variable puts nothing, and every other one content.
use Rattle.kit.specs.Names.{sym, ◌∙◌, arith, rules}
use Rattle.honest_variables.proofs.Contents.{entry_passed, entry_inside, entry_other}
use Rattle.honest_variables.proofs.put_entry.Goals as goal

pub content_of_slot-content-requires : goal.content_of_slot-content-requires
content_of_slot-content-requires c = let args = c.args in let pre = c.requires in
    let made = sym c.makes_none.ensures ∙ c.if-makes_none.false in record {
      small = omega (arith, c.slot_at-slot.ensures, pre.small args.n);
      narrow = pre.narrow made;
      few = omega (arith, pre.few, entry_inside args.call args.slots.now args.addresses.now args.tag args.code args.n made pre.inside);
    }

pub returns-then-makes_none : goal.returns-then-makes_none
returns-then-makes_none c = let args = c.args in
    entry_passed args.call args.slots.now args.addresses.now args.tag args.code args.flat.now args.n (sym c.makes_none.ensures ∙ c.if-makes_none.true)

pub returns-else-makes_none : goal.returns-else-makes_none
returns-else-makes_none c = let args = c.args in
    let made = sym c.makes_none.ensures ∙ c.if-makes_none.false in
    entry_other args.call args.slots.now args.addresses.now args.tag args.code args.flat.now _ args.n _ _ made c.slot_at-slot.ensures
    c.content_of_slot-content.ensures c.put_content.ensures (search rules)
