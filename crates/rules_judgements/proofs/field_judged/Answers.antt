use Rattle.rules_judgements.proofs.field_judged.Goals as goal

pub unread-requires : goal.unread-requires
unread-requires c = rw c.place_owner-owner.ensures c.requires.1

pub returns : goal.returns
returns c = cc
