use Rattle.rules_entries.proofs.entry_judged.Goals as goal

pub unread-requires : goal.unread-requires
unread-requires c = rw c.place_owner-owner.ensures c.requires

pub returns : goal.returns
returns c = cc
