-- The keys, and their count before them.
use Rattle.kit.specs.Names.{refl}
use Rattle.write_headings.proofs.Parts.{keys_counted}
use Rattle.write_headings.proofs.append_key_part.Goals as goal

pub returns : goal.returns
returns c = let args = c.args in
    let pre = c.requires in let append-keys = c.append_keys-end.ensures in
    keys_counted args.out.now args.at args.log.now pre _ _ _ _ _ append-keys refl c.append_two_bytes.ensures
