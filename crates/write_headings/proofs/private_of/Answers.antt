-- The count that was read is the one in the file.
use Rattle.write_headings.proofs.Parts.{private_is_law}
use Rattle.write_headings.proofs.private_of.Goals as goal

pub returns : goal.returns
returns c = let args = c.args in
    private_is_law args.file.now args.function_at _ _ c.byte_at-count.ensures.value c.count_private.ensures
