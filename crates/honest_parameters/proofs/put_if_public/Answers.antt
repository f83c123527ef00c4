-- By the byte of the parameter's owner.
use Rattle.kit.specs.Names.{◌∙◌, ap, set}
use Rattle.ledger_contents.specs.Contents.{contents_of}
use Rattle.definitions.specs.Ledger.{Content}
use Rattle.honest_parameters.proofs.Honest.{public_here, private_here}
use Rattle.honest_parameters.proofs.Public.{picked, not_picked}
use Rattle.honest_parameters.proofs.put_if_public.Goals as goal

pub returns-then-byte_at-eq-EVERYONE_CODE : goal.returns-then-byte_at-eq-EVERYONE_CODE
returns-then-byte_at-eq-EVERYONE_CODE c = let args = c.args in
    let (_, (k-bound, r-bound)) = c.requires in let byte_at = c.byte_at.ensures.value in
    let if1-taken = c.if-byte_at-eq-EVERYONE_CODE.true in
    picked _ args.flat.now _ args.r _ (public_here args.file.now args.function_at args.k _ k-bound byte_at if1-taken) r-bound (c.put_content.ensures ∙ ap (λ (item : Content). set (contents_of args.flat.now) args.r item) c.content_at-content.ensures)

pub returns-else-byte_at-eq-EVERYONE_CODE : goal.returns-else-byte_at-eq-EVERYONE_CODE
returns-else-byte_at-eq-EVERYONE_CODE c = let args = c.args in let (_, (k-bound, _)) = c.requires in
    not_picked _ args.flat.now args.flat.now args.r _ (private_here args.file.now args.function_at args.k _ k-bound c.byte_at.ensures.value c.if-byte_at-eq-EVERYONE_CODE.false)
