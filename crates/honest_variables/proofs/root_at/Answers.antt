-- The last two bytes of the function's record.
use Rattle.std.specs.Prelude.{◌-◌}
use Rattle.kit.specs.Names.{ap, ◌∙◌, ℕ}
use Rattle.definitions.specs.ContractFile.{two_bytes_at}
use Rattle.honest_variables.proofs.root_at.Goals as goal

pub returns : goal.returns
returns c = c.two_bytes_at.ensures.value ∙ ap (λ (end : ℕ). two_bytes_at c.args.file.now (end - 2)) c.function_end.ensures.value
