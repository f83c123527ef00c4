use Rattle.kit.specs.Names.{ap, ℕ, leb}
use Rattle.call_18_callable.proofs.lacks_function.Goals as goal

pub returns : goal.returns
returns c = ap (λ (n : ℕ). leb n c.args.function) c.read_layout-layout.ensures.functions
