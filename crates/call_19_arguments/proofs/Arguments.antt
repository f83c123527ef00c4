-- Number 19's test on a function's place that is known by an equation.
use Rattle.std.specs.Prelude.{◌≡◌}
use Rattle.kit.specs.Names.{ap, ◌∙◌, Bool, List, ℕ}
use Rattle.file_accepted.specs.Context.{parameters_in}
use Rattle.ledger_numbers.specs.Arguments.{arguments_off_for}

pub off_there : (file arguments : List ℕ) (at other : ℕ) (r : Bool) → at ≡ other → r ≡ arguments_off_for (parameters_in file at) arguments → r ≡ arguments_off_for (parameters_in file other) arguments
off_there file arguments at other r same h = h ∙ ap (λ (n : ℕ). arguments_off_for (parameters_in file n) arguments) same
