-- What a function's slices are ready for, with as many classes of names as there are owners' numbers.
use Rattle.std.specs.Prelude.{◌≡◌}
use Rattle.kit.specs.Names.{ℕ}
use Rattle.rules_scopes.specs.Scopes.{Ready}
use Rattle.rules_scopes.specs.Slices.{owner_count_of}
use Rattle.rules_scopes.specs.declared.FunctionSlices.{FunctionSlices}

pub ready_with : (slices : FunctionSlices) {classes : ℕ} → classes ≡ owner_count_of slices
    → Ready slices.fields.now slices.parameters.now slices.nodes.now classes
ready_with slices long =
    let ready = slices.ready in record { declared = ready.declared; given = ready.given; bodies = ready.bodies; numbered = long }
