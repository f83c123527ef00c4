-- The forms of a call's parameters, as the view lists them.
use Rattle.std.specs.Prelude.{◌&&◌, ◌∷◌}
use Rattle.kit.specs.Names.{Bool, not, cond, List, [], map, ℕ}
use Rattle.definitions.specs.ContractFile.{Parameter}
use Rattle.definitions.specs.Ledger.{Form, public_of, parameter_form}

-- A done call shows all parameters, a failed one the public ones.
abbrev pub forms_of_parameters : Bool → ℕ → List Parameter → List Form
forms_of_parameters all caller ps = cond all (map (parameter_form caller) ps) (public_of ps (map (parameter_form caller) ps))

-- The same, one parameter after another.
unfoldable pub shown_forms : Bool → ℕ → List Parameter → List Form
shown_forms all caller [] = []
shown_forms all caller (p ∷ ps) = cond (p.private && not all) (shown_forms all caller ps) (parameter_form caller p ∷ shown_forms all caller ps)
