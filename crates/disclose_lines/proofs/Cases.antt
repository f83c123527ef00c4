-- Cases that pin what a line is: "0 7 4294967295", and a refused call's.
use Rattle.std.specs.Prelude.{◌≡◌, ◌∷◌}
use Rattle.kit.specs.Names.{refl, []}
use Rattle.definitions.specs.Basics.{flat_map}
use Rattle.definitions.specs.Report.{digits}
use Rattle.disclose_lines.specs.Lines.{disclosed_line}

disclosed_line_law : disclosed_line 0 (7 ∷ 4294967295 ∷ [])
    ≡ 48 ∷ 32 ∷ 55 ∷ 32 ∷ 52 ∷ 50 ∷ 57 ∷ 52 ∷ 57 ∷ 54 ∷ 55 ∷ 50 ∷ 57 ∷ 53 ∷ 10 ∷ []
unfolding digits flat_map
disclosed_line_law = refl

refused_line_law : disclosed_line 19 [] ≡ 49 ∷ 57 ∷ 10 ∷ []
unfolding digits flat_map
refused_line_law = refl
