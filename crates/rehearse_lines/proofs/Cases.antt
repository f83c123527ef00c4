-- Cases that pin what a line is: "17 00ff9a" and an empty view.
use Rattle.std.specs.Prelude.{◌≡◌, ◌∷◌}
use Rattle.kit.specs.Names.{refl, []}
use Rattle.definitions.specs.Basics.{flat_map}
use Rattle.definitions.specs.Report.{digits}
use Rattle.rehearse_lines.specs.Lines.{view_line}

view_line_law : view_line 17 (0 ∷ 255 ∷ 154 ∷ []) ≡ 49 ∷ 55 ∷ 32 ∷ 48 ∷ 48 ∷ 102 ∷ 102 ∷ 57 ∷ 97 ∷ 10 ∷ []
unfolding digits flat_map
view_line_law = refl

empty_line : view_line 0 [] ≡ 48 ∷ 32 ∷ 10 ∷ []
unfolding digits flat_map
empty_line = refl
