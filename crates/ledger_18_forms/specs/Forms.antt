-- Contents tested against forms one position after another.
use Rattle.std.specs.Prelude.{◌&&◌, ◌||◌, ◌∷◌}
use Rattle.kit.specs.Names.{Bool, true, false, List, [], ℕ, ltb, length}
use Rattle.definitions.specs.Ledger.{Content, content_at, Form, fits, is_plain_zero}

-- "a variable may be plain 0"
abbrev pub fits_or_zero : Form → Content → Bool
fits_or_zero form c = is_plain_zero c || fits form c

-- The content at a position is there, and passes.
abbrev pub fits_at : (Form → Content → Bool) → List Content → ℕ → Form → Bool
fits_at test contents p form = ltb p (length contents) && test form (content_at contents p)

-- Each of some forms has its content, whatever contents follow.
unfoldable pub front_fits : (Form → Content → Bool) → List Form → List Content → Bool
front_fits test [] contents = true
front_fits test (form ∷ forms) [] = false
front_fits test (form ∷ forms) (content ∷ contents) = test form content && front_fits test forms contents
