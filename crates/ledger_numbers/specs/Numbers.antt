-- The number of each content, from flat contents.
use Rattle.std.specs.Prelude.{◌≡◌, ◌/◌}
use Rattle.kit.specs.Names.{List, map, ℕ, length, take}
use Rattle.definitions.specs.Ledger.{Content}
use Rattle.ledger_contents.specs.Contents.{content_of_code, contents_of}
use Rattle.ledger_contents.specs.declared.Content.{Content as CodeContent}

-- The first numbers are those of the contents, one for each.
pub record Numbered (number : Content → ℕ) (flat before after : List ℕ) : Type 0 where
  pub first : take (length flat / 5) after ≡ map number (contents_of flat)
  pub size : length after ≡ length before

-- What a function of a content answers is the number told of it.
abbrev pub TellsNumber : (CodeContent → ℕ → Type 0) → (Content → ℕ) → Type 0
TellsNumber post told = (content : CodeContent) (r : ℕ) → post content r → r ≡ told (content_of_code content)
