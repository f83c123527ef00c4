-- A content as code holds it, and contents as flat numbers: tag (0 plain, else a cell), owner, call, index and value of each.
use Rattle.std.specs.Prelude.{◌∷◌, ◌%◌, ◌<◌}
use Rattle.kit.specs.Names.{cond, List, [], ℕ, eqb}
use Rattle.definitions.specs.Ledger as ledger
use Rattle.ledger_contents.specs.declared.Content.{Content}
use Rattle.ledger_contents.specs.declared.Content.TheVariants.{Plain, Cell}
use Rattle.ledger_contents.specs.declared.Place.{Place}

abbrev pub content_of_code : Content → ledger.Content
content_of_code (Plain v) = ledger.Content.plain v
content_of_code (Cell k) = ledger.Content.cell (record { owner = k.owner; call = k.call; index = k.index; value = k.value })

abbrev pub content_of_place : Place → ledger.Content
content_of_place place = content_of_code place.content

abbrev pub five : ℕ → ℕ → ℕ → ℕ → ℕ → List ℕ
five tag owner call index value = tag ∷ owner ∷ call ∷ index ∷ value ∷ []

-- The content that five numbers stand for: each is cut to its width, so that any five stand for one.
abbrev pub content_of_five : ℕ → ℕ → ℕ → ℕ → ℕ → ledger.Content
content_of_five tag owner call index value =
    cond (eqb tag 0) (ledger.Content.plain value)
    (ledger.Content.cell (record { owner = owner % 256; call = call % 65536; index = index % 65536; value = value }))

-- Numbers at the end that are no whole five stand for nothing.
unfoldable pub contents_of : List ℕ → List ledger.Content
contents_of [] = []
contents_of (a ∷ []) = []
contents_of (a ∷ b ∷ []) = []
contents_of (a ∷ b ∷ c ∷ []) = []
contents_of (a ∷ b ∷ c ∷ d ∷ []) = []
contents_of (a ∷ b ∷ c ∷ d ∷ e ∷ rest) = content_of_five a b c d e ∷ contents_of rest

-- Each number of a cell has its width.
pub record NarrowCell (k : ledger.Cell) : Type 0 where
  pub owner : k.owner < 256
  pub call : k.call < 65536
  pub index : k.index < 65536

abbrev pub Narrow : ledger.Content → Type 0
Narrow (ledger.Content.plain v) = Unit
Narrow (ledger.Content.cell k) = NarrowCell k

abbrev pub AllNarrow : List ledger.Content → Type 0
AllNarrow [] = Unit
AllNarrow (content ∷ contents) = Narrow content × AllNarrow contents
