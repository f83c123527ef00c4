-- What an expression of a written body gives on flat contents: whether it is walked to its end, and its content.
use Rattle.std.specs.Prelude.{◌≡◌}
use Rattle.kit.specs.Names.{Bool, List, ℕ}
use Rattle.definitions.specs.Rewriting.{BodyExpression}
use Rattle.definitions.specs.Ledger as ledger
use Rattle.file_accepted.specs.Context.{fields_in}
use Rattle.ledger_contents.specs.Contents.{content_of_code, contents_of}
use Rattle.ledger_circuits.specs.Circuits.{address_from}
use Rattle.walk_numbers.specs.declared.Walked.{Walked}

abbrev pub state_of : List ℕ → List ℕ → ledger.State
state_of places variables = record { places = contents_of places; variables = contents_of variables }

module _ (file addresses parameters : List ℕ) where
  unfoldable pub content_from : ledger.State → BodyExpression → ledger.Content
  content_from s e = ledger.content_of (address_from addresses) (fields_in file) (contents_of parameters) s e

  unfoldable pub walked_from : ledger.State → BodyExpression → Bool
  walked_from s e = ledger.is_walked (address_from addresses) (fields_in file) (contents_of parameters) s e

pub record Gives (walked : Bool) (content : ledger.Content) (r : Walked) : Type 0 where
  pub is_walked : r.walked ≡ walked
  pub same : content_of_code r.content ≡ content
