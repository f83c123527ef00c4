-- A reader as code holds it, and the form that a type's code and a reader make.
use Rattle.std.specs.Prelude.{◌<◌}
use Rattle.kit.specs.Names.{Bool, true, false, ℕ, eqb}
use Rattle.definitions.specs.Ledger as ledger
use Rattle.definitions.specs.Original as original
use Rattle.definitions.specs.ContractFile.{data_type_of}
use Rattle.definitions.specs.Ledger.{Form}
use Rattle.ledger_readers.specs.declared.Reader.{Reader}
use Rattle.ledger_readers.specs.declared.Reader.TheVariants.{Anyone, Only}

abbrev pub reader_of_code : Reader → original.Reader
reader_of_code Anyone = original.Reader.anyone
reader_of_code (Only x) = original.Reader.only x

abbrev pub form_of : ℕ → Reader → Form
form_of code reader = record { type = data_type_of code; reader = reader_of_code reader }

-- Plain for all, or a cell of the reader's address.
abbrev pub is_content : original.Reader → ledger.Content → Bool
is_content original.Reader.anyone (ledger.Content.plain v) = true
is_content original.Reader.anyone (ledger.Content.cell c) = false
is_content (original.Reader.only x) (ledger.Content.plain v) = false
is_content (original.Reader.only x) (ledger.Content.cell c) = eqb c.owner x

-- The address is a byte.
abbrev pub Short : Reader → Type 0
Short Anyone = Unit
Short (Only x) = x < 256
