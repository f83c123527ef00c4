use Rattle.kit.specs.Names.{refl}
use Rattle.rules_owners.proofs.Numbering.{field_codes}
use Rattle.rules_scopes.proofs.Tables.{field_read_law}
use Rattle.rules_scopes.proofs.field_from.Goals as goal

pub declared_number-requires : goal.declared_number-requires
declared_number-requires c = (field_codes _ (c.requires.0.listed _ c.requires.1)).2

pub returns : goal.returns
returns c = field_read_law _ c.requires.0 _ c.requires.1 _ refl refl c.declared_number.ensures refl
