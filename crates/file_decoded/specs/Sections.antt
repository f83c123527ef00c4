-- The sections that a contract's slices hold.
use Rattle.definitions.specs.ContractFile.{Sections}
use Rattle.file_decoded.specs.Slices.{sections_from}
use Rattle.file_decoded.specs.declared.DecodedSections.{DecodedSections}

abbrev pub sections_held : DecodedSections → Sections
sections_held sections = sections_from sections.fields.now sections.functions.now sections.parameters.now sections.nodes.now
