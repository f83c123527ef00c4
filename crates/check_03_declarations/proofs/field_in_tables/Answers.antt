use Rattle.kit.specs.Names.{rules}
use Rattle.definitions.specs.Numbers.{field_in_tables}
use Rattle.check_03_declarations.proofs.field_in_tables.Goals as goal

pub is_final_code-requires : goal.is_final_code-requires
unfolding field_in_tables
is_final_code-requires c = search rules

pub returns : goal.returns
unfolding field_in_tables
returns c = rw (← c.is_final_code.ensures)
