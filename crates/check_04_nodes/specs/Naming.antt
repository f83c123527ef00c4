-- 01, number 4: a field's owner code, a function's root and a node that name nothing.
use Rattle.std.specs.Prelude.{◌||◌}
use Rattle.kit.specs.Names.{Bool, ℕ, leb}
use Rattle.definitions.specs.Basics.{any}
use Rattle.definitions.specs.ContractFile.{FieldRecord, FunctionRecord, NodeRecord, field_of, node_of, fields_named, children}
use Rattle.definitions.specs.Numbers.{field_of_declared_owner}

abbrev pub owner_names_nothing : ℕ → FieldRecord → Bool
owner_names_nothing fields r = any (leb fields) (field_of_declared_owner (field_of r).owner)

abbrev pub root_names_nothing : ℕ → FunctionRecord → Bool
root_names_nothing nodes r = leb nodes r.root

abbrev pub node_names_nothing : ℕ → ℕ → NodeRecord → Bool
node_names_nothing fields n r = any (leb fields) (fields_named (node_of r)) || any (leb n) (children (node_of r))
