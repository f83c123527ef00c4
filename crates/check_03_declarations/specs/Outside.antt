-- 01, number 3: a field, a parameter, a function and a node that are outside the tables.
use Rattle.kit.specs.Names.{Bool, not}
use Rattle.definitions.specs.Basics.{any}
use Rattle.definitions.specs.ContractFile.{FieldRecord, ParameterRecord, FunctionRecord, NodeRecord}
use Rattle.definitions.specs.Numbers.{field_in_tables, parameter_in_tables, node_in_tables}

abbrev pub field_outside : FieldRecord → Bool
field_outside r = not (field_in_tables r)

abbrev pub parameter_outside : ParameterRecord → Bool
parameter_outside r = not (parameter_in_tables r)

abbrev pub function_outside : FunctionRecord → Bool
function_outside r = any parameter_outside r.parameters

abbrev pub node_outside : NodeRecord → Bool
node_outside r = not (node_in_tables r)
