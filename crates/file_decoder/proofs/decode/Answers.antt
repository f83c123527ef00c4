-- Fields, functions with their parameters, nodes; together the file's sections.
use Rattle.file_decoder.proofs.Sections.{functions_room, decoded}
use Rattle.file_decoder.proofs.decode.Goals as goal

pub decode_functions-requires : goal.decode_functions-requires
decode_functions-requires c = functions_room _ _ _ _ _ _ c.requires

pub returns : goal.returns
returns c = decoded _ _ _ _ _ _ c.requires _ _ _ _ c.copy_bytes.auto.numbers c.decode_functions.auto.functions c.decode_functions.auto.parameters
    c.copy_bytes.ensures c.decode_functions.ensures c.decode_nodes.ensures.nodes_after.0 c.decode_nodes.ensures.narrow
