-- The numbers that are read one after another make the file's layout.
use Rattle.kit.specs.Names.{rules}
use Rattle.definitions.specs.Reading.{nodes_begin}
use Rattle.file_bytes.proofs.read_layout.Goals as goal

pub byte_at-fields-requires : goal.byte_at-fields-requires
unfolding nodes_begin
byte_at-fields-requires c = search rules

pub byte_at-functions-requires : goal.byte_at-functions-requires
unfolding nodes_begin
byte_at-functions-requires c = search rules

pub functions_end-nodes_at-requires : goal.functions_end-nodes_at-requires
unfolding nodes_begin
functions_end-nodes_at-requires c = search rules

pub two_bytes_at-nodes-requires : goal.two_bytes_at-nodes-requires
unfolding nodes_begin
two_bytes_at-nodes-requires c = search rules

pub returns : goal.returns
unfolding nodes_begin
returns c = record {
  fields = cc;
  functions_start = cc;
  functions = cc;
  nodes_start = cc;
  nodes = cc;
  few_fields = search rules;
  few_functions = search rules;
  near_nodes = search rules;
  few_nodes = search rules;
}
