-- The slices hold the file's sections, and are as long as they were.
use Rattle.kit.specs.Names.{ap, ◌∙◌, arith, ltb, length}
use Rattle.definitions.specs.Basics.{any}
use Rattle.definitions.specs.ContractFile.{Sections}
use Rattle.check_contract.specs.Decoding.{contract_number}
use Rattle.check_contract.proofs.Order.{few_parameters_law}
use Rattle.check_contract.proofs.Sources.{source_decoded}
use Rattle.check_contract.proofs.decoded_number.Goals as goal

pub decode-requires : goal.decode-requires
decode-requires c = c.requires.decodable

pub slices_number-requires : goal.slices_number-requires
slices_number-requires c = let room = c.requires in let decoded = c.decode.ensures in record { shaped = record { whole_functions = omega (arith, room.shaped.whole_functions); whole_nodes = omega (arith, room.shaped.whole_nodes); few_functions = omega (arith, room.shaped.few_functions); few_nodes = omega (arith, room.shaped.few_nodes) }; inside = decoded.inside; few_fields = omega (arith, room.few_fields); few_parameters = ap (λ (x : Sections). any (λ r. ltb 8 (length r.parameters)) x.functions) decoded.are ∙ few_parameters_law c.args.file.now room.counts; column = omega (arith, room.column) }

pub returns : goal.returns
returns c = let decode = c.decode in (
  c.slices_number.ensures ∙ ap contract_number decode.ensures.are,
  source_decoded _ _ _ _ _ _ _ _ _ _ c.requires.decodable decode.ensures decode.auto.nodes,
)
