-- What is known of a file, with its nodes in a slice and without; and the slice that the decoder fills.
use Rattle.std.specs.Prelude.{◌≡◌, ◌+◌, ◌*◌, ◌/◌}
use Rattle.kit.specs.Names.{ap, ◌∙◌, List, ℕ, arith, length}
use Rattle.definitions.specs.ContractFile.{NodeRecord, nodes_at, node_count, node_records}
use Rattle.definitions.specs.Numbers.{node_in_tables}
use Rattle.file_decoded.specs.Slices.{nodes_from, Narrow}
use Rattle.file_decoded.proofs.Records.{nodes_read_law}
use Rattle.file_accepted.specs.Context.{Source, Known, Context}

pub context_with : (file : List ℕ) (at : ℕ) (source : List ℕ) → Known file at → Source file source → Context file at source
context_with file at source known held =
    record {
      read = held.read;
      long = held.long;
      narrow = held.narrow;
      near_function = known.near_function;
      few_fields = known.few_fields;
      few_parameters = known.few_parameters;
      few_nodes = known.few_nodes;
      field_listed = known.field_listed;
      node_listed = λ n inside. ap (λ (r : NodeRecord). node_in_tables r) (held.read n inside) ∙ known.node_listed n inside;
      below = known.falling.below;
      expressions_due = known.expressions_due;
      statements_due = known.statements_due;
    }

-- The decoder's answer.
pub source_of : (file source : List ℕ) (count : ℕ) → count ≡ node_count file → length source ≡ 5 * count → Narrow source
    → nodes_from (length source / 5) source 0 ≡ node_records count file (nodes_at file + 2) → Source file source
source_of file source count counted long narrow same =
    record {
      read = λ n inside. nodes_read_law file source (nodes_at file + 2) count same (omega arith) n (omega arith);
      long = long ∙ ap (λ (k : ℕ). 5 * k) counted;
      narrow = narrow;
    }
