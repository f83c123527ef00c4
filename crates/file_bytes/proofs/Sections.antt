-- The nodes of a file's sections, as a list that is read from a place on and as what stands at a number.
use Rattle.std.specs.Prelude.{◌≡◌, ◌+◌, ◌*◌, ◌<◌}
use Rattle.kit.specs.Names.{refl, ap, ◌∙◌, List, ℕ, length, get_or}
use Rattle.definitions.specs.ContractFile.{NodeRecord, field_records, field_count, function_records, function_count, functions_at, node_record, node_records, node_count, nodes_at, sections_of}
use Rattle.definitions.specs.Reading.{sections_read}
use Rattle.theory_laws.proofs.Records.{force_is, node_records_length}
use Rattle.file_bytes.proofs.ReadingSteps.{get_or_node_records}

pub fields_are : (file : List ℕ) → (sections_of file).fields ≡ field_records (field_count file) file 1
unfolding sections_read
fields_are file = refl

pub functions_are : (file : List ℕ) → (sections_of file).functions ≡ function_records (function_count file) file (functions_at file + 1)
unfolding sections_read
functions_are file = refl

pub nodes_are : (file : List ℕ) → (sections_of file).nodes ≡ node_records (node_count file) file (nodes_at file + 2)
unfolding sections_read
nodes_are file = force_is (nodes_at file + 2) (node_records (node_count file) file)

pub count_of_nodes : (file : List ℕ) → length (sections_of file).nodes ≡ node_count file
count_of_nodes file = ap length (nodes_are file) ∙ node_records_length (node_count file) file (nodes_at file + 2)

pub node_of_law : (file : List ℕ) (n : ℕ) (other : NodeRecord) → n < node_count file
    → get_or (sections_of file).nodes n other ≡ node_record file (nodes_at file + 2 + 8 * n)
node_of_law file n other h = rw (nodes_are file) (get_or_node_records (node_count file) file (nodes_at file + 2) n other h)
