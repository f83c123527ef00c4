-- Function f of a contract, as the bytes at its place say.
use Rattle.std.specs.Prelude.{◌≡◌, ◌+◌, ◌<◌}
use Rattle.kit.specs.Names.{refl, ap, ◌∙◌, false, List, [], map, ℕ, arith, length, get_or, length-map}
use Rattle.definitions.specs.ContractFile.{function_at, FunctionRecord, function_count, functions_at, function_record, node_count, sections_of, node_of, function_of, contract_of}
use Rattle.definitions.specs.Numbers.{names_nothing}
use Rattle.theory_laws.proofs.Records.{functions_length}
use Rattle.theory_trees.specs.Trees.{statement_in}
use Rattle.file_bytes.proofs.Sections.{functions_are, count_of_nodes}
use Rattle.file_accepted.specs.Context.{nodes_in, fields_in, parameters_in}
use Rattle.file_accepted.specs.Functions.{function_start, root_at}
use Rattle.file_accepted.proofs.Accepted.{mapped_at, function_record_law, root_inside}

pub fields_in_law : (file : List ℕ) → (contract_of (sections_of file)).fields ≡ fields_in file
unfolding contract_of fields_in
fields_in_law file = refl

records_count : (file : List ℕ) → length (sections_of file).functions ≡ function_count file
records_count file = ap length (functions_are file) ∙ functions_length (function_count file) file (functions_at file + 1)

pub functions_count : (file : List ℕ) → length (contract_of (sections_of file)).functions ≡ function_count file
unfolding contract_of
functions_count file = length-map (sections_of file).functions (function_of (map node_of (sections_of file).nodes)) ∙ records_count file

record_of_law : (file : List ℕ) (f : ℕ) (other : FunctionRecord) → f < function_count file → get_or (sections_of file).functions f other ≡ function_record file (function_start file f)
record_of_law file f other h =
    ap (λ (l : List FunctionRecord). get_or l f other) (functions_are file) ∙ function_record_law (function_count file) file (functions_at file + 1) f other h

pub function_in_law : (file : List ℕ) (f : ℕ) → f < function_count file
    → function_at (contract_of (sections_of file)).functions f
    ≡ record { parameters = parameters_in file (function_start file f); body = statement_in (nodes_in file) (root_at file (function_start file f)) }
unfolding contract_of nodes_in parameters_in
function_in_law file f h =
    let other : FunctionRecord = record { parameters = []; root = 0 } in
    let nodes = map node_of (sections_of file).nodes in
    mapped_at (function_of nodes) (sections_of file).functions f _ other (omega (arith, records_count file)) ∙ ap (function_of nodes) (record_of_law file f other h)

pub root_below : (file : List ℕ) (f : ℕ) → names_nothing (sections_of file) ≡ false → f < function_count file → root_at file (function_start file f) < node_count file
root_below file f names h =
    let other : FunctionRecord = record { parameters = []; root = 0 } in
    let root = ap (λ (r : FunctionRecord). r.root) (record_of_law file f other h) in
    omega (arith, root_inside file names f other (omega (arith, records_count file)), count_of_nodes file)
