-- The least faults of a contract's functions, and the column of owners, as the decoded slices give them.
use Rattle.std.specs.Prelude.{◌≡◌, ◌∷◌, ◌/◌, ◌≤◌}
use Rattle.kit.specs.Names.{false, List, [], map, ℕ, ltb, length}
use Rattle.definitions.specs.Basics.{any, flat_map}
use Rattle.definitions.specs.ContractFile.{Field, Scope, Node, FunctionRecord, parameter_of, function_of}
use Rattle.definitions.specs.Owners.{no_links}
use Rattle.definitions.specs.Numbers.{function_faults, statement_faults, outside_tables, names_nothing}
use Rattle.theory_trees.specs.Trees.{statement_in}
use Rattle.file_decoded.specs.Slices.{functions_from, sections_from, ParametersInside, Shaped}
use Rattle.file_decoded.specs.declared.DecodedSections.{DecodedSections}
use Rattle.rules_faults.specs.Faults.{least_fault}
use Rattle.rules_scopes.specs.Trees.{nodes_in}
use Rattle.rules_fields.specs.Fields.{fields_in}
use Rattle.rules_marks.specs.Marks.{marked, owner_at, statements_under}

-- One function: its least fault with no links at its start, and its expressions' owners.
pub record FunctionJudged (scope : Scope) (nodes : List Node) (root : ℕ) (before after : List ℕ) (r : ℕ) : Type 0 where
  pub fault : least_fault (statement_faults scope no_links (statement_in nodes root)) ≡ r
  pub column : after ≡ marked (owner_at scope nodes) (statements_under nodes root) before

abbrev pub scope_of_record : List Field → FunctionRecord → Scope
scope_of_record fields r = record { fields = fields; parameters = map parameter_of r.parameters }

-- The column when all functions were judged, in their order.
unfoldable pub functions_marked : List Field → List Node → List FunctionRecord → List ℕ → List ℕ
functions_marked fields nodes [] column = column
functions_marked fields nodes (r ∷ rs) column =
    functions_marked fields nodes rs (marked (owner_at (scope_of_record fields r) nodes) (statements_under nodes r.root) column)

abbrev pub contract_marked : List ℕ → List ℕ → List ℕ → List ℕ → List ℕ → List ℕ
contract_marked fields functions parameters nodes column =
    functions_marked (fields_in fields) (nodes_in nodes) (functions_from parameters (length functions / 3) functions 0) column

pub record FunctionsJudged (fields functions parameters nodes before after : List ℕ) (r : ℕ) : Type 0 where
  pub fault : r ≡ least_fault (flat_map (function_faults (fields_in fields))
      (map (function_of (nodes_in nodes)) (functions_from parameters (length functions / 3) functions 0)))
  pub column : after ≡ contract_marked fields functions parameters nodes before

-- Numbers 2, 3 and 4 let the sections pass.
pub record Passed (fields functions parameters nodes : List ℕ) : Type 0 where
  pub shaped : Shaped functions nodes
  pub inside : ParametersInside functions parameters
  pub few_fields : length fields ≤ 192
  pub few_parameters : any (λ r. ltb 8 (length r.parameters)) (sections_from fields functions parameters nodes).functions ≡ false
  pub tables : outside_tables (sections_from fields functions parameters nodes) ≡ false
  pub numbers : names_nothing (sections_from fields functions parameters nodes) ≡ false

-- The same of sections held in their slices.
abbrev pub PassedIn : DecodedSections → Type 0
PassedIn sections = Passed sections.fields.now sections.functions.now sections.parameters.now sections.nodes.now

abbrev pub JudgedIn : DecodedSections → List ℕ → List ℕ → ℕ → Type 0
JudgedIn sections before after r =
    FunctionsJudged sections.fields.now sections.functions.now sections.parameters.now sections.nodes.now before after r

abbrev pub marked_in : DecodedSections → List ℕ → List ℕ
marked_in sections column =
    contract_marked sections.fields.now sections.functions.now sections.parameters.now sections.nodes.now column
