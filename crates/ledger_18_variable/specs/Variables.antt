-- The forms of a function's variables: by their origins, by its parameters and by the log of its events.
use Rattle.std.specs.Prelude.{◌∷◌}
use Rattle.kit.specs.Names.{cond, List, [], map, ℕ, eqb, get_or, drop}
use Rattle.definitions.specs.ContractFile.{boolean, Name, Parameter, Scope, parameter_at, type_of}
use Rattle.definitions.specs.Rewriting.{Variable, variable_owner, private_parameters}
use Rattle.definitions.specs.Original.{Reader, anyone, only, reader_of}
use Rattle.definitions.specs.Ledger.{Form, variable_type}
use Rattle.theory_trees.specs.Trees.{expression_in}
use Rattle.file_accepted.specs.Context.{nodes_in, scope_in}
use Rattle.rewrite_log.specs.Entries.{makes_none}

-- The form of a variable in a call where names have addresses, as number 18 has it.
abbrev pub variable_form : Scope → (Name → ℕ) → Variable → Form
variable_form scope address v = record { type = variable_type scope v; reader = reader_of address (variable_owner v) }

-- The read of a private parameter.
abbrev pub opening_form : List Parameter → ℕ → ℕ → Form
opening_form ps caller k = record { type = (parameter_at ps k).type; reader = only caller }

-- The reads of those from number k on.
abbrev pub opening_forms : List Parameter → ℕ → ℕ → List Form
opening_forms ps caller k = map (opening_form ps caller) (private_parameters k (drop k ps))

-- Who reads a content of an owner code, where addresses stand at their codes.
abbrev pub code_reader : List ℕ → ℕ → Reader
code_reader addresses code = cond (eqb code 0) anyone (only (get_or addresses code 0))

-- Of an entry's tag, owner code and node.
abbrev pub entry_form : List ℕ → ℕ → List ℕ → ℕ → ℕ → ℕ → Form
entry_form file at addresses tag owner node = record {
  type = cond (eqb tag 3) boolean (type_of (scope_in file at) (expression_in (nodes_in file) node));
  reader = code_reader addresses owner;
}

-- A claim makes no variable, nor does an end. A log ends where fewer than five numbers are left.
unfoldable pub logged_forms : List ℕ → ℕ → List ℕ → List ℕ → List Form
logged_forms file at addresses [] = []
logged_forms file at addresses (a ∷ []) = []
logged_forms file at addresses (a ∷ b ∷ []) = []
logged_forms file at addresses (a ∷ b ∷ c ∷ []) = []
logged_forms file at addresses (a ∷ b ∷ c ∷ d ∷ []) = []
logged_forms file at addresses (tag ∷ variable ∷ owner ∷ node ∷ last ∷ log) =
    cond (makes_none tag) (logged_forms file at addresses log) (entry_form file at addresses tag owner node ∷ logged_forms file at addresses log)
