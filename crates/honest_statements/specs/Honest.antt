-- The numbers of the variables that a statement makes, on the numbers that the original has when it comes to it.
use Rattle.std.specs.Prelude.{◌≡◌, ◌&&◌, ◌∷◌, ◌++◌, ◌+◌, ◌<◌, ◌≤◌}
use Rattle.kit.specs.Names.{Bool, cond, not, List, [], map, ℕ, zero, suc, length}
use Rattle.definitions.specs.Basics.{is_true}
use Rattle.definitions.specs.ContractFile.{Name, Expression, Statement, node_count}
use Rattle.definitions.specs.Rewriting.{Variable, variable_owner, always}
use Rattle.definitions.specs.Original.{reader_of}
use Rattle.definitions.specs.Ledger.{Content, plain, content_for}
use Rattle.theory_trees.specs.Trees.{statement_in}
use Rattle.memory_buffer.specs.Buffer.{stored}
use Rattle.file_accepted.specs.Context.{nodes_in, scope_in}
use Rattle.rewrite_events.specs.Events.{Events, variables_of, body_events}
use Rattle.rewrite_events.specs.Ends.{simple_events}
use Rattle.honest_values.specs.Values.{value_of, numbers_after}
use Rattle.honest_supplies.specs.Supplies.{supplied_number}

-- Numbers, given the number of the first variable.
abbrev pub Numbering : Type 0
Numbering = ℕ → List ℕ

unfoldable pub in_order : Numbering → Numbering → Numbering
in_order first second i = first i ++ second (i + length (first i))

-- A guard's number, and then those of its branch.
unfoldable pub branch_numbers : Numbering → Numbering
branch_numbers inside i = 0 ∷ inside (suc i)

module _ (file : List ℕ) (function_start : ℕ) (arguments : List ℕ) (caller : ℕ) where
  -- The numbers after a statement; one that is not taken leaves them.
  abbrev pub after_if : Bool → List ℕ → Statement → List ℕ
  after_if live numbers s = cond live (numbers_after file arguments caller numbers s) numbers

  unfoldable pub numbers_for : Events → Bool → List ℕ → Numbering
  numbers_for events live numbers i = map (supplied_number file arguments caller live numbers) (variables_of (events i))

  abbrev pub is_taken : List ℕ → Expression → Bool
  is_taken numbers condition = is_true (value_of file arguments caller numbers condition)

  unfoldable pub honest_numbers : Statement → Bool → List ℕ → Numbering
  honest_numbers Statement.skip live numbers = λ (i : ℕ). []
  honest_numbers (Statement.sequence first second) live numbers =
      in_order (honest_numbers first live numbers) (honest_numbers second live (after_if live numbers first))
  honest_numbers (Statement.assign_field f e) live numbers =
      numbers_for (simple_events (scope_in file function_start) (Statement.assign_field f e) always) live numbers
  honest_numbers (Statement.assign_entry f key e) live numbers =
      numbers_for (simple_events (scope_in file function_start) (Statement.assign_entry f key e) always) live numbers
  honest_numbers (Statement.require condition) live numbers =
      numbers_for (simple_events (scope_in file function_start) (Statement.require condition) always) live numbers
  honest_numbers (Statement.conditional condition then else) live numbers =
      in_order (numbers_for (body_events (scope_in file function_start) always condition) live numbers)
      (in_order (branch_numbers (honest_numbers then (live && is_taken numbers condition) numbers))
      (branch_numbers (honest_numbers else (live && not (is_taken numbers condition)) numbers)))

  -- What a conditional has behind its condition.
  unfoldable pub branches_numbers : Statement → Bool → List ℕ → Numbering
  branches_numbers (Statement.conditional condition then else) live numbers =
      in_order (branch_numbers (honest_numbers then (live && is_taken numbers condition) numbers))
      (branch_numbers (honest_numbers else (live && not (is_taken numbers condition)) numbers))
  branches_numbers Statement.skip live numbers = λ (i : ℕ). []
  branches_numbers (Statement.sequence first second) live numbers = λ (i : ℕ). []
  branches_numbers (Statement.assign_field f e) live numbers = λ (i : ℕ). []
  branches_numbers (Statement.assign_entry f key e) live numbers = λ (i : ℕ). []
  branches_numbers (Statement.require condition) live numbers = λ (i : ℕ). []

pub record Space (out : List ℕ) (i : ℕ) (numbering : Numbering) : Type 0 where
  pub fits : i + length (numbering i) ≤ length out

pub record Put (before after : List ℕ) (i next : ℕ) (numbering : Numbering) : Type 0 where
  pub same : after ≡ stored before i (numbering i)
  pub end : next ≡ i + length (numbering i)

abbrev pub node_statement : List ℕ → ℕ → Statement
node_statement file n = statement_in (nodes_in file) n

-- The kinds of the statements that hold no other.
pub record SimpleKind (kind : ℕ) : Type 0 where
  pub sequence : kind ≡ 17 → ⊥
  pub conditional : kind ≡ 21 → ⊥

pub record Startable (file : List ℕ) (n : ℕ) (out : List ℕ) (i : ℕ) (numbering : Numbering) : Type 0 where
  pub inside : n < node_count file
  pub space : Space out i numbering

-- What a statement leaves: the original's numbers, and those of its variables.
pub record Honest (file : List ℕ) (function_start : ℕ) (arguments : List ℕ) (caller : ℕ) (live : Bool) (s : Statement)
    (numbers numbers' before after : List ℕ) (i next : ℕ) : Type 0 where
  pub places : numbers' ≡ after_if file function_start arguments caller live numbers s
  pub slots : Put before after i next (honest_numbers file function_start arguments caller s live numbers)

pub record BranchHonest (file : List ℕ) (function_start : ℕ) (arguments : List ℕ) (caller : ℕ) (live : Bool) (s : Statement)
    (numbers numbers' before after : List ℕ) (i next : ℕ) : Type 0 where
  pub places : numbers' ≡ after_if file function_start arguments caller live numbers s
  pub slots : Put before after i next (branch_numbers (honest_numbers file function_start arguments caller s live numbers))

pub record BranchesHonest (file : List ℕ) (function_start : ℕ) (arguments : List ℕ) (caller : ℕ) (live : Bool) (s : Statement)
    (numbers numbers' before after : List ℕ) (i next : ℕ) : Type 0 where
  pub places : numbers' ≡ after_if file function_start arguments caller live numbers s
  pub slots : Put before after i next (branches_numbers file function_start arguments caller s live numbers)

-- The contents that the numbers stand for, with their variables' owners and serials: 0 is plain 0, and one more than a value that value.
module _ (address : Name → ℕ) (call : ℕ) where
  abbrev pub content_from : ℕ → Variable → ℕ → Content
  content_from i v zero = plain 0
  content_from i v (suc x) = content_for (reader_of address (variable_owner v)) call (8 + i) x

  unfoldable pub contents_from : ℕ → List Variable → List ℕ → List Content
  contents_from i [] numbers = []
  contents_from i (v ∷ vs) [] = []
  contents_from i (v ∷ vs) (x ∷ xs) = content_from i v x ∷ contents_from (suc i) vs xs
