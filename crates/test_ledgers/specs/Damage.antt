-- Damaged ledgers, and how many of the answers on them are wrong.
use Rattle.std.specs.Prelude.{◌≡◌, ◌&&◌, ◌∷◌, ◌+◌}
use Rattle.kit.specs.Names.{Bool, cond, not, List, [], ℕ, eqb, ltb, set}
use Rattle.definitions.specs.Basics.{is_zero, count_if}
use Rattle.definitions.specs.Original.{numbers_from}
use Rattle.definitions.specs.Ledger.{deploy_number, deployed, call_number, ledger_after_call}
use Rattle.definitions.specs.View.{view_number}
use Rattle.ledger_contents.specs.declared.Place.{Place}
use Rattle.ledger_contents.specs.declared.Content.TheVariants.{Plain, Cell}
use Rattle.ledger_struct.specs.declared.Ledger.{Ledger}
use Rattle.ledger_struct.specs.Ledgers.{ledger_of}
use Rattle.deploy.specs.Deployments.{nothing_deployed}

-- A ledger with another file, another last call, other counts, other items.
abbrev pub with_file : Ledger → List ℕ → ℕ → Ledger
with_file l file long =
    record {
      file = file;
      file_length = long;
      call = l.call;
      function = l.function;
      caller = l.caller;
      outcome = l.outcome;
      parameters = l.parameters;
      parameter_count = l.parameter_count;
      variables = l.variables;
      variable_count = l.variable_count;
      places = l.places;
      place_count = l.place_count;
    }

abbrev pub with_last : Ledger → ℕ → ℕ → ℕ → ℕ → Ledger
with_last l call function caller outcome =
    record {
      file = l.file;
      file_length = l.file_length;
      call = call;
      function = function;
      caller = caller;
      outcome = outcome;
      parameters = l.parameters;
      parameter_count = l.parameter_count;
      variables = l.variables;
      variable_count = l.variable_count;
      places = l.places;
      place_count = l.place_count;
    }

abbrev pub with_counts : Ledger → ℕ → ℕ → ℕ → Ledger
with_counts l parameters variables places =
    record {
      file = l.file;
      file_length = l.file_length;
      call = l.call;
      function = l.function;
      caller = l.caller;
      outcome = l.outcome;
      parameters = l.parameters;
      parameter_count = parameters;
      variables = l.variables;
      variable_count = variables;
      places = l.places;
      place_count = places;
    }

abbrev pub with_items : Ledger → List Place → List Place → List Place → Ledger
with_items l parameters variables places =
    record {
      file = l.file;
      file_length = l.file_length;
      call = l.call;
      function = l.function;
      caller = l.caller;
      outcome = l.outcome;
      parameters = parameters;
      parameter_count = l.parameter_count;
      variables = variables;
      variable_count = l.variable_count;
      places = places;
      place_count = l.place_count;
    }

-- Its file, its length and the last call.
unfoldable pub damaged_head : ℕ → Ledger → Ledger
damaged_head kind l =
    cond (eqb kind 1) (with_file l (set l.file 0 65) l.file_length)
    (cond (eqb kind 2) (with_file l l.file 38)
    (cond (eqb kind 3) (with_last l 0 l.function l.caller l.outcome)
    (cond (eqb kind 4) (with_last l l.call 1 l.caller l.outcome)
    (cond (eqb kind 5) (with_last l l.call l.function 16 l.outcome)
    (cond (eqb kind 6) (with_last l l.call l.function l.caller 1)
    (cond (eqb kind 7) (with_last l l.call l.function l.caller 2)
    (cond (eqb kind 8) (with_counts l 0 l.variable_count l.place_count)
    (cond (eqb kind 9) (with_counts l l.parameter_count 2 l.place_count)
    (cond (eqb kind 10) (with_counts l l.parameter_count l.variable_count 1)
    (with_last l l.call l.function 4 l.outcome))))))))))

abbrev pub plain_place : ℕ → Place
plain_place value = record { content = Plain value }

abbrev pub cell_place : ℕ → ℕ → Place
cell_place owner value = record { content = Cell (record { owner = owner; call = 1; index = 0; value = value }) }

-- An item: of another kind, of another owner, outside its type.
unfoldable pub damaged_item : ℕ → Ledger → Ledger
damaged_item kind l =
    cond (eqb kind 12) (with_items l (set l.parameters 0 (plain_place 7)) l.variables l.places)
    (cond (eqb kind 13) (with_items l (set l.parameters 0 (cell_place 4 7)) l.variables l.places)
    (cond (eqb kind 14) (with_items l l.parameters (set l.variables 1 (plain_place 7)) l.places)
    (cond (eqb kind 15) (with_items l l.parameters (set l.variables 1 (cell_place 3 7)) l.places)
    (cond (eqb kind 16) (with_items l l.parameters (set l.variables 2 (cell_place 5 7)) l.places)
    (cond (eqb kind 17) (with_items l l.parameters l.variables (set l.places 0 (plain_place 16)))
    (cond (eqb kind 18) (with_items l l.parameters l.variables (set l.places 0 (cell_place 5 5)))
    (cond (eqb kind 19) (with_items l l.parameters l.variables (set l.places 0 (plain_place 6)))
    (cond (eqb kind 20) (with_items l l.parameters l.variables (set l.places 1 (plain_place 7)))
    (with_items l l.parameters l.variables (set l.places 1 (cell_place 3 7)))))))))))

unfoldable pub damaged_ledger : ℕ → Ledger → Ledger
damaged_ledger kind l = cond (eqb kind 0) l (cond (ltb kind 12) (damaged_head kind l) (damaged_item kind l))

-- A call by party 3 with 7 and a view for it give these numbers.
unfoldable pub is_answered : Ledger → ℕ → ℕ → Bool
is_answered l call view = eqb (call_number (ledger_of l) 0 3 (7 ∷ [])) call && eqb (view_number 3 (ledger_of l) 1024) view

-- The whole ledger is to be taken, and each of the 21 damaged ones refused.
abbrev pub is_wrong : Ledger → ℕ → Bool
is_wrong l kind = not (is_answered (damaged_ledger kind l) 18 21)

unfoldable pub wrong_answers : Ledger → ℕ
wrong_answers l = cond (is_answered l 0 0) 0 1 + count_if (is_wrong l) (numbers_from 1 21)

-- Of the contract's ledger, deployed with its final at address 5 and called by party 3 with 7. What stands in the ledger's rooms behind its
-- counts, and so comes to light when a count is damaged, is free.
pub record WrongOn (file : List ℕ) (r : ℕ) : Type 0 where
  pub on : Ledger
  pub called : ledger_of on
      ≡ ledger_after_call (cond (is_zero (deploy_number file (5 ∷ []))) (deployed file (5 ∷ [])) nothing_deployed) 0 3 (7 ∷ [])
  pub counted : r ≡ wrong_answers on
