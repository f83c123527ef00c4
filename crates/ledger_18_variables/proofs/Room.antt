-- The log of a function's events has room, and what it holds is tested.
use Rattle.std.specs.Prelude.{◌≡◌, ◌&&◌, ◌≤◌}
use Rattle.kit.specs.Names.{ap, ap₂, sym, ◌∙◌, Bool, true, List, map, ℕ, arith, length, drop, take, get_or, length-take-le}
use Rattle.definitions.specs.Ledger.{all_fit}
use Rattle.file_accepted.specs.Context.{nodes_in, parameters_in, scope_in}
use Rattle.file_accepted.specs.Functions.{root_at}
use Rattle.ledger_contents.specs.Contents.{contents_of}
use Rattle.ledger_circuits.specs.Circuits.{address_from}
use Rattle.rewrite_log.specs.declared.Position.{Position}
use Rattle.rewrite_log.specs.Logs.{Logged}
use Rattle.rewrite_log.proofs.FiveNumbers.{entries_length}
use Rattle.memory_buffer.proofs.Storing.{stored_length}
use Rattle.rewrite_expressions.specs.Translations.{Ready, statement_of}
use Rattle.rewrite_assignments.specs.Placing.{starting_at}
use Rattle.write_function_room.specs.Functions.{written_in, events_in, private_in, FunctionRoom}
use Rattle.ledger_18_forms.specs.Forms.{fits_or_zero, front_fits}
use Rattle.ledger_18_variable.specs.Variables.{variable_form, opening_forms, logged_forms}
use Rattle.ledger_18_variables.proofs.Forms.{variables_split, log_front}

module _ (file : List ℕ) (at : ℕ) (room : FunctionRoom file at 0 0) (private : ℕ) (same : private ≡ private_in file at) where
  pub private_few : private ≤ 1024
  private_few = omega (arith, room.variables)

  pub log_ready : (log : List ℕ) → length log ≡ 5120 → Ready file (root_at file at) log (starting_at private) (statement_of file at 0 (root_at file at))
  log_ready log l =
      record {
        inside = room.root;
        room = record { space = rw same (omega (arith, room.events)); few = rw same (omega (arith, room.variables)) };
      }

  module _ (before after : List ℕ) (end : Position) (logged : Logged (nodes_in file) before after (starting_at private) end (statement_of file at 0 (root_at file at) private)) where
    known : Logged (nodes_in file) before after (starting_at (private_in file at)) end (events_in file at)
    known = rw same at logged

    pub log_short : end.at ≤ 5120
    log_short = omega (arith, known.next, room.events)

    pub log_long : length before ≡ 5120 → length after ≡ 5120
    log_long l =
        let size = entries_length (nodes_in file) known.entries in
        ap length known.held ∙ stored_length before 0 known.numbers (omega (arith, room.events)) ∙ l

    pub log_cut : length before ≡ 5120 → length (take end.at after) ≡ end.at
    log_cut l = length-take-le end.at after (omega (arith, log_short, log_long l))

    pub variables_told : (addresses flat : List ℕ) (a r : Bool)
        → a ≡ front_fits fits_or_zero (opening_forms (parameters_in file at) (get_or addresses 1 0) 0) (contents_of flat) → a ≡ true
        → r ≡ all_fit fits_or_zero (logged_forms file at addresses (take end.at after)) (drop private (contents_of flat))
        → r ≡ all_fit fits_or_zero (map (variable_form (scope_in file at) (address_from addresses)) (written_in file at).variables) (contents_of flat)
    variables_told addresses flat a r opened t e =
        let front : take end.at after ≡ known.numbers = log_front file before after known.numbers (events_in file at) end.at known.entries known.held known.next in
        e ∙ ap₂ (λ (log : List ℕ) (n : ℕ). all_fit fits_or_zero (logged_forms file at addresses log) (drop n (contents_of flat))) front same
        ∙ ap (λ (b : Bool). b && all_fit fits_or_zero (logged_forms file at addresses known.numbers) (drop (private_in file at) (contents_of flat))) (sym t ∙ opened)
        ∙ variables_split file at addresses known.numbers known.entries room.context (contents_of flat)
