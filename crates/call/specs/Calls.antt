-- 01, Runs and views: what a call gives.
use Rattle.std.specs.Prelude.{◌≡◌, ◌/◌}
use Rattle.kit.specs.Names.{cond, List, ℕ, suc, length}
use Rattle.definitions.specs.Basics.{is_zero}
use Rattle.definitions.specs.Ledger.{call_number, ledger_after_call}
use Rattle.ledger_struct.specs.declared.Ledger as code
use Rattle.ledger_struct.specs.Ledgers.{ledger_of}
use Rattle.ledger_struct.specs.Whole.{places_for, laid_over}
use Rattle.ledger_contents.specs.Contents.{contents_of}
use Rattle.call_with.specs.declared.Made.{Made}
use Rattle.call.specs.declared.Called.{Called}

-- What a call that is made hands back is one struct, parts that no count covers included: no argument stays behind a count. A refused one
-- hands back the very ledger that it was given.
unfoldable pub struct_after_call : code.Ledger → ℕ → ℕ → List ℕ → code.Ledger
struct_after_call l function caller arguments =
    cond (is_zero (call_number (ledger_of l) function caller arguments))
    (laid_over l (ledger_after_call (ledger_of l) function caller arguments))
    l

-- The parts of the struct after a call, from what the call leaves.
unfoldable pub struct_after : code.Ledger → Made → ℕ → ℕ → List ℕ → List ℕ → code.Ledger
struct_after l made function caller variables places =
    record {
      file = l.file;
      file_length = l.file_length;
      call = suc l.call;
      function = function;
      caller = caller;
      outcome = made.outcome;
      parameters = made.parameters;
      parameter_count = made.parameter_count;
      variables = places_for 1024 (contents_of variables);
      variable_count = length variables / 5;
      places = cond (is_zero made.outcome) (places_for 1024 (contents_of places)) l.places;
      place_count = cond (is_zero made.outcome) (length places / 5) l.place_count;
    }

pub record CalledOn (l : code.Ledger) (function caller : ℕ) (arguments : List ℕ) (r : Called) : Type 0 where
  pub number : r.number ≡ call_number (ledger_of l) function caller arguments
  pub ledger : ledger_of r.ledger ≡ ledger_after_call (ledger_of l) function caller arguments
  pub whole : r.ledger ≡ struct_after_call l function caller arguments
