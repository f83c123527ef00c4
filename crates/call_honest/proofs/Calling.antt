-- A call on a ledger that is taken apart: what its parts are handed, and what they make of it.
use Rattle.std.specs.Prelude.{◌≡◌, ◌++◌, ◌+◌, ◌*◌, ◌<◌, ◌≤◌}
use Rattle.kit.specs.Names.{refl, ap, ap₂, sym, ◌∙◌, cond, List, ℕ, suc, arith, length, take, drop}
use Rattle.kit.specs.Names.{length-append, take-append-le}
use Rattle.definitions.specs.Basics.{is_zero}
use Rattle.definitions.specs.ContractFile.{byte_at}
use Rattle.definitions.specs.Numbers.{check_number}
use Rattle.definitions.specs.Ledger.{Ledger, call_number, call_with, honest_parameters_of, honest_variables_of, after_call}
use Rattle.theory_typing.proofs.CallEnvironment.{calls_left}
use Rattle.file_accepted.specs.Functions.{function_start}
use Rattle.write_parameters.specs.Parameters.{private_count}
use Rattle.write_function_room.specs.Functions.{FunctionRoom}
use Rattle.write_function_room.proofs.Room.{private_counted}
use Rattle.ledger_contents.specs.Contents.{contents_of}
use Rattle.ledger_struct.specs.declared.LastCall.{LastCall}
use Rattle.ledger_struct.specs.Ledgers.{ledger_from}
use Rattle.call_with.specs.declared.Made.{Made}
use Rattle.call_with.specs.Calls.{Standing, MadeOf}
use Rattle.call_honest.specs.Honest.{Called, Placed, Supplied}
use Rattle.call_honest.proofs.HonestParts.{called_accepted, standing, room_here, arguments_few, arguments_counted}

module _ (file : List ℕ) (last : LastCall) (parameters variables places : List ℕ) (function caller : ℕ) (arguments : List ℕ)
    (clear : call_number (ledger_from file last parameters variables (contents_of places)) function caller arguments ≡ 0) where
  abbrev l : Ledger
  l = ledger_from file last parameters variables (contents_of places)

  pub call_left : last.call < 65535
  unfolding ledger_from
  call_left = calls_left l function caller arguments clear

  pub serial_follows : (next : ℕ) → next ≡ suc last.call → next ≡ suc l.call
  unfolding ledger_from
  serial_follows next follows = follows

  pub accepted : check_number file ≡ 0
  unfolding ledger_from
  accepted = called_accepted l function caller arguments clear file refl

  module _ (at : ℕ) (begins : at ≡ function_start file function) where
    pub called_on : Called l function caller arguments file at
    unfolding ledger_from
    called_on = record { clear = clear; same_file = refl; begins = begins }

    pub room_on : FunctionRoom file at 0 0
    room_on = room_here l function caller arguments file at called_on

    pub few_on : length arguments ≤ 8
    few_on = arguments_few l function caller arguments file at called_on

    pub counted_on : length arguments ≡ byte_at file at
    counted_on = arguments_counted l function caller arguments file at called_on

    pub standing_on : Standing l function file at places
    unfolding ledger_from
    standing_on = standing l function caller arguments file at called_on places refl

    pub placed_on : (private : ℕ) → private ≡ private_count (length arguments) file (at + 1)
        → Placed l function caller arguments file at places private
    unfolding ledger_from
    placed_on private counted =
        record { called = called_on; stand = refl; private_is = private_counted file at (length arguments) private counted_on counted }

  -- The variables stand at the front of the room that is lent for them.
  pub made_on : (given shown supplied places_after variables_after : List ℕ) (set : ℕ) (r : Made) → Supplied l function caller arguments given supplied set
      → shown ≡ take (5 * length arguments) given → length variables_after ≡ length (take set supplied)
      → MadeOf l (call_with l function caller (contents_of shown) (contents_of (take set supplied))) function caller places_after variables_after r
      → MadeOf l (call_with l function caller (honest_parameters_of l function caller arguments) (honest_variables_of l function caller arguments))
      function caller places_after (variables_after ++ drop set supplied) r
  made_on given shown supplied places_after variables_after set r handed same long made = record {
    shown = made.shown;
    parameters = made.parameters;
    counted = made.counted;
    fits = omega (arith, made.fits, length-append variables_after (drop set supplied));
    is = ap₂ (call_with l function caller) (sym handed.parameters ∙ ap contents_of (sym same)) (sym handed.variables.stand) ∙ made.is
        ∙ ap (λ (vs : List ℕ). after_call l function caller r.outcome made.shown (record { places = cond (is_zero r.outcome) (contents_of places_after) l.places; variables = contents_of vs }))
        (sym (take-append-le r.variables variables_after (drop set supplied) made.fits));
  }
