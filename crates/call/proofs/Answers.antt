-- The ledger of a refused and of an accepted call.
use Rattle.std.specs.Prelude.{◌≡◌, ◌<◌}
use Rattle.kit.specs.Names.{ap, sym, subst, ◌∙◌, Bool, false, cond, List, ℕ, eq-eqb, ne_eqb}
use Rattle.definitions.specs.Basics.{is_zero}
use Rattle.definitions.specs.Ledger as ledger
use Rattle.definitions.specs.Ledger.{call_number, call_with, honest_parameters_of, honest_variables_of, ledger_after_call}
use Rattle.theory_typing.proofs.CallEnvironment.{calls_left}
use Rattle.ledger_struct.specs.declared.Ledger as code
use Rattle.ledger_struct.specs.Ledgers.{ledger_of}
use Rattle.ledger_struct.specs.Whole.{laid_over, Laid}
use Rattle.call_with.specs.declared.Made.{Made}
use Rattle.call_with.specs.Calls.{MadeOf}
use Rattle.call.specs.declared.Called.{Called}
use Rattle.call.specs.Calls.{struct_after_call, CalledOn}

module _ (m : code.Ledger) (function caller : ℕ) (arguments : List ℕ) where
  abbrev made : ledger.Ledger
  made =
      call_with (ledger_of m) function caller (honest_parameters_of (ledger_of m) function caller arguments) (honest_variables_of (ledger_of m) function caller arguments)

  -- Where the number is known, so are both ledgers.
  by_number : (b : Bool) → is_zero (call_number (ledger_of m) function caller arguments) ≡ b
      → ledger_after_call (ledger_of m) function caller arguments ≡ cond b made (ledger_of m)
  unfolding ledger_after_call
  by_number b e = ap (λ (x : Bool). cond x made (ledger_of m)) e

  pub struct_by_number : (b : Bool) → is_zero (call_number (ledger_of m) function caller arguments) ≡ b
      → struct_after_call m function caller arguments ≡ cond b (laid_over m (ledger_after_call (ledger_of m) function caller arguments)) m
  unfolding struct_after_call
  struct_by_number b e = ap (λ (x : Bool). cond x (laid_over m (ledger_after_call (ledger_of m) function caller arguments)) m) e

  pub refused_ledger : is_zero (call_number (ledger_of m) function caller arguments) ≡ false → ledger_after_call (ledger_of m) function caller arguments ≡ ledger_of m
  refused_ledger e = by_number false e

  -- A refused call hands back the ledger that it was given, every part of it.
  pub kept : (r : Called) → CalledOn m function caller arguments r → (call_number (ledger_of m) function caller arguments ≡ 0 → ⊥) → r.ledger ≡ m
  kept r on other = on.whole ∙ struct_by_number _ (ne_eqb _ 0 other)

  module _ (number : ℕ) (same : number ≡ call_number (ledger_of m) function caller arguments) where
    pub refused : (number ≡ 0 → ⊥) → CalledOn m function caller arguments (record { number = number; ledger = m })
    refused other =
        let clear = ne_eqb _ 0 (λ e. other (same ∙ e)) in
        record { number = same; ledger = sym (by_number _ clear); whole = sym (struct_by_number _ clear) }

    pub taken : number ≡ 0 → (after : code.Ledger) → Laid m made after → CalledOn m function caller arguments (record { number = 0; ledger = after })
    taken none after laid =
        let clear = eq-eqb _ 0 (sym same ∙ none) in
        let is = by_number _ clear in
        record {
          number = sym none ∙ same;
          ledger = laid.means ∙ sym is;
          whole = laid.whole ∙ ap (laid_over m) (sym is) ∙ sym (struct_by_number _ clear);
        }

-- What is known of the ledger's parts is known of the ledger that was taken into them.
module _ (parts l : ledger.Ledger) (function caller : ℕ) (arguments : List ℕ) (same : parts ≡ l) where
  pub number_of : (n : ℕ) → n ≡ call_number parts function caller arguments → n ≡ call_number l function caller arguments
  number_of n e = e ∙ ap (λ (x : ledger.Ledger). call_number x function caller arguments) same

  pub made_of : (places supplied : List ℕ) (made : Made)
      → MadeOf parts (call_with parts function caller (honest_parameters_of parts function caller arguments) (honest_variables_of parts function caller arguments)) function caller places supplied made
      → MadeOf l (call_with l function caller (honest_parameters_of l function caller arguments) (honest_variables_of l function caller arguments)) function caller places supplied made
  made_of places supplied made m =
      subst (λ (x : ledger.Ledger). MadeOf x (call_with x function caller (honest_parameters_of x function caller arguments) (honest_variables_of x function caller arguments)) function caller places supplied made)
      same m

pub call_left : (m : code.Ledger) (function caller : ℕ) (arguments : List ℕ) → call_number (ledger_of m) function caller arguments ≡ 0 → m.call < 65535
unfolding ledger_of
call_left m function caller arguments clear = calls_left (ledger_of m) function caller arguments clear
