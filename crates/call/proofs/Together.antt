-- The struct after a call, put together from what the call leaves.
use Rattle.std.specs.Prelude.{◌≡◌, ◌+◌, ◌/◌}
use Rattle.kit.specs.Names.{refl, sym, ◌∙◌, Bool, true, false, cond, List, ℕ, suc, arith, length, take, eq-eqb, ne_eqb}
use Rattle.definitions.specs.Basics.{is_zero}
use Rattle.definitions.specs.Ledger as ledger
use Rattle.definitions.specs.Ledger.{after_call}
use Rattle.ledger_contents.specs.declared.Place.{Place}
use Rattle.ledger_contents.specs.Contents.{contents_of}
use Rattle.ledger_contents.proofs.FlatContents.{length_contents_of}
use Rattle.ledger_struct.specs.declared.Ledger as code
use Rattle.ledger_struct.specs.Ledgers.{ledger_of}
use Rattle.ledger_struct.specs.Whole.{places_for, laid_over, Laid}
use Rattle.ledger_struct.proofs.Meaning.{laid, laid_same}
use Rattle.call_with.specs.declared.Made.{Made}
use Rattle.call_with.specs.Calls.{MadeOf}
use Rattle.call.specs.Calls.{struct_after}

module _ (l : code.Ledger) (made : Made) (function caller : ℕ) (variables places : List ℕ) (set : List Place)
    (filled : set ≡ places_for 1024 (contents_of variables)) where
  unfoldable pub put : List Place → ℕ → code.Ledger
  put held count =
      record {
        file = l.file;
        file_length = l.file_length;
        call = l.call + 1;
        function = function;
        caller = caller;
        outcome = made.outcome;
        parameters = made.parameters;
        parameter_count = made.parameter_count;
        variables = set;
        variable_count = length variables / 5;
        places = held;
        place_count = count;
      }

  next : l.call + 1 ≡ suc l.call
  next = omega arith

  pub done_put : (moved : List Place) → made.outcome ≡ 0 → moved ≡ places_for 1024 (contents_of places)
      → put moved (length places / 5) ≡ struct_after l made function caller variables places
  unfolding struct_after put
  done_put moved zero same = rw (eq-eqb made.outcome 0 zero, filled, same, next)

  pub failed_put : (made.outcome ≡ 0 → ⊥) → put l.places l.place_count ≡ struct_after l made function caller variables places
  unfolding struct_after put
  failed_put other = rw (ne_eqb made.outcome 0 other, filled, next)

-- What a call leaves makes the struct that is laid over the one given.
pub together : (l : code.Ledger) (after : ledger.Ledger) (function caller : ℕ) (places supplied : List ℕ) (made : Made)
    → MadeOf (ledger_of l) after function caller places supplied made
    → Laid l after (struct_after l made function caller (take made.variables supplied) places)
unfolding struct_after laid_over ledger_of
together l after function caller places supplied made m = laid_same l _ after _ (go (is_zero made.outcome) refl) (sym m.is)
  where
    A : Bool → ledger.Ledger
    A b = after_call (ledger_of l) function caller made.outcome m.shown
        (record { places = cond b (contents_of places) (ledger_of l).places; variables = contents_of (take made.variables supplied) })

    go : (b : Bool) → is_zero made.outcome ≡ b → Laid l (A (is_zero made.outcome)) (struct_after l made function caller (take made.variables supplied) places)
    go true e =
        let over = laid l (A true) refl (λ f. let z : ◌≡◌ {A = Bool} true false = sym e ∙ f in cc) in
        rw (e, m.parameters, m.counted, ← length_contents_of (take made.variables supplied), ← length_contents_of places) (rw e at over)
    go false e =
        let over = laid l (A false) refl (λ f. refl) in
        rw (e, m.parameters, m.counted, ← length_contents_of (take made.variables supplied)) (rw e at over)
