-- What a call leaves makes the ledger after it.
use Rattle.std.specs.Prelude.{◌≡◌, ◌*◌, ◌/◌}
use Rattle.kit.specs.Names.{refl, ap, sym, ◌∙◌, Bool, true, false, List, [], ℕ, arith, length, take, take_all, length-take-le}
use Rattle.definitions.specs.Ledger.{Content, Ledger, call_with, after_call}
use Rattle.honest_parameters.specs.Parameters.{PublicPut}
use Rattle.ledger_contents.specs.declared.Place.{Place}
use Rattle.ledger_contents.specs.Contents.{contents_of}
use Rattle.ledger_contents.proofs.FlatContents.{length_contents_of}
use Rattle.ledger_struct.specs.Whole.{places_for}
use Rattle.walk_expressions.specs.Evaluation.{state_of}
use Rattle.call_with.specs.Calls.{WalkedWith, Standing, MadeOf}
use Rattle.call_with.proofs.CallParts.{call_done, call_failed}

module _ (file : List ℕ) (at caller : ℕ) (parameters places variables places_after variables_after : List ℕ) (r : Bool)
    (walked : WalkedWith file at caller parameters (state_of places variables) (state_of places_after variables_after) r)
    (l : Ledger) (function : ℕ) (here : Standing l function file at places) where
  pub made_done : r ≡ true → (shown : List Place) → shown ≡ places_for 8 (contents_of parameters)
      → MadeOf l (call_with l function caller (contents_of parameters) (contents_of variables)) function caller places_after variables_after
      (record { outcome = 0; parameters = shown; parameter_count = length parameters / 5; variables = length variables_after })
  made_done completed shown filled = record {
    shown = contents_of parameters;
    parameters = filled;
    counted = sym (length_contents_of parameters);
    fits = omega arith;
    is = sym (call_done l function caller (contents_of parameters) (contents_of variables) file at (contents_of places) _ here.inside here.same_file here.begins
        here.stand refl r _ walked.ran completed)
        ∙ ap (λ (vs : List ℕ). after_call l function caller 0 (contents_of parameters) (state_of places_after vs)) (sym (take_all (length variables_after) variables_after (omega arith)));
  }

  pub made_failed : r ≡ false → (flat : List ℕ) (count : ℕ) → PublicPut file at parameters flat count
      → (shown : List Place) → shown ≡ places_for 8 (contents_of (take (5 * count) flat))
      → MadeOf l (call_with l function caller (contents_of parameters) (contents_of variables)) function caller places_after variables_after
      (record { outcome = 1; parameters = shown; parameter_count = count; variables = 0 })
  unfolding contents_of
  made_failed stopped flat count put shown filled = record {
    shown = contents_of (take (5 * count) flat);
    parameters = filled;
    counted = omega (arith, length_contents_of (take (5 * count) flat), length-take-le (5 * count) flat put.fits);
    fits = omega arith;
    is = sym (call_failed l function caller (contents_of parameters) (contents_of variables) file at (contents_of places) _ here.inside here.same_file here.begins
        here.stand refl r _ walked.ran stopped)
        ∙ ap (λ (ps : List Content). after_call l function caller 1 ps (record { places = l.places; variables = contents_of [] })) (sym put.contents);
  }
