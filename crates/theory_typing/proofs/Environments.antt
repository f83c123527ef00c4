-- What is written keeps the environment: the places stay typed, and finals are never written.
use Rattle.std.specs.Prelude.{◌≡◌, ◌&&◌, ◌<◌}
use Rattle.kit.specs.Names.{refl, ◌∙◌, Bool, true, false, cond, List, [], ℕ, eqb, ltb, length, get_or, set, length-set}
use Rattle.kit.specs.Names.{get_or-set_same, get_or-set_other, set_out, ltb-true, ltb-false, eqb-true, eqb-false}
use Rattle.definitions.specs.Basics.{is_true}
use Rattle.definitions.specs.ContractFile.{boolean, Name, Statement, skip, sequence, assign_field, assign_entry, require, conditional, Scope, field_at, is_final, is_of_type}
use Rattle.definitions.specs.Owners.{Links, links_of_condition, links_after}
use Rattle.definitions.specs.Numbers.{statement_faults}
use Rattle.definitions.specs.Original.{place_count, position, value, places_after}
use Rattle.theory_laws.proofs.TruthValues.{and_left, and_right}
use Rattle.theory_relations.specs.Environment.{Environment, place_types}
use Rattle.theory_relations.specs.Acceptance.{constants_fit, constants_fit_in}
use Rattle.theory_typing.proofs.Places.{at_place, first_place, final_place_apart, plain_not_final, mapping_not_final}
use Rattle.theory_typing.proofs.Faults.{sequence_fits, assign_field_fits, assign_entry_fits, conditional_fits}
use Rattle.theory_typing.proofs.Values.{value_typed, key_in_range}

-- What holds of each element, and of the one that is put in, holds of each element afterwards.
pub set_keeps : (P : ℕ → ℕ → Type 0) (numbers : List ℕ) (q v : ℕ) → ((p : ℕ) → P p (get_or numbers p 0)) → P q v → (p : ℕ) → P p (get_or (set numbers q v) p 0)
set_keeps P numbers q v each new p = go (eqb p q) refl (ltb q (length numbers)) refl
  where
    go : (same : Bool) → eqb p q ≡ same → (inside : Bool) → ltb q (length numbers) ≡ inside → P p (get_or (set numbers q v) p 0)
    go true e true i = rw (eqb-true p q e, get_or-set_same numbers q v 0 (ltb-true q (length numbers) i)) new
    go true e false i = rw (set_out numbers q v (ltb-false q (length numbers) i)) (each p)
    go false e inside i = rw (get_or-set_other numbers q p v 0 (eqb-false p q e)) (each p)

module _ (scope : Scope) (address_of : Name → ℕ) (values : List ℕ) where
  -- A place of a field that is not final takes a number of the field's type.
  pub environment_set : (numbers : List ℕ) → Environment scope address_of values numbers → (f key v : ℕ)
      → is_final (field_at scope.fields f).shape ≡ false → key < place_count (field_at scope.fields f)
      → is_of_type (field_at scope.fields f).type v ≡ true → Environment scope address_of values (set numbers (position scope.fields f key) v)
  environment_set numbers env f key v other below typed =
      let q : ℕ = position scope.fields f key in
      record {
        caller = env.caller;
        finals = λ g final.
            get_or-set_other numbers q (position scope.fields g 0) v 0 (final_place_apart scope.fields g f key final other below) ∙ env.finals g final;
        parameters = env.parameters;
        arguments = env.arguments;
        places =
            set_keeps (λ p n. is_of_type (get_or (place_types scope.fields) p boolean) n ≡ true) numbers q v env.places
            (rw (at_place (λ d _. d.type) scope.fields f key below) typed);
        extent = length-set numbers q v ∙ env.extent;
      }

  pub environment_after : (numbers : List ℕ) → Environment scope address_of values numbers → (linked : Links) (s : Statement) → statement_faults scope linked s ≡ []
      → constants_fit_in s ≡ true → Environment scope address_of values (places_after scope.fields address_of values numbers s)
  unfolding places_after constants_fit_in
  environment_after numbers env linked skip h c = env
  environment_after numbers env linked (sequence first second) h c =
      let fits = sequence_fits scope linked first second h in
      environment_after (places_after scope.fields address_of values numbers first)
      (environment_after numbers env linked first fits.first_faults (and_left (constants_fit_in first) (constants_fit_in second) c))
      (links_after scope first linked) second fits.second_faults (and_right (constants_fit_in first) (constants_fit_in second) c)
  environment_after numbers env linked (assign_field f e) h c =
      let fits = assign_field_fits scope linked f e h in
      environment_set numbers env f 0 (value scope.fields address_of values numbers e) (plain_not_final (field_at scope.fields f).shape fits.shape)
      (first_place (field_at scope.fields f))
      (rw fits.value_fit.type at (value_typed scope address_of values numbers env linked e fits.value_fit.faultless c))
  environment_after numbers env linked (assign_entry f key e) h c =
      let fits = assign_entry_fits scope linked f key e h in
      environment_set numbers env f (value scope.fields address_of values numbers key) (value scope.fields address_of values numbers e)
      (mapping_not_final (field_at scope.fields f).shape fits.fits.mapping)
      (key_in_range scope address_of values numbers env linked f key fits.fits fits.key_faults (and_left (constants_fit key) (constants_fit e) c))
      (rw fits.value_fit.type at (value_typed scope address_of values numbers env linked e fits.value_fit.faultless (and_right (constants_fit key) (constants_fit e) c)))
  environment_after numbers env linked (require condition) h c = env
  environment_after numbers env linked (conditional condition then else) h c =
      let fits = conditional_fits scope linked condition then else h in
      let branches : (constants_fit_in then && constants_fit_in else) ≡ true = and_right (constants_fit condition) (constants_fit_in then && constants_fit_in else) c in
      either (is_true (value scope.fields address_of values numbers condition))
      (environment_after numbers env (links_of_condition scope condition linked) then fits.then_faults (and_left (constants_fit_in then) (constants_fit_in else) branches))
      (environment_after numbers env linked else fits.else_faults (and_right (constants_fit_in then) (constants_fit_in else) branches))
    where
      either : (b : Bool) {a d : List ℕ} → Environment scope address_of values a → Environment scope address_of values d → Environment scope address_of values (cond b a d)
      either true x y = x
      either false x y = y
