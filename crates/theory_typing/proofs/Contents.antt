-- Contents that stand for numbers: finals are plain, so the readers told from plain numbers are those told from the numbers.
use Rattle.std.specs.Prelude.{◌≡◌, ◌∷◌, ◌++◌}
use Rattle.kit.specs.Names.{refl, ap, ap₂, sym, ◌∙◌, fun_ext, subst, true, cond, List, [], map, zip_with, ℕ, suc, length}
use Rattle.kit.specs.Names.{get_or, length-map, ext_get_or}
use Rattle.definitions.specs.ContractFile.{boolean, FieldOwner, to_everyone, to_key, to_final, final_name, Field, Scope, field_at, is_final, is_of_type}
use Rattle.definitions.specs.Original.{numbers_from, place_count, per_place, position, final_address, address_in, Reader, anyone, only, place_reader, place_readers}
use Rattle.definitions.specs.Ledger.{Content, plain_number, opened_number, content_at, Form, fits, all_fit}
use Rattle.theory_relations.specs.Environment.{place_types}
use Rattle.theory_relations.specs.Acceptance.{FieldsFit}
use Rattle.theory_relations.specs.Standing.{Stands, AllStand, readers_of}
use Rattle.theory_typing.proofs.Places.{at_place, first_place, length_per_place}
use Rattle.theory_typing.proofs.Forms.{form, no_form, length_zip_with, get_or_zip_with, plain_at, opened_at_law, stands_opened, stands_plain, fits_stands, fits_typed, stands_fits, all_fit_length, all_fit_at, all_fit_each}

-- Two questions that have the same answer for each field have it for each place.
pub per_place_same : {A : Type 0} (ask other : Field → ℕ → A) (fields : List Field)
    → ((f key : ℕ) → ask (field_at fields f) key ≡ other (field_at fields f) key) → per_place ask fields ≡ per_place other fields
unfolding per_place
per_place_same ask other [] same = refl
per_place_same ask other (d ∷ ds) same =
    ap₂ (λ here later. map here (numbers_from 0 (place_count d)) ++ later) (fun_ext (same 0)) (per_place_same ask other ds (λ f. same (suc f)))

module _ (fields : List Field) (fit : FieldsFit fields) where
  -- Readers depend on the addresses of finals alone.
  pub readers_as : (a b : ℕ → ℕ) → ((g : ℕ) → is_final (field_at fields g).shape ≡ true → a g ≡ b g)
      → per_place (λ d key. place_reader a d.owner key) fields ≡ per_place (λ d key. place_reader b d.owner key) fields
  readers_as a b same =
      per_place_same (λ d key. place_reader a d.owner key) (λ d key. place_reader b d.owner key) fields
      (λ f key. of_owner (field_at fields f).owner key (fit.owners f))
    where
      of_owner : (o : FieldOwner) (key : ℕ) → ((g : ℕ) → o ≡ to_final g → is_final (field_at fields g).shape ≡ true) → place_reader a o key ≡ place_reader b o key
      of_owner to_everyone key finals = refl
      of_owner to_key key finals = refl
      of_owner (to_final g) key finals = ap only (same g (finals g refl))

  -- Anyone may read a final.
  pub final_reader : (numbers : List ℕ) (g : ℕ) → is_final (field_at fields g).shape ≡ true
      → get_or (place_readers fields numbers) (position fields g 0) anyone ≡ anyone
  final_reader numbers g final =
      at_place (λ d key. place_reader (final_address fields numbers) d.owner key) fields g 0 (first_place (field_at fields g))
      ∙ ap (λ o. place_reader (final_address fields numbers) o 0) (fit.public g final)

  module _ (others : List ℕ) (contents : List Content) (numbers : List ℕ) (stand : AllStand (place_readers fields others) contents numbers) where
    pub final_plain : (g : ℕ) → is_final (field_at fields g).shape ≡ true → final_address fields (map plain_number contents) g ≡ final_address fields numbers g
    final_plain g final =
        let p : ℕ = position fields g 0 in
        plain_at contents p
        ∙ stands_plain (content_at contents p) (get_or numbers p 0)
        (subst (λ r. Stands r (content_at contents p) (get_or numbers p 0)) (final_reader others g final) (stand.each p))

    pub plain_readers : place_readers fields (map plain_number contents) ≡ place_readers fields numbers
    plain_readers = readers_as (final_address fields (map plain_number contents)) (final_address fields numbers) final_plain

-- The readers of a call are those that the places' numbers give.
pub readers_in_call : (scope : Scope) → FieldsFit scope.fields → (caller : ℕ) (arguments numbers : List ℕ)
    → readers_of (address_in scope caller arguments numbers) scope.fields ≡ place_readers scope.fields numbers
readers_in_call scope fit caller arguments numbers =
    readers_as scope.fields fit (λ f. address_in scope caller arguments numbers (final_name f)) (final_address scope.fields numbers)
    (λ g final. ap (λ b. cond b (final_address scope.fields numbers g) 0) final)

pub all_stand_opened : (readers : List Reader) (contents : List Content) (numbers : List ℕ) → AllStand readers contents numbers
    → map opened_number contents ≡ numbers
all_stand_opened readers contents numbers stand =
    ext_get_or 0 (map opened_number contents) numbers (length-map contents opened_number ∙ stand.extent)
    (λ p _. opened_at_law contents p ∙ stands_opened (get_or readers p anyone) (content_at contents p) (get_or numbers p 0) (stand.each p))

-- The forms of places, with these numbers for the addresses of finals.
abbrev pub forms_of : List Field → List ℕ → List Form
forms_of fields numbers = zip_with (λ t r. record { type = t; reader = r }) (per_place (λ d _. d.type) fields) (place_readers fields numbers)

module _ (fields : List Field) (numbers : List ℕ) where
  same_lengths : length (place_types fields) ≡ length (place_readers fields numbers)
  same_lengths = length_per_place (λ d _. d.type) (λ d key. place_reader (final_address fields numbers) d.owner key) fields

  pub forms_length : length (forms_of fields numbers) ≡ length (place_types fields)
  forms_length = length_zip_with (λ t r. record { type = t; reader = r }) (place_types fields) (place_readers fields numbers) same_lengths

  pub forms_at : (p : ℕ) → get_or (forms_of fields numbers) p no_form ≡ form (get_or (place_types fields) p boolean) (get_or (place_readers fields numbers) p anyone)
  forms_at p = get_or_zip_with (λ t r. record { type = t; reader = r }) (place_types fields) (place_readers fields numbers) p boolean anyone same_lengths

  -- Contents that fit their forms stand for their opened numbers, which are typed.
  module _ (contents : List Content) (fit : all_fit fits (forms_of fields numbers) contents ≡ true) where
    fit_at : (p : ℕ) → fits (form (get_or (place_types fields) p boolean) (get_or (place_readers fields numbers) p anyone)) (content_at contents p) ≡ true
    fit_at p = rw (forms_at p) at (all_fit_at fits refl (forms_of fields numbers) contents fit p)

    pub fitting_length : length contents ≡ length (place_types fields)
    fitting_length = sym (all_fit_length fits (forms_of fields numbers) contents fit) ∙ forms_length

    pub fitting_stand : AllStand (place_readers fields numbers) contents (map opened_number contents)
    fitting_stand =
        record {
          extent = sym (length-map contents opened_number);
          each = λ p.
              rw (opened_at_law contents p)
              (fits_stands (get_or (place_types fields) p boolean) (get_or (place_readers fields numbers) p anyone) (content_at contents p) (fit_at p));
        }

    pub fitting_typed : (p : ℕ) → is_of_type (get_or (place_types fields) p boolean) (get_or (map opened_number contents) p 0) ≡ true
    fitting_typed p =
        rw (opened_at_law contents p)
        (fits_typed (get_or (place_types fields) p boolean) (get_or (place_readers fields numbers) p anyone) (content_at contents p) (fit_at p))

-- Contents that stand for typed numbers fit the forms told from their plain numbers.
pub standing_fit : (fields : List Field) → FieldsFit fields → (contents : List Content) (numbers : List ℕ) → AllStand (place_readers fields numbers) contents numbers
    → length numbers ≡ length (place_types fields) → ((p : ℕ) → is_of_type (get_or (place_types fields) p boolean) (get_or numbers p 0) ≡ true)
    → all_fit fits (forms_of fields (map plain_number contents)) contents ≡ true
standing_fit fields fit contents numbers stand extent typed =
    subst (λ readers. all_fit fits (zip_with (λ t r. record { type = t; reader = r }) (place_types fields) readers) contents ≡ true)
    (sym (plain_readers fields fit numbers contents numbers stand))
    (all_fit_each fits (forms_of fields numbers) contents (forms_length fields numbers ∙ (sym extent ∙ sym stand.extent))
    (λ p. rw (forms_at fields numbers p)
    (stands_fits (get_or (place_types fields) p boolean) (get_or (place_readers fields numbers) p anyone) (content_at contents p) (get_or numbers p 0) (stand.each p) (typed p))))
