-- The places are tested field by field and key by key.
use Rattle.std.specs.Prelude.{◌≡◌, ◌&&◌, ◌∷◌, ◌++◌, ◌+◌, ◌-◌, ◌<◌, ◌≤◌, ◌/◌}
use Rattle.kit.specs.Names.{refl, ap, ap₂, sym, ◌∙◌, Bool, true, false, List, [], map, zip_with, ℕ, suc}
use Rattle.kit.specs.Names.{arith, add-one, leb, length, drop, length-map, drop_of_length-le, drop-cons, drop-drop}
use Rattle.definitions.specs.ContractFile.{DataType, Field, field_at, data_type_of}
use Rattle.definitions.specs.Original as original
use Rattle.definitions.specs.Original.{numbers_from, place_count, per_place, place_reader, final_address}
use Rattle.definitions.specs.Ledger.{Content, Form, fits, all_fit}
use Rattle.theory_laws.proofs.Lists.{numbers_length}
use Rattle.ledger_contents.specs.Contents.{contents_of}
use Rattle.ledger_contents.proofs.FlatContents.{length_contents_of}
use Rattle.ledger_readers.specs.declared.Reader.{Reader}
use Rattle.ledger_readers.specs.Readers.{reader_of_code, form_of}
use Rattle.ledger_18_forms.specs.Forms.{fits_at, front_fits}
use Rattle.ledger_18_forms.proofs.FormSteps.{all_front, all_none, front_next, front_stops, front_none}
use Rattle.ledger_18_places.specs.Places.{place_form, field_forms, forms_of_places}

-- Types and readers, each listed by place, are forms listed by place.
module _ {A B C : Type 0} (f : A → B → C) where
  zip_append : (as₁ : List A) (bs₁ : List B) (as₂ : List A) (bs₂ : List B) → length as₁ ≡ length bs₁ → zip_with f (as₁ ++ as₂) (bs₁ ++ bs₂) ≡ zip_with f as₁ bs₁ ++ zip_with f as₂ bs₂
  unfolding zip_with
  zip_append [] [] as₂ bs₂ e = refl
  zip_append [] (b ∷ bs₁) as₂ bs₂ e = absurd (omega arith)
  zip_append (a ∷ as₁) [] as₂ bs₂ e = absurd (omega arith)
  zip_append (a ∷ as₁) (b ∷ bs₁) as₂ bs₂ e = ap (λ (l : List C). f a b ∷ l) (zip_append as₁ bs₁ as₂ bs₂ (omega arith))

  zip_maps : {K : Type 0} (g : K → A) (h : K → B) (ks : List K) → zip_with f (map g ks) (map h ks) ≡ map (λ k. f (g k) (h k)) ks
  unfolding zip_with
  zip_maps g h [] = refl
  zip_maps g h (k ∷ ks) = ap (λ (l : List C). f (g k) (h k) ∷ l) (zip_maps g h ks)

  zip_places : (g : Field → ℕ → A) (h : Field → ℕ → B) (fields : List Field)
      → zip_with f (per_place g fields) (per_place h fields) ≡ per_place (λ d k. f (g d k) (h d k)) fields
  unfolding per_place zip_with
  zip_places g h [] = refl
  zip_places g h (d ∷ ds) =
      let keys = numbers_from 0 (place_count d) in
      zip_append (map (g d) keys) (map (h d) keys) (per_place g ds) (per_place h ds) (length-map keys (g d) ∙ sym (length-map keys (h d)))
      ∙ ap₂ (λ (a b : List C). a ++ b) (zip_maps (g d) (h d) keys) (zip_places g h ds)

pub forms_listed : (fields : List Field) (numbers : List ℕ) → forms_of_places fields numbers ≡ per_place (place_form fields numbers) fields
forms_listed fields numbers =
    zip_places (λ (t : DataType) (r : original.Reader). record { type = t; reader = r }) (λ d _. d.type) (λ d key. place_reader (final_address fields numbers) d.owner key) fields

module _ (fields : List Field) (numbers : List ℕ) (f : ℕ) where
  -- The form that code makes is the form of the place.
  pub form_is : (key code : ℕ) (reader : Reader) → data_type_of code ≡ (field_at fields f).type
      → reader_of_code reader ≡ place_reader (final_address fields numbers) (field_at fields f).owner key
      → form_of code reader ≡ place_form fields numbers (field_at fields f) key
  form_is key code reader t r = λ i. record { type = t i; reader = r i }

  forms_long : (count : ℕ) → length (field_forms fields numbers f 0 count) ≡ count
  forms_long count = length-map (numbers_from 0 count) (place_form fields numbers (field_at fields f)) ∙ numbers_length 0 count

  forms_step : (key count : ℕ) → key < count
      → field_forms fields numbers f key (count - key) ≡ place_form fields numbers (field_at fields f) key ∷ field_forms fields numbers f (key + 1) (count - (key + 1))
  unfolding numbers_from
  forms_step key count h =
      let left : count - key ≡ suc (count - (key + 1)) = omega arith in
      rw (left, add-one key)

  module _ (contents : List Content) (p key count : ℕ) (goal : Bool) where
    module _ (a : Bool) (code : ℕ) (reader : Reader) (inside : key < count) (typed : data_type_of code ≡ (field_at fields f).type)
        (read : reader_of_code reader ≡ place_reader (final_address fields numbers) (field_at fields f).owner key)
        (same : a ≡ fits_at fits contents (p + key) (form_of code reader))
        (inv : front_fits fits (field_forms fields numbers f key (count - key)) (drop (p + key) contents) ≡ goal) where
      tested : a ≡ fits_at fits contents (p + key) (place_form fields numbers (field_at fields f) key)
      tested = same ∙ ap (fits_at fits contents (p + key)) (form_is key code reader typed read)

      opened : front_fits fits (place_form fields numbers (field_at fields f) key ∷ field_forms fields numbers f (key + 1) (count - (key + 1))) (drop (p + key) contents) ≡ goal
      opened = ap (λ (l : List Form). front_fits fits l (drop (p + key) contents)) (sym (forms_step key count inside)) ∙ inv

      pub key_next : a ≡ true → front_fits fits (field_forms fields numbers f (key + 1) (count - (key + 1))) (drop (p + (key + 1)) contents) ≡ goal
      key_next t =
          let e : p + (key + 1) ≡ p + key + 1 = omega arith in
          rw e (front_next fits contents (p + key) (place_form fields numbers (field_at fields f) key) (field_forms fields numbers f (key + 1) (count - (key + 1))) a goal tested t opened)

      pub key_stops : a ≡ false → false ≡ goal
      key_stops t = front_stops fits contents (p + key) (place_form fields numbers (field_at fields f) key) (field_forms fields numbers f (key + 1) (count - (key + 1))) a goal tested t opened

    pub keys_done : count ≤ key → front_fits fits (field_forms fields numbers f key (count - key)) (drop (p + key) contents) ≡ goal → true ≡ goal
    unfolding numbers_from
    keys_done h inv =
        let none : count - key ≡ 0 = omega arith in
        sym (front_none fits (drop (p + key) contents)) ∙ (rw none at inv)

  pub keys_start : (contents : List Content) (p count : ℕ)
      → front_fits fits (field_forms fields numbers f 0 (count - 0)) (drop (p + 0) contents) ≡ front_fits fits (field_forms fields numbers f 0 count) (drop p contents)
  keys_start contents p count =
      let a : p + 0 ≡ p = omega arith in
      let b : count - 0 ≡ count = omega arith in
      rw (a, b)

  module _ (inside : f < length fields) (contents : List Content) (p many : ℕ) (same : many ≡ place_count (field_at fields f)) (a goal : Bool)
      (tested : a ≡ front_fits fits (field_forms fields numbers f 0 many) (drop p contents))
      (inv : all_fit fits (per_place (place_form fields numbers) (drop f fields)) (drop p contents) ≡ goal) where
    abbrev rest : List Form
    rest = per_place (place_form fields numbers) (drop (f + 1) fields)

    forms_opened : per_place (place_form fields numbers) (drop f fields) ≡ field_forms fields numbers f 0 many ++ rest
    unfolding per_place
    forms_opened =
        let first : drop f fields ≡ field_at fields f ∷ drop (suc f) fields = drop-cons fields f _ inside in
        rw (first, add-one f, same)

    split : (a && all_fit fits rest (drop (p + many) contents)) ≡ goal
    split =
        let own = field_forms fields numbers f 0 many in
        let later : drop (length own) (drop p contents) ≡ drop (p + many) contents = ap (λ (n : ℕ). drop n (drop p contents)) (forms_long many) ∙ drop-drop many p contents in
        ap₂ (λ (b : Bool) (cs : List Content). b && all_fit fits rest cs) tested (sym later) ∙ sym (all_front fits own rest (drop p contents))
        ∙ ap (λ (l : List Form). all_fit fits l (drop p contents)) (sym forms_opened) ∙ inv

    pub field_next : a ≡ true → all_fit fits rest (drop (p + many) contents) ≡ goal
    field_next t = rw t at split

    pub field_stops : a ≡ false → false ≡ goal
    field_stops t = rw t at split

pub fields_done : (fields : List Field) (numbers : List ℕ) (f p : ℕ) (flat : List ℕ) (goal : Bool) → length fields ≤ f
    → all_fit fits (per_place (place_form fields numbers) (drop f fields)) (drop p (contents_of flat)) ≡ goal → leb (length flat / 5) p ≡ goal
unfolding per_place
fields_done fields numbers f p flat goal out inv =
    ap (λ (n : ℕ). leb n p) (sym (length_contents_of flat)) ∙ sym (all_none fits (contents_of flat) p)
    ∙ (rw (drop_of_length-le fields out) at inv)
