-- Where a place stands, told one field at a time from the first.
use Rattle.std.specs.Prelude.{◌≡◌, ◌∷◌, ◌+◌, ◌*◌, ◌-◌, ◌<◌, ◌≤◌}
use Rattle.kit.specs.Names.{refl, ap, sym, ◌∙◌, cond, List, [], ℕ, zero, suc, arith, add-one, length, min, inl, inr}
use Rattle.kit.specs.Names.{drop, length-map, drop_of_length-le, drop-cons, ne_eqb}
use Rattle.std.proofs.lemmas.Bool.{cases_lt}
use Rattle.definitions.specs.ContractFile.{Field, field_at, is_mapping, byte_at, field_count, field_records, field_of, shape_of}
use Rattle.definitions.specs.Reading.{fields_read}
use Rattle.definitions.specs.Original.{place_count, position}
use Rattle.file_bytes.proofs.Sections.{fields_are}
use Rattle.file_accepted.specs.Context.{fields_in}
use Rattle.file_accepted.proofs.Declarations.{field_declared}

position_more : (fields : List Field) (f key more : ℕ) → position fields f (key + more) ≡ more + position fields f key
unfolding position
position_more [] f key more = omega arith
position_more (d ∷ ds) zero key more = omega arith
position_more (d ∷ ds) (suc f) key more = omega (arith, position_more ds f key more)

position_none : (fields : List Field) (key : ℕ) → position fields 0 key ≡ key
unfolding position
position_none [] key = refl
position_none (d ∷ ds) key = refl

position_past : (f key : ℕ) → position [] f key ≡ key
unfolding position
position_past f key = refl

position_first : (d : Field) (ds : List Field) (f g key : ℕ) → f ≡ suc g → position (d ∷ ds) f key ≡ place_count d + position ds g key
unfolding position
position_first d ds f g key e = rw e

pub position_start : (fields : List Field) (f key : ℕ) → position (drop 0 fields) (f - 0) key ≡ position fields f key
position_start fields f key = let e : f - 0 ≡ f = omega arith in rw e

module _ (fields : List Field) (f i at goal : ℕ) (inv : position (drop i fields) (f - i) at ≡ goal) where
  pub position_next : (count : ℕ) → i < length fields → i < f → count ≡ place_count (field_at fields i)
      → position (drop (i + 1) fields) (f - (i + 1)) (at + count) ≡ goal
  position_next count inside below e =
      let less : f - i ≡ suc (f - (i + 1)) = omega arith in
      let opened : drop i fields ≡ field_at fields i ∷ drop (suc i) fields = drop-cons fields i _ inside in
      rw (add-one i)
      (rw (e, position_more (drop (suc i) fields) (f - suc i) at (place_count (field_at fields i)))
      (sym (position_first (field_at fields i) (drop (suc i) fields) (f - i) (f - suc i) at (omega arith)) ∙ (rw opened at inv)))

  position_out : length fields ≤ i → at ≡ goal
  position_out out = sym (position_past (f - i) at) ∙ (rw (drop_of_length-le fields out) at inv)

  position_none_left : f ≤ i → at ≡ goal
  position_none_left out =
      let e : f - i ≡ 0 = omega arith in
      sym (position_none (drop i fields) at) ∙ (rw e at inv)

  pub position_done : min f (length fields) ≤ i → at ≡ goal
  position_done out = elim (cases_lt i f) [ inl more ↦ position_out (omega arith) | inr none ↦ position_none_left none ]

records_length : (k : ℕ) (file : List ℕ) (at : ℕ) → length (field_records k file at) ≡ k
unfolding fields_read
records_length zero file at = refl
records_length (suc k) file at = ap suc (records_length k file (at + 3))

pub fields_count : (file : List ℕ) → length (fields_in file) ≡ field_count file
unfolding fields_in
fields_count file =
    rw (fields_are file) (length-map (field_records (field_count file) file 1) field_of ∙ records_length (field_count file) file 1)

-- A field's places, by the byte of its shape.
module _ (file : List ℕ) (f : ℕ) (inside : f < field_count file) where
  pub one_place : byte_at file (1 + 3 * f) < 2 → 1 ≡ place_count (field_at (fields_in file) f)
  unfolding field_of
  one_place h = rw (field_declared file f inside) (single (byte_at file (1 + 3 * f)) h)
    where
      single : (code : ℕ) → code < 2 → ◌≡◌ {A = ℕ} 1 (cond (is_mapping (shape_of code)) 16 1)
      single zero h = refl
      single (suc zero) h = refl
      single (suc (suc code)) h = absurd (omega arith)

  pub many_places : 2 ≤ byte_at file (1 + 3 * f) → 16 ≡ place_count (field_at (fields_in file) f)
  unfolding field_of
  many_places h = rw (field_declared file f inside) (many (byte_at file (1 + 3 * f)) h)
    where
      many : (code : ℕ) → 2 ≤ code → ◌≡◌ {A = ℕ} 16 (cond (is_mapping (shape_of code)) 16 1)
      many code h = rw (ne_eqb code 0 (λ e. omega arith), ne_eqb code 1 (λ e. omega arith))
