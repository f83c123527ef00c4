-- The numbers at deployment are one a place and bytes, and the parts of the deployed ledger.
use Rattle.std.specs.Prelude.{◌≡◌, ◌∷◌, ◌++◌, ◌+◌, ◌<◌, ◌≤◌}
use Rattle.kit.specs.Names.{refl, ap, sym, ◌∙◌, Bool, true, false, cond, List, [], map, zip_with, ℕ, zero, suc}
use Rattle.kit.specs.Names.{arith, length, get_or, drop, replicate, length-append, length-map, length-replicate, get_or-drop}
use Rattle.theory_laws.proofs.Lists.{numbers_length}
use Rattle.definitions.specs.ContractFile.{Field, Shape, plain_field, final_field, mapping, is_final, is_mapping, contract_of, field_count, contract_in}
use Rattle.definitions.specs.Original.{numbers_from, place_count, per_place, place_readers, deployed_numbers}
use Rattle.definitions.specs.Ledger.{deployed}
use Rattle.file_accepted.specs.Context.{fields_in}
use Rattle.ledger_contents.specs.declared.Place.{Place}
use Rattle.ledger_struct.specs.declared.Ledger.{Ledger}
use Rattle.ledger_struct.specs.Whole.{padded, zero_place, places_for, struct_of}
use Rattle.ledger_struct.proofs.Padding.{padded_none}
use Rattle.deploy_ledger.specs.Deployments.{contents_for, Deployable}
use Rattle.deploy_ledger.proofs.Places.{asked, contents_length}

pub fields_in_law : (file : List ℕ) → (contract_in file).fields ≡ fields_in file
unfolding contract_of fields_in
fields_in_law file = refl

-- One number a place.
shape_counts : (s : Shape) (n : ℕ) → is_final s ≡ true → ◌≡◌ {A = ℕ} (cond (is_mapping s) 16 1) 1
shape_counts plain_field n h = refl
shape_counts final_field n h = refl
shape_counts mapping n h = let z : ◌≡◌ {A = Bool} true false = sym h in cc

module _ {A : Type 0} (ask : Field → ℕ → A) where
  pub one_number : (fields : List Field) (addresses : List ℕ) → length (deployed_numbers fields addresses) ≡ length (per_place ask fields)
  unfolding deployed_numbers per_place
  one_number [] addresses = refl
  one_number (d ∷ ds) addresses = go (one_number ds (drop 1 addresses)) (one_number ds addresses) (is_final d.shape) refl
    where
      places : length (map (ask d) (numbers_from 0 (place_count d)) ++ per_place ask ds) ≡ place_count d + length (per_place ask ds)
      places =
          length-append (map (ask d) (numbers_from 0 (place_count d))) (per_place ask ds)
          ∙ ap (λ (n : ℕ). n + length (per_place ask ds)) (length-map (numbers_from 0 (place_count d)) (ask d) ∙ numbers_length 0 (place_count d))

      go : length (deployed_numbers ds (drop 1 addresses)) ≡ length (per_place ask ds) → length (deployed_numbers ds addresses) ≡ length (per_place ask ds)
          → (b : Bool) → is_final d.shape ≡ b
          → length (cond b (get_or addresses 0 0 ∷ deployed_numbers ds (drop 1 addresses)) (replicate (place_count d) 0 ++ deployed_numbers ds addresses))
          ≡ length (map (ask d) (numbers_from 0 (place_count d)) ++ per_place ask ds)
      go less more true t =
          let one = shape_counts d.shape 0 t in
          omega (arith, places)
      go less more false t =
          let both = length-append (replicate (place_count d) 0) (deployed_numbers ds addresses) in
          let many : length (replicate {A = ℕ} (place_count d) 0) ≡ place_count d = length-replicate (place_count d) 0 in
          omega (arith, places)

-- Each number is a byte.
abbrev pub Bytes : List ℕ → Type 0
Bytes numbers = (i : ℕ) → get_or numbers i 0 < 256

bytes_append : (a b : List ℕ) → Bytes a → Bytes b → Bytes (a ++ b)
bytes_append [] b first second i = second i
bytes_append (x ∷ a) b first second zero = first 0
bytes_append (x ∷ a) b first second (suc i) = bytes_append a b (λ j. first (suc j)) second i

bytes_zeros : (n : ℕ) → Bytes (replicate n 0)
bytes_zeros zero i = omega arith
bytes_zeros (suc n) zero = omega arith
bytes_zeros (suc n) (suc i) = bytes_zeros n i

bytes_first : (x : ℕ) (xs : List ℕ) → x < 256 → Bytes xs → Bytes (x ∷ xs)
bytes_first x xs h rest zero = h
bytes_first x xs h rest (suc i) = rest i

pub bytes_deployed : (fields : List Field) (addresses : List ℕ) → Bytes addresses → Bytes (deployed_numbers fields addresses)
unfolding deployed_numbers
bytes_deployed [] addresses h = λ i. omega arith
bytes_deployed (d ∷ ds) addresses h =
    go (bytes_deployed ds (drop 1 addresses) (λ i. rw (get_or-drop 1 addresses i 0) (h (1 + i)))) (bytes_deployed ds addresses h) (is_final d.shape)
  where
    go : Bytes (deployed_numbers ds (drop 1 addresses)) → Bytes (deployed_numbers ds addresses) → (b : Bool)
        → Bytes (cond b (get_or addresses 0 0 ∷ deployed_numbers ds (drop 1 addresses)) (replicate (place_count d) 0 ++ deployed_numbers ds addresses))
    go less more true = bytes_first (get_or addresses 0 0) (deployed_numbers ds (drop 1 addresses)) (h 0) less
    go less more false = bytes_append (replicate (place_count d) 0) (deployed_numbers ds addresses) (bytes_zeros (place_count d)) more

pub deployable : (file addresses numbers : List ℕ) → field_count file ≤ 64 → numbers ≡ deployed_numbers (fields_in file) addresses → length numbers ≤ 1024
    → Bytes addresses → Deployable file numbers
deployable file addresses numbers few e small bytes =
    record {
      few_fields = few;
      per_place = ap length e ∙ one_number (asked (fields_in file) numbers) (fields_in file) addresses;
      few_places = small;
      bytes = λ i. rw e (bytes_deployed (fields_in file) addresses bytes i);
    }

-- The deployed struct, from its parts.
pub deployed_whole : (file addresses numbers bytes : List ℕ) (places : List Place) (count : ℕ) → bytes ≡ padded 4596 0 file
    → numbers ≡ deployed_numbers (fields_in file) addresses → places ≡ places_for 1024 (contents_for (place_readers (fields_in file) numbers) numbers)
    → count ≡ length numbers
    → ◌≡◌ {A = Ledger}
    (record {
      file = bytes;
      file_length = length file;
      call = 0;
      function = 0;
      caller = 0;
      outcome = 0;
      parameters = replicate 8 zero_place;
      parameter_count = 0;
      variables = replicate 1024 zero_place;
      variable_count = 0;
      places = places;
      place_count = count;
    })
    (struct_of (deployed file addresses))
unfolding struct_of deployed contract_of fields_in contents_for places_for padded zip_with
deployed_whole file addresses numbers bytes places count a n b c =
    let each = ap length n ∙ one_number (asked (fields_in file) numbers) (fields_in file) addresses in
    let none = padded_none 8 zero_place in
    let none' = padded_none 1024 zero_place in
    let many = contents_length (place_readers (fields_in file) numbers) numbers (sym each) in
    rw (a, b, c, none, none', ← many, n)
