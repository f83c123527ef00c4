-- A deployed ledger is well formed, and its contents stand for the deployed numbers, which are typed.
use Rattle.std.specs.Prelude.{◌≡◌, ◌&&◌, ◌∷◌, ◌++◌, ◌+◌, ◌<◌, ◌≤◌}
use Rattle.kit.specs.Names.{refl, ap, ap₂, sym, ◌∙◌, subst, Bool, true, false, cond, not, false≢true, List, [], map}
use Rattle.kit.specs.Names.{zip_with, ℕ, zero, suc, arith, eqb, ltb, length, get_or, drop, replicate, length-append}
use Rattle.kit.specs.Names.{length-replicate, get_or-drop, ltb-false, lt-ltb, eq-eqb}
use Rattle.definitions.specs.Basics.{any, count_if, first_that_holds}
use Rattle.definitions.specs.ContractFile.{DataType, boolean, uint, address, Shape, plain_field, final_field, mapping, Field, field_at, is_final, is_mapping, is_of_type, contract_in}
use Rattle.definitions.specs.Numbers.{check_number, or_else}
use Rattle.definitions.specs.Original.{numbers_from, place_count, per_place, final_address, Reader, anyone, place_reader, place_readers, deployed_numbers}
use Rattle.definitions.specs.Ledger.{Content, plain_number, content_for, finals_off, deploy_number, deployed, fits, all_fit, is_well_formed}
use Rattle.theory_laws.proofs.Lists.{zeros_at}
use Rattle.theory_laws.proofs.TruthValues.{and_both, or_else_first, or_left, or_right}
use Rattle.theory_relations.specs.Environment.{place_types}
use Rattle.theory_relations.specs.Acceptance.{FieldsFit}
use Rattle.theory_relations.specs.Standing.{AllStand}
use Rattle.theory_typing.proofs.Places.{get_or_numbers_from, first_place, length_field_places}
use Rattle.theory_typing.proofs.Forms.{length_zip_with, get_or_zip_with}
use Rattle.theory_accepted.proofs.Sentences.{none_holds}
use Rattle.theory_typing.proofs.Acceptance.{fields_fit}
use Rattle.theory_typing.proofs.Contents.{forms_of, standing_fit}

-- The numbers of a field's places at deployment, and the addresses that are left for the fields after it.
abbrev places_of_field : Field → List ℕ → List ℕ
places_of_field d addresses = cond (is_final d.shape) (get_or addresses 0 0 ∷ []) (replicate (place_count d) 0)

abbrev addresses_left : Field → List ℕ → List ℕ
addresses_left d addresses = cond (is_final d.shape) (drop 1 addresses) addresses

deployed_field : (d : Field) (ds : List Field) (addresses : List ℕ)
    → deployed_numbers (d ∷ ds) addresses ≡ places_of_field d addresses ++ deployed_numbers ds (addresses_left d addresses)
unfolding deployed_numbers
deployed_field d ds addresses = go (is_final d.shape)
  where
    go : (b : Bool)
        → cond b (get_or addresses 0 0 ∷ deployed_numbers ds (drop 1 addresses)) (replicate (place_count d) 0 ++ deployed_numbers ds addresses)
        ≡ cond b (get_or addresses 0 0 ∷ []) (replicate (place_count d) 0) ++ deployed_numbers ds (cond b (drop 1 addresses) addresses)
    go true = refl
    go false = refl

final_count : (d : Field) → is_final d.shape ≡ true → place_count d ≡ 1
final_count d = go d.shape
  where
    go : (s : Shape) → is_final s ≡ true → ◌≡◌ {A = ℕ} (cond (is_mapping s) 16 1) 1
    go plain_field h = absurd (false≢true h)
    go final_field h = refl
    go mapping h = absurd (false≢true h)

length_of_field : (d : Field) (addresses : List ℕ) → length (places_of_field d addresses) ≡ place_count d
length_of_field d addresses = go (is_final d.shape) refl
  where
    go : (b : Bool) → is_final d.shape ≡ b → length (cond b (get_or addresses 0 0 ∷ []) (replicate (place_count d) 0)) ≡ place_count d
    go true e = sym (final_count d e)
    go false e = length-replicate (place_count d) 0

pub length_deployed : {A : Type 0} (ask : Field → ℕ → A) (fields : List Field) (addresses : List ℕ) → length (deployed_numbers fields addresses) ≡ length (per_place ask fields)
unfolding per_place deployed_numbers
length_deployed ask [] addresses = refl
length_deployed ask (d ∷ ds) addresses =
    ap length (deployed_field d ds addresses)
    ∙ (length-append (places_of_field d addresses) (deployed_numbers ds (addresses_left d addresses))
    ∙ (ap₂ (λ m n. m + n) (length_of_field d addresses ∙ sym (length_field_places ask d)) (length_deployed ask ds (addresses_left d addresses))
    ∙ sym (length-append (map (ask d) (numbers_from 0 (place_count d))) (per_place ask ds))))

-- Numbers that have these types, place by place.
abbrev AreTyped : List DataType → List ℕ → Type 0
AreTyped types numbers = (p : ℕ) → is_of_type (get_or types p boolean) (get_or numbers p 0) ≡ true

typed_append : (ts us : List DataType) (ns ms : List ℕ) → length ts ≡ length ns → AreTyped ts ns → AreTyped us ms → AreTyped (ts ++ us) (ns ++ ms)
typed_append [] us [] ms e here later p = later p
typed_append [] us (n ∷ ns) ms e here later p = absurd (omega arith)
typed_append (t ∷ ts) us [] ms e here later p = absurd (omega arith)
typed_append (t ∷ ts) us (n ∷ ns) ms e here later zero = here 0
typed_append (t ∷ ts) us (n ∷ ns) ms e here later (suc p) = typed_append ts us ns ms (omega arith) (λ q. here (suc q)) later p

zero_typed : (t : DataType) → is_of_type t 0 ≡ true
zero_typed boolean = refl
zero_typed uint = refl
zero_typed address = refl

field_typed : (d : Field) (addresses : List ℕ) → (is_final d.shape ≡ true → d.type ≡ address) → get_or addresses 0 0 < 16
    → AreTyped (map (λ key. d.type) (numbers_from 0 (place_count d))) (places_of_field d addresses)
field_typed d addresses final below = go (is_final d.shape) refl
  where
    types : List DataType
    types = map (λ key. d.type) (numbers_from 0 (place_count d))

    go : (b : Bool) → is_final d.shape ≡ b → AreTyped (map (λ key. d.type) (numbers_from 0 (place_count d))) (cond b (get_or addresses 0 0 ∷ []) (replicate (place_count d) 0))
    go true e zero = rw (get_or_numbers_from (λ key. d.type) 0 (place_count d) 0 boolean (first_place d), final e) (lt-ltb (get_or addresses 0 0) 16 below)
    go true e (suc p) = zero_typed (get_or types (suc p) boolean)
    go false e p = rw (zeros_at (place_count d) p) (zero_typed (get_or types p boolean))

left_below : (d : Field) (addresses : List ℕ) → ((i : ℕ) → get_or addresses i 0 < 16) → (i : ℕ) → get_or (addresses_left d addresses) i 0 < 16
left_below d addresses below i = go (is_final d.shape)
  where
    go : (b : Bool) → get_or (cond b (drop 1 addresses) addresses) i 0 < 16
    go true = rw (get_or-drop 1 addresses i 0) (below (1 + i))
    go false = below i

pub deployed_typed : (fields : List Field) → ((f : ℕ) → is_final (field_at fields f).shape ≡ true → (field_at fields f).type ≡ address) → (addresses : List ℕ)
    → ((i : ℕ) → get_or addresses i 0 < 16) → (p : ℕ) → is_of_type (get_or (place_types fields) p boolean) (get_or (deployed_numbers fields addresses) p 0) ≡ true
unfolding per_place deployed_numbers
deployed_typed [] finals addresses below = λ p. refl
deployed_typed (d ∷ ds) finals addresses below =
    subst (AreTyped (place_types (d ∷ ds))) (sym (deployed_field d ds addresses))
    (typed_append (map (λ key. d.type) (numbers_from 0 (place_count d))) (place_types ds) (places_of_field d addresses) (deployed_numbers ds (addresses_left d addresses))
    (length_field_places (λ d _. d.type) d ∙ sym (length_of_field d addresses)) (field_typed d addresses (finals 0) (below 0))
    (deployed_typed ds (λ f. finals (suc f)) (addresses_left d addresses) (left_below d addresses below)))

-- The contents of the places at deployment.
abbrev pub deployed_places : List Field → List ℕ → List Content
deployed_places fields addresses = let numbers = deployed_numbers fields addresses in zip_with (λ reader n. content_for reader 0 0 n) (place_readers fields numbers) numbers

-- The deployed contents stand for the deployed numbers.
pub deployed_stand : (fields : List Field) (addresses : List ℕ)
    → AllStand (place_readers fields (deployed_numbers fields addresses)) (deployed_places fields addresses) (deployed_numbers fields addresses)
deployed_stand fields addresses =
    record {
      extent = length_zip_with content readers numbers same ∙ same;
      each = λ p. record { call = 0; index = 0; is = get_or_zip_with content readers numbers p anyone 0 same };
    }
  where
    numbers : List ℕ
    numbers = deployed_numbers fields addresses

    readers : List Reader
    readers = place_readers fields numbers

    content : Reader → ℕ → Content
    content reader n = content_for reader 0 0 n

    same : length readers ≡ length numbers
    same = sym (length_deployed (λ d key. place_reader (final_address fields numbers) d.owner key) fields addresses)

or_else_second : (a b : ℕ) → or_else a b ≡ 0 → b ≡ 0
or_else_second zero b h = h
or_else_second (suc a) b h = absurd (omega arith)

none_above : (addresses : List ℕ) → any (ltb 15) addresses ≡ false → (i : ℕ) → get_or addresses i 0 < 16
unfolding any
none_above [] h i = omega arith
none_above (x ∷ xs) h zero =
    let b : x ≤ 15 = ltb-false 15 x (or_left (ltb 15 x) (any (ltb 15) xs) h) in
    omega arith
none_above (x ∷ xs) h (suc i) = none_above xs (or_right (ltb 15 x) (any (ltb 15) xs) h) i

-- A deployment that is not refused.
module _ (file addresses : List ℕ) (clear : deploy_number file addresses ≡ 0) where
  abbrev fields : List Field
  fields = (contract_in file).fields

  pub deploys_accepted : check_number file ≡ 0
  unfolding deploy_number
  deploys_accepted = or_else_first (check_number file) (first_that_holds 17 (finals_off fields addresses ∷ [])) clear

  finals_given : finals_off fields addresses ≡ false
  unfolding deploy_number
  finals_given =
      none_holds 16 (finals_off fields addresses ∷ []) (or_else_second (check_number file) (first_that_holds 17 (finals_off fields addresses ∷ [])) clear) 0

  pub addresses_below : (i : ℕ) → get_or addresses i 0 < 16
  addresses_below =
      none_above addresses (or_right (not (eqb (length addresses) (count_if (λ d. is_final d.shape) fields))) (any (ltb 15) addresses) finals_given)

  pub deployed_fields_fit : FieldsFit fields
  deployed_fields_fit = fields_fit file deploys_accepted

  pub deployed_numbers_typed : (p : ℕ) → is_of_type (get_or (place_types fields) p boolean) (get_or (deployed_numbers fields addresses) p 0) ≡ true
  deployed_numbers_typed = deployed_typed fields deployed_fields_fit.address addresses addresses_below

  pub deployed_numbers_length : length (deployed_numbers fields addresses) ≡ length (place_types fields)
  deployed_numbers_length = length_deployed (λ d _. d.type) fields addresses

  pub deployed_well_formed : is_well_formed (deployed file addresses) ≡ true
  unfolding is_well_formed deployed all_fit
  deployed_well_formed =
      and_both (eqb (check_number file) 0 && true) (all_fit fits (forms_of fields (map plain_number (deployed_places fields addresses))) (deployed_places fields addresses))
      (and_both (eqb (check_number file) 0) true (eq-eqb (check_number file) 0 deploys_accepted) refl)
      (standing_fit fields deployed_fields_fit (deployed_places fields addresses) (deployed_numbers fields addresses) (deployed_stand fields addresses)
      deployed_numbers_length deployed_numbers_typed)
