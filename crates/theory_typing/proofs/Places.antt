-- Laws of the places of a contract: what is asked of each place stands at the place's position.
use Rattle.std.specs.Prelude.{◌≡◌, ◌∷◌, ◌++◌, ◌+◌, ◌<◌}
use Rattle.kit.specs.Names.{refl, ap, sym, ◌∙◌, Bool, true, false, cond, true≢false, false≢true, List, [], map, ℕ, zero}
use Rattle.kit.specs.Names.{suc, arith, length, get_or, length-append, length-map, get_or_append, get_or-append-add}
use Rattle.definitions.specs.ContractFile.{boolean, Shape, plain_field, final_field, mapping, to_everyone, Field, field_at, shape_code, is_final, is_mapping}
use Rattle.definitions.specs.Original.{numbers_from, place_count, per_place, position}
use Rattle.definitions.specs.Basics.{is_zero}
use Rattle.theory_laws.proofs.Lists.{numbers_length}

-- The field that a number past the last one reads as.
abbrev pub no_field : Field
no_field = record { shape = plain_field; type = boolean; owner = to_everyone }

pub get_or_numbers_from : {A : Type 0} (ask : ℕ → A) (n count i : ℕ) (e : A) → i < count → get_or (map ask (numbers_from n count)) i e ≡ ask (n + i)
unfolding numbers_from
get_or_numbers_from ask n zero i e h = absurd (omega arith)
get_or_numbers_from ask n (suc count) zero e h = let z : n ≡ n + 0 = omega arith in ap ask z
get_or_numbers_from ask n (suc count) (suc i) e h =
    let z : suc n + i ≡ n + suc i = omega arith in
    get_or_numbers_from ask (suc n) count i e (omega arith) ∙ ap ask z

module _ {A : Type 0} (ask : Field → ℕ → A) where
  abbrev places_of : Field → List A
  places_of d = map (ask d) (numbers_from 0 (place_count d))

  pub length_field_places : (d : Field) → length (places_of d) ≡ place_count d
  length_field_places d = length-map (numbers_from 0 (place_count d)) (ask d) ∙ numbers_length 0 (place_count d)

  pub at_place : (fields : List Field) (f key : ℕ) → key < place_count (field_at fields f)
      → get_or (per_place ask fields) (position fields f key) (ask no_field 0) ≡ ask (field_at fields f) key
  unfolding per_place position
  at_place [] f key h = let z : 0 ≡ key = omega arith in ap (ask no_field) z
  at_place (d ∷ ds) zero key h =
      let inside : key < length (places_of d) = rw (length_field_places d) h in
      let z : 0 + key ≡ key = omega arith in
      get_or_append (places_of d) (per_place ask ds) (ask no_field 0) key inside
      ∙ (get_or_numbers_from (ask d) 0 (place_count d) key (ask no_field 0) h ∙ ap (ask d) z)
  at_place (d ∷ ds) (suc f) key h =
      ap (λ n. get_or (places_of d ++ per_place ask ds) (n + position ds f key) (ask no_field 0)) (sym (length_field_places d))
      ∙ (get_or-append-add (places_of d) (per_place ask ds) (position ds f key) (ask no_field 0) ∙ at_place ds f key h)

pub length_per_place : {A B : Type 0} (ask : Field → ℕ → A) (other : Field → ℕ → B) (fields : List Field)
    → length (per_place ask fields) ≡ length (per_place other fields)
unfolding per_place
length_per_place ask other [] = refl
length_per_place ask other (d ∷ ds) =
    simp (length-append, length_field_places ask d, length_field_places other d)
    (ap (λ n. place_count d + n) (length_per_place ask other ds))

pub first_place : (d : Field) → 0 < place_count d
first_place d = go (is_mapping d.shape)
  where
    go : (b : Bool) → 0 < cond b 16 1
    go true = omega arith
    go false = omega arith

pub mapping_place : (d : Field) (key : ℕ) → is_mapping d.shape ≡ true → key < 16 → key < place_count d
mapping_place d key m h = rw m h

-- A final's place is none of a field that is not final.
pub final_place_apart : (fields : List Field) (f g key : ℕ) → is_final (field_at fields f).shape ≡ true → is_final (field_at fields g).shape ≡ false
    → key < place_count (field_at fields g) → position fields f 0 ≡ position fields g key → ⊥
final_place_apart fields f g key p q h e =
    let ask : Field → ℕ → Bool = λ d _. is_final d.shape in
    true≢false (sym p ∙ (sym (at_place ask fields f 0 (first_place (field_at fields f)))
    ∙ (ap (λ n. get_or (per_place ask fields) n false) e ∙ (at_place ask fields g key h ∙ q))))

pub plain_not_final : (s : Shape) → is_zero (shape_code s) ≡ true → is_final s ≡ false
plain_not_final plain_field h = refl
plain_not_final final_field h = absurd (false≢true h)
plain_not_final mapping h = absurd (false≢true h)

pub mapping_not_final : (s : Shape) → is_mapping s ≡ true → is_final s ≡ false
mapping_not_final plain_field h = refl
mapping_not_final final_field h = absurd (false≢true h)
mapping_not_final mapping h = refl

pub plain_not_mapping : (s : Shape) → is_zero (shape_code s) ≡ true → is_mapping s ≡ false
plain_not_mapping plain_field h = refl
plain_not_mapping final_field h = refl
plain_not_mapping mapping h = absurd (false≢true h)
