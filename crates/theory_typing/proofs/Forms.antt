-- A content that fits its form stands for its opened number, which has the form's type; and the reverse.
use Rattle.std.specs.Prelude.{◌≡◌, ◌∷◌}
use Rattle.kit.specs.Names.{refl, ap, Bool, true, false≢true, List, [], map, zip_with, ℕ, zero, suc, arith, eqb, length, get_or}
use Rattle.kit.specs.Names.{get_or_map, eqb-true, eq-eqb}
use Rattle.definitions.specs.ContractFile.{DataType, boolean, is_of_type}
use Rattle.definitions.specs.Original.{Reader, anyone, only}
use Rattle.definitions.specs.Ledger.{Content, plain, cell, plain_number, opened_number, content_at, Form, fits, all_fit}
use Rattle.theory_laws.proofs.TruthValues.{and_both, and_left, and_right}
use Rattle.theory_relations.specs.Standing.{Stands}

abbrev pub form : DataType → Reader → Form
form t r = record { type = t; reader = r }

-- The form that an item past the last one has.
abbrev pub no_form : Form
no_form = form boolean anyone

module _ {A B C : Type 0} (f : A → B → C) where
  pub length_zip_with : (xs : List A) (ys : List B) → length xs ≡ length ys → length (zip_with f xs ys) ≡ length xs
  unfolding zip_with
  length_zip_with [] [] e = refl
  length_zip_with [] (y ∷ ys) e = absurd (omega arith)
  length_zip_with (x ∷ xs) [] e = absurd (omega arith)
  length_zip_with (x ∷ xs) (y ∷ ys) e = ap suc (length_zip_with xs ys (omega arith))

  pub get_or_zip_with : (xs : List A) (ys : List B) (p : ℕ) (x : A) (y : B) → length xs ≡ length ys
      → get_or (zip_with f xs ys) p (f x y) ≡ f (get_or xs p x) (get_or ys p y)
  unfolding zip_with
  get_or_zip_with [] [] p x y e = refl
  get_or_zip_with [] (b ∷ ys) p x y e = absurd (omega arith)
  get_or_zip_with (a ∷ xs) [] p x y e = absurd (omega arith)
  get_or_zip_with (a ∷ xs) (b ∷ ys) zero x y e = refl
  get_or_zip_with (a ∷ xs) (b ∷ ys) (suc p) x y e = get_or_zip_with xs ys p x y (omega arith)

pub plain_at : (contents : List Content) (p : ℕ) → get_or (map plain_number contents) p 0 ≡ plain_number (content_at contents p)
plain_at contents p = get_or_map plain_number contents p (plain 0)

pub opened_at_law : (contents : List Content) (p : ℕ) → get_or (map opened_number contents) p 0 ≡ opened_number (content_at contents p)
opened_at_law contents p = get_or_map opened_number contents p (plain 0)

pub stands_opened : (r : Reader) (content : Content) (n : ℕ) → Stands r content n → opened_number content ≡ n
stands_opened anyone content n s = rw s.is
stands_opened (only x) content n s = rw s.is

pub stands_plain : (content : Content) (n : ℕ) → Stands anyone content n → plain_number content ≡ n
stands_plain content n s = rw s.is

pub fits_stands : (t : DataType) (r : Reader) (content : Content) → fits (form t r) content ≡ true → Stands r content (opened_number content)
fits_stands t anyone (plain v) h = record { call = 0; index = 0; is = refl }
fits_stands t anyone (cell c) h = absurd (false≢true h)
fits_stands t (only x) (plain v) h = absurd (false≢true h)
fits_stands t (only x) (cell c) h =
    let own : c.owner ≡ x = eqb-true c.owner x (and_left (eqb c.owner x) (is_of_type t c.value) h) in
    record { call = c.call; index = c.index; is = ap (λ o. cell (record { owner = o; call = c.call; index = c.index; value = c.value })) own }

pub fits_typed : (t : DataType) (r : Reader) (content : Content) → fits (form t r) content ≡ true → is_of_type t (opened_number content) ≡ true
fits_typed t anyone (plain v) h = h
fits_typed t anyone (cell c) h = absurd (false≢true h)
fits_typed t (only x) (plain v) h = absurd (false≢true h)
fits_typed t (only x) (cell c) h = and_right (eqb c.owner x) (is_of_type t c.value) h

pub stands_fits : (t : DataType) (r : Reader) (content : Content) (n : ℕ) → Stands r content n → is_of_type t n ≡ true → fits (form t r) content ≡ true
stands_fits t anyone content n s h = rw s.is h
stands_fits t (only x) content n s h = rw s.is (and_both (eqb x x) (is_of_type t n) (eq-eqb x x refl) h)

module _ (test : Form → Content → Bool) where
  pub all_fit_length : (forms : List Form) (contents : List Content) → all_fit test forms contents ≡ true → length forms ≡ length contents
  unfolding all_fit
  all_fit_length [] [] h = refl
  all_fit_length [] (c ∷ cs) h = absurd (false≢true h)
  all_fit_length (f ∷ fs) [] h = absurd (false≢true h)
  all_fit_length (f ∷ fs) (c ∷ cs) h = ap suc (all_fit_length fs cs (and_right (test f c) (all_fit test fs cs) h))

  pub all_fit_at : test no_form (plain 0) ≡ true → (forms : List Form) (contents : List Content) → all_fit test forms contents ≡ true
      → (p : ℕ) → test (get_or forms p no_form) (content_at contents p) ≡ true
  unfolding all_fit
  all_fit_at past [] [] h p = past
  all_fit_at past [] (c ∷ cs) h p = absurd (false≢true h)
  all_fit_at past (f ∷ fs) [] h p = absurd (false≢true h)
  all_fit_at past (f ∷ fs) (c ∷ cs) h zero = and_left (test f c) (all_fit test fs cs) h
  all_fit_at past (f ∷ fs) (c ∷ cs) h (suc p) = all_fit_at past fs cs (and_right (test f c) (all_fit test fs cs) h) p

  pub all_fit_each : (forms : List Form) (contents : List Content) → length forms ≡ length contents
      → ((p : ℕ) → test (get_or forms p no_form) (content_at contents p) ≡ true) → all_fit test forms contents ≡ true
  unfolding all_fit
  all_fit_each [] [] e each = refl
  all_fit_each [] (c ∷ cs) e each = absurd (omega arith)
  all_fit_each (f ∷ fs) [] e each = absurd (omega arith)
  all_fit_each (f ∷ fs) (c ∷ cs) e each = and_both (test f c) (all_fit test fs cs) (each 0) (all_fit_each fs cs (omega arith) (λ p. each (suc p)))
