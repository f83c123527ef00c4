-- One form more is tested, and some forms before the rest.
use Rattle.std.specs.Prelude.{◌≡◌, ◌&&◌, ◌||◌, ◌∷◌, ◌++◌, ◌+◌, ◌/◌, ◌<◌, ◌≤◌}
use Rattle.kit.specs.Names.{refl, ap, sym, ◌∙◌, Bool, true, false, List, [], ℕ, suc, arith}
use Rattle.kit.specs.Names.{add-one, ltb, leb, length, drop, drop_of_length-le, drop-cons, lt-ltb, ltb-false, ltb-true, leb-true, leb-false}
use Rattle.definitions.specs.Ledger.{Content, plain, content_at, Form, fits, is_plain_zero, all_fit}
use Rattle.ledger_contents.specs.Contents.{contents_of}
use Rattle.ledger_contents.proofs.FlatContents.{length_contents_of}
use Rattle.ledger_18_forms.specs.Forms.{fits_or_zero, fits_at, front_fits}

pub and_assoc : (a b c : Bool) → (a && b) && c ≡ (a && (b && c))
and_assoc true b c = refl
and_assoc false b c = refl

module _ (test : Form → Content → Bool) where
  pub all_front : (forms rest : List Form) (contents : List Content)
      → all_fit test (forms ++ rest) contents ≡ (front_fits test forms contents && all_fit test rest (drop (length forms) contents))
  unfolding all_fit front_fits
  all_front [] rest contents = refl
  all_front (form ∷ forms) rest [] = refl
  all_front (form ∷ forms) rest (c ∷ contents) =
      ap (λ (b : Bool). test form c && b) (all_front forms rest contents)
      ∙ sym (and_assoc (test form c) (front_fits test forms contents) (all_fit test rest (drop (length forms) contents)))

  module _ (contents : List Content) (p : ℕ) (form : Form) (forms : List Form) where
    all_first : all_fit test (form ∷ forms) (drop p contents) ≡ (fits_at test contents p form && all_fit test forms (drop (p + 1) contents))
    unfolding all_fit
    all_first = rw (add-one p) (go (ltb p (length contents)) refl)
      where
        go : (b : Bool) → ltb p (length contents) ≡ b
            → all_fit test (form ∷ forms) (drop p contents) ≡ ((b && test form (content_at contents p)) && all_fit test forms (drop (suc p) contents))
        go true t = rw (drop-cons contents p (plain 0) (ltb-true p (length contents) t))
        go false t = rw (drop_of_length-le contents (ltb-false p (length contents) t))

    front_first : front_fits test (form ∷ forms) (drop p contents) ≡ (fits_at test contents p form && front_fits test forms (drop (p + 1) contents))
    unfolding front_fits
    front_first = rw (add-one p) (go (ltb p (length contents)) refl)
      where
        go : (b : Bool) → ltb p (length contents) ≡ b
            → front_fits test (form ∷ forms) (drop p contents) ≡ ((b && test form (content_at contents p)) && front_fits test forms (drop (suc p) contents))
        go true t = rw (drop-cons contents p (plain 0) (ltb-true p (length contents) t))
        go false t = rw (drop_of_length-le contents (ltb-false p (length contents) t))

    module _ (a goal : Bool) (same : a ≡ fits_at test contents p form) where
      pub all_next : a ≡ true → all_fit test (form ∷ forms) (drop p contents) ≡ goal → all_fit test forms (drop (p + 1) contents) ≡ goal
      all_next t inv = ap (λ (b : Bool). b && all_fit test forms (drop (p + 1) contents)) (sym t ∙ same) ∙ (sym all_first ∙ inv)

      pub all_stops : a ≡ false → all_fit test (form ∷ forms) (drop p contents) ≡ goal → false ≡ goal
      all_stops t inv = ap (λ (b : Bool). b && all_fit test forms (drop (p + 1) contents)) (sym t ∙ same) ∙ (sym all_first ∙ inv)

      pub front_next : a ≡ true → front_fits test (form ∷ forms) (drop p contents) ≡ goal → front_fits test forms (drop (p + 1) contents) ≡ goal
      front_next t inv = ap (λ (b : Bool). b && front_fits test forms (drop (p + 1) contents)) (sym t ∙ same) ∙ (sym front_first ∙ inv)

      pub front_stops : a ≡ false → front_fits test (form ∷ forms) (drop p contents) ≡ goal → false ≡ goal
      front_stops t inv = ap (λ (b : Bool). b && front_fits test forms (drop (p + 1) contents)) (sym t ∙ same) ∙ (sym front_first ∙ inv)

  -- No form is left: no content is.
  pub all_none : (contents : List Content) (p : ℕ) → all_fit test [] (drop p contents) ≡ leb (length contents) p
  unfolding all_fit
  all_none contents p = go (leb (length contents) p) refl
    where
      go : (b : Bool) → leb (length contents) p ≡ b → all_fit test [] (drop p contents) ≡ b
      go true t = rw (drop_of_length-le contents (leb-true (length contents) p t))
      go false t = rw (drop-cons contents p (plain 0) (leb-false (length contents) p t))

  pub front_none : (contents : List Content) → front_fits test [] contents ≡ true
  unfolding front_fits
  front_none contents = refl

-- A position in flat numbers, and what is found there.
module _ (test : Form → Content → Bool) (flat : List ℕ) (p : ℕ) (form : Form) where
  pub found : (r : Bool) → p < length flat / 5 → r ≡ test form (content_at (contents_of flat) p) → r ≡ fits_at test (contents_of flat) p form
  found r h e = e ∙ sym (rw (lt-ltb p (length (contents_of flat)) (omega (arith, length_contents_of flat))))

  pub absent : length flat / 5 ≤ p → false ≡ fits_at test (contents_of flat) p form
  absent h = sym (go (ltb p (length (contents_of flat))) refl)
    where
      go : (b : Bool) → ltb p (length (contents_of flat)) ≡ b → (b && test form (content_at (contents_of flat) p)) ≡ false
      go true t = absurd (omega (arith, ltb-true p (length (contents_of flat)) t, length_contents_of flat))
      go false t = refl

pub zero_fits : (form : Form) (c : Content) (a : Bool) → a ≡ is_plain_zero c → a ≡ true → true ≡ fits_or_zero form c
zero_fits form c a e t = ap (λ (b : Bool). b || fits form c) (sym t ∙ e)

pub other_fits : (form : Form) (c : Content) (a r : Bool) → a ≡ is_plain_zero c → a ≡ false → r ≡ fits form c → r ≡ fits_or_zero form c
other_fits form c a r e t k = k ∙ ap (λ (b : Bool). b || fits form c) (sym t ∙ e)
