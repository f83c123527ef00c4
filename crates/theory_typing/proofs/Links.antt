-- Linked names have one address in a call whose requires have held.
use Rattle.std.specs.Prelude.{◌≡◌, ◌&&◌, ◌||◌}
use Rattle.kit.specs.Names.{refl, ap, sym, ◌∙◌, Bool, true, false, false≢true, List, Option, none, some, ℕ, eqb, eqb-true}
use Rattle.definitions.specs.Basics.{bit, is_true}
use Rattle.definitions.specs.ContractFile.{Name, me_name, final_name, parameter_name, same_name, plus, minus, times, divide, remainder, less, less_or_equal, equal, unequal, conjunction, disjunction, Expression, constant, me, field, entry, parameter, operator, negation, reveal, Scope}
use Rattle.definitions.specs.Owners.{Links, no_links, with_link, with_link_of, linked_in_both, name_of, links_of_condition}
use Rattle.definitions.specs.Original.{value}
use Rattle.theory_laws.proofs.TruthValues.{and_left, and_right}
use Rattle.theory_relations.specs.Environment.{Environment}
use Rattle.theory_typing.proofs.Values.{name_address}

or_elimination : {b : Bool} {P : Type 0} (a : Bool) → (a ≡ true → P) → (b ≡ true → P) → a || b ≡ true → P
or_elimination true f g e = f refl
or_elimination false f g e = g e

bit_true : (b : Bool) → is_true (bit b) ≡ true → b ≡ true
bit_true true e = refl
bit_true false e = e

module _ (address_of : Name → ℕ) where
  pub record LinksSound (linked : Links) : Type 0 where
    pub same : (a b : Name) → linked a b ≡ true → address_of a ≡ address_of b

  same_name_sound : (a b : Name) → same_name a b ≡ true → address_of a ≡ address_of b
  unfolding same_name
  same_name_sound me_name me_name e = refl
  same_name_sound me_name (final_name g) e = absurd (false≢true e)
  same_name_sound me_name (parameter_name j) e = absurd (false≢true e)
  same_name_sound (final_name f) me_name e = absurd (false≢true e)
  same_name_sound (final_name f) (final_name g) e = ap (λ n. address_of (final_name n)) (eqb-true f g e)
  same_name_sound (final_name f) (parameter_name j) e = absurd (false≢true e)
  same_name_sound (parameter_name k) me_name e = absurd (false≢true e)
  same_name_sound (parameter_name k) (final_name g) e = absurd (false≢true e)
  same_name_sound (parameter_name k) (parameter_name j) e = ap (λ n. address_of (parameter_name n)) (eqb-true k j e)

  pub no_links_sound : LinksSound no_links
  no_links_sound = record { same = same_name_sound }

  -- Behind an if, whichever branch was taken.
  pub sound_in_first : (one other : Links) → LinksSound one → LinksSound (linked_in_both one other)
  sound_in_first one other sound = record { same = λ a b e. sound.same a b (and_left (one a b) (other a b) e) }

  pub sound_in_second : (one other : Links) → LinksSound other → LinksSound (linked_in_both one other)
  sound_in_second one other sound = record { same = λ a b e. sound.same a b (and_right (one a b) (other a b) e) }

  with_link_sound : (x y : Name) (linked : Links) → address_of x ≡ address_of y → LinksSound linked → LinksSound (with_link x y linked)
  unfolding with_link
  with_link_sound x y linked h sound =
      record {
        same = λ a b e.
            or_elimination (linked a b || (linked a x && linked y b)) (or_elimination (linked a b) (sound.same a b) (chained a b x y h)) (chained a b y x (sym h)) e;
      }
    where
      chained : (a b x y : Name) → address_of x ≡ address_of y → linked a x && linked y b ≡ true → address_of a ≡ address_of b
      chained a b x y h e = sound.same a x (and_left (linked a x) (linked y b) e) ∙ h ∙ sound.same y b (and_right (linked a x) (linked y b) e)

  with_link_of_sound : (left right : Option Name) (linked : Links) (a b : ℕ) → ((n : Name) → left ≡ some n → a ≡ address_of n) → ((n : Name) → right ≡ some n → b ≡ address_of n) → a ≡ b
      → LinksSound linked → LinksSound (with_link_of left right linked)
  with_link_of_sound none right linked a b p q e sound = sound
  with_link_of_sound (some x) none linked a b p q e sound = sound
  with_link_of_sound (some x) (some y) linked a b p q e sound = with_link_sound x y linked (sym (p x refl) ∙ e ∙ q y refl) sound

  module _ (scope : Scope) (arguments numbers : List ℕ) (environment : Environment scope address_of arguments numbers) where
    abbrev value_of : Expression → ℕ
    value_of e = value scope.fields address_of arguments numbers e

    pub condition_links_sound : (e : Expression) (linked : Links) → is_true (value_of e) ≡ true → LinksSound linked → LinksSound (links_of_condition scope e linked)
    unfolding links_of_condition value
    condition_links_sound (constant t v) linked h sound = sound
    condition_links_sound me linked h sound = sound
    condition_links_sound (field f) linked h sound = sound
    condition_links_sound (entry f key) linked h sound = sound
    condition_links_sound (parameter k) linked h sound = sound
    condition_links_sound (operator plus left right) linked h sound = sound
    condition_links_sound (operator minus left right) linked h sound = sound
    condition_links_sound (operator times left right) linked h sound = sound
    condition_links_sound (operator divide left right) linked h sound = sound
    condition_links_sound (operator remainder left right) linked h sound = sound
    condition_links_sound (operator less left right) linked h sound = sound
    condition_links_sound (operator less_or_equal left right) linked h sound = sound
    condition_links_sound (operator equal left right) linked h sound =
        with_link_of_sound (name_of scope left) (name_of scope right) linked (value_of left) (value_of right) (name_address scope address_of arguments numbers environment left)
        (name_address scope address_of arguments numbers environment right) (eqb-true (value_of left) (value_of right) (bit_true (eqb (value_of left) (value_of right)) h)) sound
    condition_links_sound (operator unequal left right) linked h sound = sound
    condition_links_sound (operator conjunction left right) linked h sound =
        let both = bit_true (is_true (value_of left) && is_true (value_of right)) h in
        condition_links_sound right (links_of_condition scope left linked) (and_right (is_true (value_of left)) (is_true (value_of right)) both)
        (condition_links_sound left linked (and_left (is_true (value_of left)) (is_true (value_of right)) both) sound)
    condition_links_sound (operator disjunction left right) linked h sound = sound
    condition_links_sound (negation part) linked h sound = sound
    condition_links_sound (reveal part o) linked h sound = sound
