-- The cases of a request for a call's disclosures.
use Rattle.std.specs.Prelude.{◌≡◌, ◌||◌, ◌∷◌, ◌++◌, ◌≤◌}
use Rattle.kit.specs.Names.{refl, ap, sym, ◌∙◌, Bool, true, false, cond, List, [], ℕ, zero-add, eqb, ltb, length}
use Rattle.kit.specs.Names.{take, drop, ne_eqb, le-ltb}
use Rattle.definitions.specs.Basics.{first_that_holds}
use Rattle.definitions.specs.Numbers.{or_else}
use Rattle.definitions.specs.Ledger as ledger
use Rattle.definitions.specs.Ledger.{call_number}
use Rattle.definitions.specs.View.{disclosed_on, disclosed_number, disclosed_length, output_after_disclosing}
use Rattle.memory_buffer.proofs.Storing.{front_stored}
use Rattle.memory_append.specs.Append.{Appended}
use Rattle.memory_answer.specs.declared.Answer.{Answer}
use Rattle.disclose_output.specs.Handing.{HandedOver}
use Rattle.disclose_output.proofs.Refusals.{refused_first}
use Rattle.disclose_call.specs.Disclosed.{DisclosedTo}

-- What is appended from the start on stands at the front.
pub values_front : (held after values : List ℕ) (count : ℕ) → Appended held after 0 values count → take count after ≡ values
values_front held after values count a = front_stored held after values count a.contents (a.place ∙ zero-add (length values))

module _ (l : ledger.Ledger) (function caller : ℕ) (arguments : List ℕ) (party : ℕ) (before : List ℕ) where
  abbrev number : ℕ
  number = disclosed_number l function caller arguments party (length before)

  abbrev values : List ℕ
  values = disclosed_on l function caller arguments party

  -- A refusal writes nothing.
  refused : (r : Answer) → r.number ≡ number → (number ≡ 0 → ⊥) → r.length ≡ 0 → DisclosedTo l function caller arguments party before before r
  unfolding disclosed_length output_after_disclosing
  refused r same some none =
      let test = ne_eqb number 0 some in
      record { number = same; long = rw test none; output = rw test refl }

  -- What refuses before the values are worked out refuses the request.
  pub request_refused : (given n : ℕ) (r : Answer) → given ≡ call_number l function caller arguments
      → n ≡ or_else given (first_that_holds 21 (ltb 15 party ∷ [])) → (n ≡ 0 → ⊥) → r.number ≡ n → r.length ≡ 0
      → DisclosedTo l function caller arguments party before before r
  unfolding disclosed_number
  request_refused given n r same first some is none =
      let short = ltb (length before) (length values) in
      let e : n ≡ number = refused_first given party n first short some ∙ ap (λ (m : ℕ). or_else m (first_that_holds 21 ((ltb 15 party || short) ∷ []))) same in
      refused r (is ∙ e) (λ z. some (e ∙ z)) none

  module _ (clear : call_number l function caller arguments ≡ 0) where
    later_number : number ≡ cond (ltb 15 party || ltb (length before) (length values)) 21 0
    unfolding disclosed_number first_that_holds
    later_number = rw clear refl

    module _ (low : party ≤ 15) where
      room_number : number ≡ cond (ltb (length before) (length values)) 21 0
      room_number = later_number ∙ rw (le-ltb 15 party low) refl

      pub request_handed : (given after : List ℕ) (r : Answer) → given ≡ values → HandedOver given before after r
          → DisclosedTo l function caller arguments party before after r
      unfolding disclosed_length output_after_disclosing
      request_handed given after r same handed =
          let h : HandedOver values before after r = rw same at handed in
          record {
            number = h.number ∙ sym room_number;
            long = h.long ∙ rw room_number (either (ltb (length before) (length values)) (length values) 0);
            output = h.output ∙ rw room_number (either (ltb (length before) (length values)) (values ++ drop (length values) before) before);
          }
        where
          either : {A : Type 0} (short : Bool) (x y : A) → cond short y x ≡ cond (eqb (cond short 21 0) 0) x y
          either true x y = refl
          either false x y = refl
