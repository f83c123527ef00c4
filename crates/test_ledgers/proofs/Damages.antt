-- Damage by its kind, and the wrong answers counted one by one.
use Rattle.std.specs.Prelude.{◌≡◌, ◌&&◌, ◌∷◌, ◌+◌, ◌-◌, ◌<◌, ◌≤◌}
use Rattle.kit.specs.Names.{refl, ap, sym, ◌∙◌, Bool, true, false, cond, not, List, [], ℕ, suc, arith}
use Rattle.kit.specs.Names.{add-one, eqb, set, eq-eqb, ne_eqb, lt-ltb, le-ltb}
use Rattle.definitions.specs.Basics.{is_zero, count_if}
use Rattle.definitions.specs.Original.{numbers_from}
use Rattle.definitions.specs.Ledger.{deployed, call_number, ledger_after_call}
use Rattle.definitions.specs.View.{view_number}
use Rattle.ledger_contents.specs.declared.Place.{Place}
use Rattle.ledger_struct.specs.declared.Ledger.{Ledger}
use Rattle.ledger_struct.specs.Ledgers.{ledger_of}
use Rattle.deploy.specs.declared.Deployment.{Deployment}
use Rattle.deploy.specs.Deployments.{nothing_deployed, Deployed}
use Rattle.call.specs.declared.Called.{Called}
use Rattle.call.specs.Calls.{CalledOn}
use Rattle.test_ledgers.specs.Damage.{with_last, with_items, cell_place, damaged_head, damaged_item, damaged_ledger, is_answered, is_wrong, wrong_answers, WrongOn}

module _ (l : Ledger) (kind : ℕ) where
  pub head_of : (n : ℕ) (r : Ledger) → kind ≡ n → r ≡ damaged_head n l → r ≡ damaged_head kind l
  head_of n r e f = f ∙ ap (λ (k : ℕ). damaged_head k l) (sym e)

  item_of : (n : ℕ) (r : Ledger) → kind ≡ n → r ≡ damaged_item n l → r ≡ damaged_item kind l
  item_of n r e f = f ∙ ap (λ (k : ℕ). damaged_item k l) (sym e)

  module _ (n : ℕ) (r : Ledger) (item due : Place) (is : kind ≡ n) (e : item ≡ due) where
    pub parameter_of_law : r ≡ with_items l (set l.parameters 0 item) l.variables l.places
        → with_items l (set l.parameters 0 due) l.variables l.places ≡ damaged_item n l → r ≡ damaged_item kind l
    parameter_of_law f g = item_of n r is (f ∙ ap (λ (p : Place). with_items l (set l.parameters 0 p) l.variables l.places) e ∙ g)

    pub variable_of_law : (i : ℕ) → r ≡ with_items l l.parameters (set l.variables i item) l.places
        → with_items l l.parameters (set l.variables i due) l.places ≡ damaged_item n l → r ≡ damaged_item kind l
    variable_of_law i f g = item_of n r is (f ∙ ap (λ (p : Place). with_items l l.parameters (set l.variables i p) l.places) e ∙ g)

    pub place_of : (i : ℕ) → r ≡ with_items l l.parameters l.variables (set l.places i item)
        → with_items l l.parameters l.variables (set l.places i due) ≡ damaged_item n l → r ≡ damaged_item kind l
    place_of i f g = item_of n r is (f ∙ ap (λ (p : Place). with_items l l.parameters l.variables (set l.places i p)) e ∙ g)

  -- The last kind of each.
  pub other_head : (kind ≡ 1 → ⊥) → (kind ≡ 2 → ⊥) → (kind ≡ 3 → ⊥) → (kind ≡ 4 → ⊥) → (kind ≡ 5 → ⊥) → (kind ≡ 6 → ⊥) → (kind ≡ 7 → ⊥)
      → (kind ≡ 8 → ⊥) → (kind ≡ 9 → ⊥) → (kind ≡ 10 → ⊥) → with_last l l.call l.function 4 l.outcome ≡ damaged_head kind l
  unfolding damaged_head
  other_head a b c d e f g h i j =
      rw (
        ne_eqb kind 1 a,
        ne_eqb kind 2 b,
        ne_eqb kind 3 c,
        ne_eqb kind 4 d,
        ne_eqb kind 5 e,
        ne_eqb kind 6 f,
        ne_eqb kind 7 g,
        ne_eqb kind 8 h,
        ne_eqb kind 9 i,
        ne_eqb kind 10 j,
      )

  pub other_item : (kind ≡ 12 → ⊥) → (kind ≡ 13 → ⊥) → (kind ≡ 14 → ⊥) → (kind ≡ 15 → ⊥) → (kind ≡ 16 → ⊥) → (kind ≡ 17 → ⊥) → (kind ≡ 18 → ⊥)
      → (kind ≡ 19 → ⊥) → (kind ≡ 20 → ⊥) → (r : Ledger) (item : Place) → item ≡ cell_place 3 7
      → r ≡ with_items l l.parameters l.variables (set l.places 1 item) → r ≡ damaged_item kind l
  unfolding damaged_item
  other_item a b c d e f g h i r item same made =
      made ∙ ap (λ (p : Place). with_items l l.parameters l.variables (set l.places 1 p)) same ∙
      rw (
        ne_eqb kind 12 a,
        ne_eqb kind 13 b,
        ne_eqb kind 14 c,
        ne_eqb kind 15 d,
        ne_eqb kind 16 e,
        ne_eqb kind 17 f,
        ne_eqb kind 18 g,
        ne_eqb kind 19 h,
        ne_eqb kind 20 i,
      )

  pub no_damage : kind ≡ 0 → l ≡ damaged_ledger kind l
  unfolding damaged_ledger
  no_damage e = rw (eq-eqb kind 0 e)

  pub head_damage : (r : Ledger) → (kind ≡ 0 → ⊥) → kind < 12 → r ≡ damaged_head kind l → r ≡ damaged_ledger kind l
  unfolding damaged_ledger
  head_damage r some early e = rw (ne_eqb kind 0 some, lt-ltb kind 12 early) e

  pub item_damage : (r : Ledger) → (kind ≡ 0 → ⊥) → 12 ≤ kind → r ≡ damaged_item kind l → r ≡ damaged_ledger kind l
  unfolding damaged_ledger
  item_damage r some late e = rw (ne_eqb kind 0 some, le-ltb kind 12 late) e

module _ (l : Ledger) (call view call_due view_due : ℕ) (is_call : call ≡ call_number (ledger_of l) 0 3 (7 ∷ []))
    (is_view : view ≡ view_number 3 (ledger_of l) 1024) where
  pub same_call : call ≡ call_due → eqb view view_due ≡ is_answered l call_due view_due
  unfolding is_answered
  same_call e =
      ap (λ (n : ℕ). eqb n view_due) is_view
      ∙ ap (λ (b : Bool). b && eqb (view_number 3 (ledger_of l) 1024) view_due)
      (sym (eq-eqb (call_number (ledger_of l) 0 3 (7 ∷ [])) call_due (sym is_call ∙ e)))

  pub other_call : (call ≡ call_due → ⊥) → false ≡ is_answered l call_due view_due
  unfolding is_answered
  other_call differs =
      ap (λ (b : Bool). b && eqb (view_number 3 (ledger_of l) 1024) view_due)
      (sym (ne_eqb (call_number (ledger_of l) 0 3 (7 ∷ [])) call_due (λ e. differs (is_call ∙ e))))

-- The kinds that are left.
module _ (l : Ledger) where
  abbrev pub left_wrong : ℕ → ℕ
  left_wrong kind = count_if (is_wrong l) (numbers_from kind (22 - kind))

  pub wrong_start : (a : Bool) (wrong : ℕ) → a ≡ is_answered l 0 0 → wrong ≡ cond a 0 1 → wrong + left_wrong 1 ≡ wrong_answers l
  unfolding wrong_answers
  wrong_start a wrong e f =
      ap (λ (n : ℕ). n + left_wrong 1) (f ∙ ap (λ (b : Bool). cond b 0 1) e)

  pub wrong_next : (a : Bool) (d : Ledger) (wrong next kind : ℕ) → kind < 22 → d ≡ damaged_ledger kind l → a ≡ is_answered d 18 21
      → next ≡ wrong + cond a 0 1 → wrong + left_wrong kind ≡ wrong_answers l → next + left_wrong (kind + 1) ≡ wrong_answers l
  unfolding numbers_from count_if
  wrong_next a d wrong next kind more is_d e f so_far =
      let one : 22 - kind ≡ suc (22 - (kind + 1)) = omega arith in
      let same : a ≡ is_answered (damaged_ledger kind l) 18 21 = e ∙ ap (λ (m : Ledger). is_answered m 18 21) is_d in
      let here : left_wrong kind ≡ cond (is_wrong l kind) 1 0 + left_wrong (kind + 1) =
      ap (λ (n : ℕ). count_if (is_wrong l) (numbers_from kind n)) one
      ∙ ap (λ (n : ℕ). cond (is_wrong l kind) 1 0 + count_if (is_wrong l) (numbers_from n (22 - (kind + 1)))) (sym (add-one kind)) in
      let turned : ◌≡◌ {A = ℕ} (cond a 0 1) (cond (is_wrong l kind) 1 0) = turn a ∙ ap (λ (b : Bool). cond (not b) 1 0) same in
      omega (arith, so_far)
    where
      turn : (b : Bool) → ◌≡◌ {A = ℕ} (cond b 0 1) (cond (not b) 1 0)
      turn true = refl
      turn false = refl

  pub wrong_done : (wrong kind : ℕ) → 22 ≤ kind → wrong + left_wrong kind ≡ wrong_answers l → wrong ≡ wrong_answers l
  unfolding numbers_from count_if
  wrong_done wrong kind done so_far =
      let none : 22 - kind ≡ 0 = omega arith in
      let left : left_wrong kind ≡ 0 = ap (λ (n : ℕ). count_if (is_wrong l) (numbers_from kind n)) none in
      omega (arith, so_far)

pub wrong_on : (file : List ℕ) (d : Deployment) (r : Called) (n : ℕ) → Deployed file (5 ∷ []) d → CalledOn d.ledger 0 3 (7 ∷ []) r
    → n ≡ wrong_answers r.ledger → WrongOn file n
wrong_on file d r n made on counted =
    record {
      on = r.ledger;
      called = on.ledger ∙ ap (λ l. ledger_after_call l 0 3 (7 ∷ []))
          (made.ledger ∙ ap (λ (m : ℕ). cond (is_zero m) (deployed file (5 ∷ [])) nothing_deployed) made.number);
      counted = counted;
    }
