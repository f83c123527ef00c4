-- The log of a value that is put into a place, from the test of the place's code and of the value.
use Rattle.std.specs.Prelude.{◌≡◌, ◌&&◌, ◌<◌}
use Rattle.kit.specs.Names.{refl, ap, ap₂, sym, ◌∙◌, Bool, true, false, not, List, none, ℕ}
use Rattle.definitions.specs.ContractFile.{Owner, is_everyone, field_at, node_count, owner_code, field_owner_code}
use Rattle.definitions.specs.Owners.{is_public, name_of, place_owner}
use Rattle.rewrite_owners.specs.Codes.{name_code, place_code}
use Rattle.rewrite_owners.proofs.Codes.{code_public, code_private, place_code_law}
use Rattle.file_accepted.specs.Context.{nodes_in, fields_in, scope_in}
use Rattle.rewrite_events.proofs.Parts.{place_is}
use Rattle.rewrite_log.specs.declared.Position.{Position}
use Rattle.rewrite_log.specs.Entries.{guard_of}
use Rattle.rewrite_log.specs.Logs.{Logged}
use Rattle.rewrite_log.proofs.Turns.{turn_first, turn_second, turn_logged}
use Rattle.rewrite_plans.specs.Plans.{node_expression}
use Rattle.rewrite_expressions.specs.Translations.{body_of, supply_of, Ready, ReadyToSupply, Supplied}
use Rattle.rewrite_expressions.proofs.Steps.{pick_true, pick_false, ready_same, logged_same}
use Rattle.rewrite_assignments.specs.Placing.{place_of, assign_field_of, assign_entry_of, ReadyToPlace, Placed}

and-false : (b : Bool) → b && false ≡ false
and-false true = refl
and-false false = refl

module _ (file : List ℕ) (function_start guard n code : ℕ) where
  open_place : code ≡ 0 → (o : Owner) → owner_code o ≡ code → place_of file function_start guard n o ≡ body_of file function_start guard n
  open_place z o is =
      place_is (scope_in file function_start) (guard_of guard) o (node_expression file n)
      ∙ pick_false _ _ _ (ap (λ (b : Bool). is_public (scope_in file function_start) (node_expression file n) && not b) (code_public code o (sym is) z)
      ∙ and-false (is_public (scope_in file function_start) (node_expression file n)))

  private_place : (code ≡ 0 → ⊥) → is_public (scope_in file function_start) (node_expression file n) ≡ true → (o : Owner) → owner_code o ≡ code
      → place_of file function_start guard n o ≡ supply_of file function_start guard n o
  private_place z public o is =
      place_is (scope_in file function_start) (guard_of guard) o (node_expression file n)
      ∙ pick_true _ _ _ (ap₂ (λ (a b : Bool). a && not b) public (code_private code o (sym is) z))

  private_value : is_public (scope_in file function_start) (node_expression file n) ≡ false → (o : Owner) → owner_code o ≡ code
      → place_of file function_start guard n o ≡ body_of file function_start guard n
  private_value private o is =
      place_is (scope_in file function_start) (guard_of guard) o (node_expression file n) ∙ pick_false _ _ _ (ap (λ (b : Bool). b && not (is_everyone o)) private)

  module _ (before : List ℕ) (p : Position) (ready : ReadyToPlace file function_start n guard code before p) where
    pub open_ready : code ≡ 0 → Ready file n before p (body_of file function_start guard n)
    open_ready z = ready_same file n before p _ _ (open_place z ready.owner ready.is) ready.ready

    pub value_ready : is_public (scope_in file function_start) (node_expression file n) ≡ false → Ready file n before p (body_of file function_start guard n)
    value_ready private = ready_same file n before p _ _ (private_value private ready.owner ready.is) ready.ready

    pub public_ready : (code ≡ 0 → ⊥) → is_public (scope_in file function_start) (node_expression file n) ≡ true → ReadyToSupply file function_start n guard code before p
    public_ready z public =
        record {
          owner = ready.owner;
          is = ready.is;
          small = ready.small;
          ready = ready_same file n before p _ _ (private_place z public ready.owner ready.is) ready.ready;
        }

  module _ (before after : List ℕ) (p r : Position) where
    pub open_placed : code ≡ 0 → Logged (nodes_in file) before after p r (body_of file function_start guard n p.variable) → Placed file function_start guard n code before after p r
    open_placed z h = record { for = λ o is. logged_same file before after p r _ _ (sym (open_place z o is)) h }

    pub value_placed : is_public (scope_in file function_start) (node_expression file n) ≡ false → Logged (nodes_in file) before after p r (body_of file function_start guard n p.variable)
        → Placed file function_start guard n code before after p r
    value_placed private h = record { for = λ o is. logged_same file before after p r _ _ (sym (private_value private o is)) h }

    pub public_placed : (code ≡ 0 → ⊥) → is_public (scope_in file function_start) (node_expression file n) ≡ true → Supplied file function_start guard n code before after p r
        → Placed file function_start guard n code before after p r
    public_placed z public h = record { for = λ o is. logged_same file before after p r _ _ (sym (private_place z public o is)) (h.for o is) }

-- Assignments: the owner of the place, from the codes that are read of the file.
module _ (file : List ℕ) (function_start guard f : ℕ) (declared : ℕ) (read : declared ≡ field_owner_code (field_at (fields_in file) f).owner) (code : ℕ) (small : code < 256) where
  module _ (n : ℕ) (is : code ≡ place_code declared 0) (before : List ℕ) (p : Position) where
    field_code : owner_code (place_owner (field_at (fields_in file) f).owner none) ≡ code
    field_code = place_code_law (field_at (fields_in file) f).owner none ∙ ap (λ (x : ℕ). place_code x 0) (sym read) ∙ sym is

    pub field_ready : Ready file n before p (assign_field_of file function_start guard f n) → ReadyToPlace file function_start n guard code before p
    field_ready h = record { owner = place_owner (field_at (fields_in file) f).owner none; is = field_code; small = small; ready = h }

    pub field_logged : (after : List ℕ) (r : Position) → Placed file function_start guard n code before after p r
        → Logged (nodes_in file) before after p r (assign_field_of file function_start guard f n p.variable)
    field_logged after r h = h.for (place_owner (field_at (fields_in file) f).owner none) field_code

  module _ (key value name : ℕ) (named : name ≡ name_code (name_of (scope_in file function_start) (node_expression file key))) (is : code ≡ place_code declared name)
      (inside : value < node_count file) (before : List ℕ) (p : Position) (ready : Ready file key before p (assign_entry_of file function_start guard f key value)) where
    abbrev entry_owner : Owner
    entry_owner = place_owner (field_at (fields_in file) f).owner (name_of (scope_in file function_start) (node_expression file key))

    entry_code : owner_code entry_owner ≡ code
    entry_code =
        place_code_law (field_at (fields_in file) f).owner (name_of (scope_in file function_start) (node_expression file key))
        ∙ ap₂ (λ (x y : ℕ). place_code x y) (sym read) (sym named) ∙ sym is

    pub key_ready : Ready file key before p (body_of file function_start guard key)
    key_ready =
        record { inside = ready.inside; room = turn_first (nodes_in file) before before p p (body_of file function_start guard key) (place_of file function_start guard value entry_owner) ready.room }

    module _ (middle : List ℕ) (q : Position) (logged : Logged (nodes_in file) before middle p q (body_of file function_start guard key p.variable)) where
      pub entry_ready : ReadyToPlace file function_start value guard code middle q
      entry_ready =
          record {
            owner = entry_owner;
            is = entry_code;
            small = small;
            ready = record { inside = inside; room = turn_second (nodes_in file) before middle p q (body_of file function_start guard key) (place_of file function_start guard value entry_owner) ready.room logged };
          }

      pub entry_logged : (after : List ℕ) (r : Position) → Placed file function_start guard value code middle after q r
          → Logged (nodes_in file) before after p r (assign_entry_of file function_start guard f key value p.variable)
      entry_logged after r h =
          turn_logged (nodes_in file) before middle p q (body_of file function_start guard key) (place_of file function_start guard value entry_owner) ready.room after r logged
          (h.for entry_owner entry_code)
