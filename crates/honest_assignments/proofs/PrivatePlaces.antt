-- Whether a place is private, by its code; and what an assignment leaves.
use Rattle.std.specs.Prelude.{◌≡◌}
use Rattle.kit.specs.Names.{ap, sym, ◌∙◌, Bool, cond, not, List, Option, none, ℕ, eqb, set}
use Rattle.definitions.specs.ContractFile.{Name, Owner, FieldOwner, field_at, is_everyone, field_owner_code}
use Rattle.definitions.specs.Owners.{name_of, place_owner}
use Rattle.rewrite_owners.specs.Codes.{name_code, place_code}
use Rattle.file_accepted.specs.Context.{fields_in, scope_in}
use Rattle.rewrite_plans.specs.Plans.{node_expression}
use Rattle.honest_supplies.specs.Supplies.{supplied_number, body_in, placed_in, Ready, Wrote}
use Rattle.honest_supplies.proofs.Writing.{wrote_turn, room_first, room_second}
use Rattle.honest_supplies.proofs.Steps.{placed_ready, placed_wrote}
use Rattle.honest_assignments.specs.Assigned.{field_events, keyed_events, entry_events, FieldReady, EntryReady}
use Rattle.rewrite_owners.proofs.Codes.{place_code_law, public_test}

pub private_is_law : (code owner named : ℕ) (o : FieldOwner) (key : Option Name) → code ≡ place_code owner named → owner ≡ field_owner_code o → named ≡ name_code key
    → not (eqb code 0) ≡ not (is_everyone (place_owner o key))
private_is_law code owner named o key a b c = ap not (public_test code (place_owner o key) (a ∙ ap (λ (m : ℕ). place_code m named) b ∙ ap (place_code (field_owner_code o)) c ∙ sym (place_code_law o key)))

module _ (taken : Bool) (before after : List ℕ) where
  pub put_at : (p q v w : ℕ) → p ≡ q → v ≡ w → after ≡ cond taken (set before p v) before → after ≡ cond taken (set before q w) before
  put_at p q v w e f h = rw (← e, ← f) h

-- What an assignment asks of its parts, and what it has written after them.
module _ (file : List ℕ) (function_start f n : ℕ) (private : Bool) where
  pub field_ready : (out : List ℕ) (i : ℕ) → private ≡ not (is_everyone (place_owner (field_at (fields_in file) f).owner none))
      → FieldReady file function_start f n out i → Ready file n out i (placed_in file function_start n private)
  field_ready out i h r =
      placed_ready file function_start n out i (place_owner (field_at (fields_in file) f).owner none) private h
      (record { inside = r.inside; room = r.room })

  pub field_wrote : (arguments : List ℕ) (caller : ℕ) (live : Bool) (numbers before after : List ℕ) (i next : ℕ)
      → private ≡ not (is_everyone (place_owner (field_at (fields_in file) f).owner none))
      → Wrote (supplied_number file arguments caller live numbers) before after i next (placed_in file function_start n private)
      → Wrote (supplied_number file arguments caller live numbers) before after i next (field_events file function_start f n)
  field_wrote arguments caller live numbers before after i next h w =
      placed_wrote file function_start n arguments caller live numbers before after i next (place_owner (field_at (fields_in file) f).owner none) private h w

module _ (file : List ℕ) (function_start f key n : ℕ) (out : List ℕ) (i : ℕ) (r : EntryReady file function_start f key n out i) where
  pub key_ready : Ready file key out i (body_in file function_start key)
  key_ready = record { inside = r.key_inside; room = room_first out i (body_in file function_start key) (keyed_events file function_start f key n) r.room }

  abbrev key_owner : Owner
  key_owner = place_owner (field_at (fields_in file) f).owner (name_of (scope_in file function_start) (node_expression file key))

  module _ (arguments : List ℕ) (caller : ℕ) (live : Bool) (numbers after : List ℕ) (j : ℕ) (private : Bool) (h : private ≡ not (is_everyone key_owner))
      (w : Wrote (supplied_number file arguments caller live numbers) out after i j (body_in file function_start key)) where
    pub entry_ready : Ready file n after j (placed_in file function_start n private)
    entry_ready =
        placed_ready file function_start n after j key_owner private h
        (record {
          inside = r.inside;
          room =
              room_second (supplied_number file arguments caller live numbers) out after i j (body_in file function_start key) (keyed_events file function_start f key n) r.room w;
        })

    pub entry_wrote : (last : List ℕ) (k : ℕ) → Wrote (supplied_number file arguments caller live numbers) after last j k (placed_in file function_start n private)
        → Wrote (supplied_number file arguments caller live numbers) out last i k (entry_events file function_start f key n)
    entry_wrote last k v =
        wrote_turn (supplied_number file arguments caller live numbers) out after last i j k (body_in file function_start key) (keyed_events file function_start f key n) r.room w
        (placed_wrote file function_start n arguments caller live numbers after last j k key_owner private h v)
