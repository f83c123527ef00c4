-- Each step of writing a node's numbers: what it asks of the next, and what it has written after it.
use Rattle.std.specs.Prelude.{◌≡◌, ◌≤◌}
use Rattle.kit.specs.Names.{refl, ap, sym, ◌∙◌, Bool, true, false, cond, not, List, map, ℕ, suc, arith, eqb, ne_eqb}
use Rattle.definitions.specs.ContractFile.{me_name, Owner, everyone, owned_by, Expression, Scope, is_everyone}
use Rattle.definitions.specs.Owners.{owner_of, is_public}
use Rattle.definitions.specs.Rewriting.{Variable, supplied, read_from, always}
use Rattle.memory_buffer.specs.Buffer.{stored}
use Rattle.file_accepted.specs.Context.{scope_in}
use Rattle.rewrite_events.specs.Events.{Events, in_turn, supply_events, read_events, body_events, circuit_events, place_events}
use Rattle.rewrite_events.specs.Parts.{is_supplied, is_read, supplied_for, each_part}
use Rattle.rewrite_events.proofs.Parts.{body_is, circuit_is}
use Rattle.rewrite_plans.specs.declared.Parts.{Parts}
use Rattle.rewrite_plans.specs.Plans.{node_expression, SuppliedCode, ReadCode, PartsOf}
use Rattle.honest_values.specs.Values.{value_of}
use Rattle.honest_supplies.specs.Supplies.{supplied_number, body_in, circuit_in, supply_in, placed_in, Room, Ready, Wrote}
use Rattle.honest_supplies.proofs.Writing.{wrote_as, wrote_nothing, wrote_turn, room_as, room_first, room_second, supply_count, supply_variables}

module _ (file : List ℕ) (n : ℕ) (out : List ℕ) (i : ℕ) where
  pub ready_as : (a b : Events) → b ≡ a → Ready file n out i b → Ready file n out i a
  ready_as a b e r = record { inside = r.inside; room = room_as out i a b e r.room }

  -- Parts: none, one, or two in turn.
  module _ (rule : Expression → Events) (parts : Parts) (p : PartsOf file n parts) (r : Ready file n out i (each_part rule (node_expression file n))) where
    pub one_ready : parts.count ≡ 1 → Ready file parts.first out i (rule (node_expression file parts.first))
    one_ready h =
        let less = p.first (omega arith) in
        record { inside = omega (arith, r.inside); room = room_as out i _ _ (p.one h rule) r.room }

    two_room : 2 ≤ parts.count → Room out i (in_turn (rule (node_expression file parts.first)) (rule (node_expression file parts.second)))
    two_room h = room_as out i _ _ (p.two h rule) r.room

    pub first_ready : 2 ≤ parts.count → Ready file parts.first out i (rule (node_expression file parts.first))
    first_ready h =
        let less = p.first (omega arith) in
        record { inside = omega (arith, r.inside); room = room_first out i _ _ (two_room h) }

    module _ (number : Variable → ℕ) (after : List ℕ) (j : ℕ) where
      pub second_ready : 2 ≤ parts.count → Wrote number out after i j (rule (node_expression file parts.first))
          → Ready file parts.second after j (rule (node_expression file parts.second))
      second_ready h w =
          let less = p.second h in
          record { inside = omega (arith, r.inside); room = room_second number out after i j _ _ (two_room h) w }

      pub one_wrote : parts.count ≡ 1 → Wrote number out after i j (rule (node_expression file parts.first)) → Wrote number out after i j (each_part rule (node_expression file n))
      one_wrote h w = wrote_as number out after i j _ _ (p.one h rule) w

      pub two_wrote : (last : List ℕ) (k : ℕ) → 2 ≤ parts.count → Wrote number out after i j (rule (node_expression file parts.first))
          → Wrote number after last j k (rule (node_expression file parts.second)) → Wrote number out last i k (each_part rule (node_expression file n))
      two_wrote last k h w v = wrote_as number out last i k _ _ (p.two h rule) (wrote_turn number out after last i j k _ _ (two_room h) w v)

    pub none_wrote : (number : Variable → ℕ) → parts.count ≡ 0 → Wrote number out out i i (each_part rule (node_expression file n))
    none_wrote number h = wrote_as number out out i i _ _ (p.none h rule) (wrote_nothing number out i)

-- The body's form of an expression: kept, or supplied.
module _ (scope : Scope) (e : Expression) (code : ℕ) where
  chosen : {A : Type 0} (b : Bool) (x y : A) → b ≡ not (eqb code 0) → (code ≡ 0 → cond b x y ≡ y) × ((code ≡ 0 → ⊥) → cond b x y ≡ x)
  chosen b x y h = ((λ z. rw (h, z)), (λ z. rw (h, ne_eqb code 0 z)))

  pub body_kept : SuppliedCode scope e code → code ≡ 0 → body_events scope always e ≡ each_part (body_events scope always) e
  body_kept s z = body_is scope always e ∙ (chosen (is_supplied scope e) _ _ s.test).0 z

  pub body_supplied : SuppliedCode scope e code → (code ≡ 0 → ⊥) → body_events scope always e ≡ supply_events always (supplied_for e) e (circuit_events scope always e)
  body_supplied s z = body_is scope always e ∙ (chosen (is_supplied scope e) _ _ s.test).1 z

  pub circuit_kept : ReadCode scope e code → code ≡ 0 → circuit_events scope always e ≡ each_part (circuit_events scope always) e
  circuit_kept s z = circuit_is scope always e ∙ (chosen (is_read scope e) _ _ s.test).0 z

  pub circuit_read : ReadCode scope e code → (code ≡ 0 → ⊥)
      → circuit_events scope always e ≡ read_events (owner_of scope e) e (each_part (body_events scope always) e)
  circuit_read s z = circuit_is scope always e ∙ (chosen (is_read scope e) _ _ s.test).1 z

-- Whom a variable is supplied for changes neither the room nor the numbers.
pub owner_room : (out : List ℕ) (i : ℕ) (o p : Owner) (e : Expression) (a : Events) → Room out i (supply_events always o e a) → Room out i (supply_events always p e a)
owner_room out i o p e a r = record { fits = omega (arith, r.fits, supply_count always o e a i, supply_count always p e a i) }

pub owner_ready : (file : List ℕ) (n : ℕ) (out : List ℕ) (i : ℕ) (o p : Owner) (e : Expression) (a : Events)
    → Ready file n out i (supply_events always o e a) → Ready file n out i (supply_events always p e a)
owner_ready file n out i o p e a r = record { inside = r.inside; room = owner_room out i o p e a r.room }

module _ (file arguments : List ℕ) (caller : ℕ) (live : Bool) (numbers : List ℕ) where
  pub owner_wrote : (before after : List ℕ) (i next : ℕ) (o p : Owner) (e : Expression) (a : Events)
      → Wrote (supplied_number file arguments caller live numbers) before after i next (supply_events always o e a)
      → Wrote (supplied_number file arguments caller live numbers) before after i next (supply_events always p e a)
  unfolding supplied_number
  owner_wrote before after i next o p e a w =
      record {
        same =
            w.same
            ∙ ap (λ (l : List Variable). stored before i (map (supplied_number file arguments caller live numbers) l)) (supply_variables always o e a i)
            ∙ ap (λ (l : List Variable). stored before i (map (supplied_number file arguments caller live numbers) l)) (sym (supply_variables always p e a i));
        end = omega (arith, w.end, supply_count always o e a i, supply_count always p e a i);
      }

  pub supplied_is : (o : Owner) (e : Expression) (value : ℕ) → value ≡ cond live (suc (value_of file arguments caller numbers e)) 0
      → value ≡ supplied_number file arguments caller live numbers (supplied o e)
  unfolding supplied_number
  supplied_is o e value h = h

  pub read_is : (o : Owner) (e : Expression) → 0 ≡ supplied_number file arguments caller live numbers (read_from o e)
  unfolding supplied_number
  read_is o e = refl

-- A value is supplied for a private place if it is public; else it follows the body rule.
pub placed_supply : (a b c : Events) (private public : Bool) → private ≡ true → public ≡ true → cond private (cond public a b) c ≡ a
placed_supply a b c private public h k = rw (h, k)

pub placed_body : (a b c : Events) (private public : Bool) → private ≡ true → public ≡ false → cond private (cond public a b) c ≡ b
placed_body a b c private public h k = rw (h, k)

pub placed_open : (file : List ℕ) (function_start n : ℕ) (private : Bool) → private ≡ false → placed_in file function_start n private ≡ body_in file function_start n
placed_open file function_start n private h = rw h

-- The events of putting a value into a place, told by its owner.
module _ (file : List ℕ) (function_start n : ℕ) where
  pub placed_ready : (out : List ℕ) (i : ℕ) (o : Owner) (private : Bool) → private ≡ not (is_everyone o)
      → Ready file n out i (place_events (scope_in file function_start) always o (node_expression file n))
      → Ready file n out i (placed_in file function_start n private)
  placed_ready out i everyone private h r = ready_as file n out i _ _ (rw h) r
  placed_ready out i (owned_by m) private h r =
      rw h (go (is_public (scope_in file function_start) (node_expression file n)) r)
    where
      go : (public : Bool) → Ready file n out i (cond public (supply_events always (owned_by m) (node_expression file n) (circuit_in file function_start n)) (body_in file function_start n))
          → Ready file n out i (cond public (supply_in file function_start n) (body_in file function_start n))
      go true r = owner_ready file n out i (owned_by m) (owned_by me_name) (node_expression file n) (circuit_in file function_start n) r
      go false r = r

  pub placed_wrote : (arguments : List ℕ) (caller : ℕ) (live : Bool) (numbers before after : List ℕ) (i next : ℕ) (o : Owner) (private : Bool) → private ≡ not (is_everyone o)
      → Wrote (supplied_number file arguments caller live numbers) before after i next (placed_in file function_start n private)
      → Wrote (supplied_number file arguments caller live numbers) before after i next (place_events (scope_in file function_start) always o (node_expression file n))
  placed_wrote arguments caller live numbers before after i next everyone private h w = rw h at w
  placed_wrote arguments caller live numbers before after i next (owned_by m) private h w =
      go (is_public (scope_in file function_start) (node_expression file n)) (rw h at w)
    where
      go : (public : Bool)
          → Wrote (supplied_number file arguments caller live numbers) before after i next (cond public (supply_in file function_start n) (body_in file function_start n))
          → Wrote (supplied_number file arguments caller live numbers) before after i next
          (cond public (supply_events always (owned_by m) (node_expression file n) (circuit_in file function_start n)) (body_in file function_start n))
      go true w =
          owner_wrote file arguments caller live numbers before after i next (owned_by me_name) (owned_by m) (node_expression file n) (circuit_in file function_start n) w
      go false w = w
