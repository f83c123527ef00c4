-- Writing the numbers of events that follow one another, and the room that it asks.
use Rattle.std.specs.Prelude.{◌≡◌, ◌∷◌, ◌++◌, ◌+◌, ◌<◌, ◌≤◌}
use Rattle.kit.specs.Names.{refl, ap, sym, ◌∙◌, List, [], map, map-append, ℕ, suc, arith, add-one, length}
use Rattle.kit.specs.Names.{length-append, length-map}
use Rattle.definitions.specs.ContractFile.{Owner, Expression}
use Rattle.definitions.specs.Rewriting.{Variable, supplied, read_from, Guard}
use Rattle.memory_buffer.specs.Buffer.{stored}
use Rattle.memory_buffer.proofs.Storing.{stored_length, stored_nothing, stored_then}
use Rattle.rewrite_events.specs.Events.{Event, Events, claimed_event, read_event, variables_of, variable_count, no_events, in_turn, supply_events, read_events}
use Rattle.rewrite_events.proofs.Appended.{variables_append}
use Rattle.honest_supplies.specs.Supplies.{Room, Wrote}

pub turn_variables : (a b : Events) (i : ℕ) → variables_of (in_turn a b i) ≡ variables_of (a i) ++ variables_of (b (i + variable_count (a i)))
unfolding in_turn
turn_variables a b i = variables_append (a i) (b (i + variable_count (a i)))

pub turn_count : (a b : Events) (i : ℕ) → variable_count (in_turn a b i) ≡ variable_count (a i) + variable_count (b (i + variable_count (a i)))
turn_count a b i = ap length (turn_variables a b i) ∙ length-append (variables_of (a i)) (variables_of (b (i + variable_count (a i))))

append_nothing : (l : List Variable) → l ++ [] ≡ l
append_nothing [] = refl
append_nothing (x ∷ l) = ap (λ (m : List Variable). x ∷ m) (append_nothing l)

pub supply_variables : (g : Guard) (o : Owner) (e : Expression) (a : Events) (i : ℕ) → variables_of (supply_events g o e a i) ≡ supplied o e ∷ variables_of (a (suc i))
unfolding supply_events variables_of
supply_variables g o e a i =
    ap (λ (l : List Variable). supplied o e ∷ l) (variables_append (a (suc i)) (claimed_event g i o e ∷ []) ∙ append_nothing (variables_of (a (suc i))))

pub read_variables : (o : Owner) (e : Expression) (a : Events) (i : ℕ) → variables_of (read_events o e a i) ≡ variables_of (a i) ++ (read_from o e ∷ [])
unfolding read_events variables_of
read_variables o e a i = variables_append (a i) (read_event i (i + variable_count (a i)) o e ∷ [])

pub supply_count : (g : Guard) (o : Owner) (e : Expression) (a : Events) (i : ℕ) → variable_count (supply_events g o e a i) ≡ suc (variable_count (a (suc i)))
supply_count g o e a i = ap length (supply_variables g o e a i)

pub read_count : (o : Owner) (e : Expression) (a : Events) (i : ℕ) → variable_count (read_events o e a i) ≡ variable_count (a i) + 1
read_count o e a i = ap length (read_variables o e a i) ∙ length-append (variables_of (a i)) (read_from o e ∷ [])

module _ (number : Variable → ℕ) where
  pub wrote_length : (before after : List ℕ) (i next : ℕ) (a : Events) → Room before i a → Wrote number before after i next a → length after ≡ length before
  wrote_length before after i next a room w =
      ap length w.same
      ∙ stored_length before i (map number (variables_of (a i))) (omega (arith, room.fits, length-map (variables_of (a i)) number))

  pub wrote_as : (before after : List ℕ) (i next : ℕ) (a b : Events) → b ≡ a → Wrote number before after i next a → Wrote number before after i next b
  wrote_as before after i next a b e w = rw e w

  pub wrote_nothing : (out : List ℕ) (i : ℕ) → Wrote number out out i i no_events
  unfolding no_events variables_of
  wrote_nothing out i = record { same = sym (stored_nothing out i); end = omega arith }

  two_stored : (one two three : List ℕ) (i j : ℕ) (first second : List Variable) → i + length first ≤ length one → j ≡ i + length first
      → two ≡ stored one i (map number first) → three ≡ stored two j (map number second) → three ≡ stored one i (map number (first ++ second))
  two_stored one two three i j first second room e h k =
      let sized = length-map first number in
      let at : j ≡ i + length (map number first) = omega arith in
      rw (k, h, at, map-append number first second) (stored_then one i (map number first) (map number second) (omega arith))

  pub wrote_turn : (one two three : List ℕ) (i j k : ℕ) (a b : Events) → Room one i (in_turn a b) → Wrote number one two i j a → Wrote number two three j k b
      → Wrote number one three i k (in_turn a b)
  wrote_turn one two three i j k a b room w v =
      let count = turn_count a b i in
      let fits = room.fits in
      let there : b j ≡ b (i + variable_count (a i)) = ap b w.end in
      record {
        same =
            rw (turn_variables a b i)
            (two_stored one two three i j (variables_of (a i)) (variables_of (b (i + variable_count (a i)))) (omega arith) w.end w.same
            (v.same ∙ ap (λ (l : List Event). stored two j (map number (variables_of l))) there));
        end = v.end ∙ (rw there (omega (arith, w.end)));
      }

  pub wrote_supply : (one two three : List ℕ) (i k value : ℕ) (g : Guard) (o : Owner) (e : Expression) (a : Events) → Room one i (supply_events g o e a)
      → two ≡ stored one i (value ∷ []) → value ≡ number (supplied o e) → Wrote number two three (i + 1) k a → Wrote number one three i k (supply_events g o e a)
  wrote_supply one two three i k value g o e a room h s v =
      let count = supply_count g o e a i in
      let fits = room.fits in
      let next : i + 1 ≡ suc i = add-one i in
      record {
        same =
            rw (supply_variables g o e a i)
            (two_stored one two three i (i + 1) (supplied o e ∷ []) (variables_of (a (suc i))) (omega arith) refl (rw (← s) h)
            (v.same ∙ ap (λ (m : ℕ). stored two (i + 1) (map number (variables_of (a m)))) next));
        end = let z : k ≡ suc i + variable_count (a (suc i)) = rw next at v.end in omega arith;
      }

  pub wrote_read : (one two three : List ℕ) (i j : ℕ) (o : Owner) (e : Expression) (a : Events) → Room one i (read_events o e a) → 0 ≡ number (read_from o e)
      → Wrote number one two i j a → three ≡ stored two j (0 ∷ []) → Wrote number one three i (j + 1) (read_events o e a)
  wrote_read one two three i j o e a room z w h =
      let count = read_count o e a i in
      let fits = room.fits in
      record {
        same =
            rw (read_variables o e a i)
            (two_stored one two three i j (variables_of (a i)) (read_from o e ∷ []) (omega arith) w.end w.same (rw (← z) h));
        end = omega (arith, w.end);
      }

-- The room for events that follow one another is room for each.
pub room_as : (out : List ℕ) (i : ℕ) (a b : Events) → b ≡ a → Room out i b → Room out i a
room_as out i a b e r = rw (← e) r

pub room_first : (out : List ℕ) (i : ℕ) (a b : Events) → Room out i (in_turn a b) → Room out i a
room_first out i a b r = record { fits = omega (arith, r.fits, turn_count a b i) }

pub room_second : (number : Variable → ℕ) (out after : List ℕ) (i j : ℕ) (a b : Events) → Room out i (in_turn a b) → Wrote number out after i j a → Room after j b
room_second number out after i j a b r w =
    let size = wrote_length number out after i j a (room_first out i a b r) w in
    let count = turn_count a b i in
    let fits = r.fits in
    record { fits = rw (w.end, size) (omega arith) }

pub room_slot : (g : Guard) (o : Owner) (e : Expression) (out : List ℕ) (i : ℕ) (a : Events) → Room out i (supply_events g o e a) → i < length out
room_slot g o e out i a r = omega (arith, r.fits, supply_count g o e a i)

pub room_circuit : (g : Guard) (o : Owner) (e : Expression) (out after : List ℕ) (i value : ℕ) (a : Events) → Room out i (supply_events g o e a)
    → after ≡ stored out i (value ∷ []) → Room after (i + 1) a
room_circuit g o e out after i value a r h =
    let count = supply_count g o e a i in
    let fits = r.fits in
    let size : length after ≡ length out = ap length h ∙ stored_length out i (value ∷ []) (omega arith) in
    record { fits = rw (add-one i, size) (omega arith) }

pub room_parts : (o : Owner) (e : Expression) (out : List ℕ) (i : ℕ) (a : Events) → Room out i (read_events o e a) → Room out i a
room_parts o e out i a r = record { fits = omega (arith, r.fits, read_count o e a i) }

pub room_read : (number : Variable → ℕ) (o : Owner) (e : Expression) (out after : List ℕ) (i j : ℕ) (a : Events) → Room out i (read_events o e a)
    → Wrote number out after i j a → j < length after
room_read number o e out after i j a r w =
    let size = wrote_length number out after i j a (room_parts o e out i a r) w in
    omega (arith, r.fits, read_count o e a i, w.end)
