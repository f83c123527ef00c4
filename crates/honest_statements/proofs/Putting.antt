-- Numbers put one run behind another, and the space that they ask.
use Rattle.std.specs.Prelude.{◌≡◌, ◌∷◌, ◌+◌, ◌<◌}
use Rattle.kit.specs.Names.{refl, ap, sym, ◌∙◌, Bool, List, [], ℕ, suc, arith, add-one, length, length-append}
use Rattle.kit.specs.Names.{length-map}
use Rattle.memory_buffer.specs.Buffer.{stored}
use Rattle.memory_buffer.proofs.Storing.{stored_length, stored_nothing, stored_then}
use Rattle.rewrite_events.specs.Events.{Events, variables_of}
use Rattle.honest_supplies.specs.Supplies.{supplied_number, Room, Wrote}
use Rattle.honest_statements.specs.Honest.{Numbering, in_order, branch_numbers, numbers_for, Space, Put}

pub order_length : (a b : Numbering) (i : ℕ) → length (in_order a b i) ≡ length (a i) + length (b (i + length (a i)))
unfolding in_order
order_length a b i = length-append (a i) (b (i + length (a i)))

pub branch_length : (a : Numbering) (i : ℕ) → length (branch_numbers a i) ≡ suc (length (a (suc i)))
unfolding branch_numbers
branch_length a i = refl

pub put_length : (before after : List ℕ) (i next : ℕ) (a : Numbering) → Space before i a → Put before after i next a → length after ≡ length before
put_length before after i next a s p = ap length p.same ∙ stored_length before i (a i) s.fits

pub put_same : (before after : List ℕ) (i next : ℕ) (a b : Numbering) → a i ≡ b i → Put before after i next a → Put before after i next b
put_same before after i next a b e p = record { same = rw (← e) p.same; end = rw (← e) p.end }

pub space_same : (out : List ℕ) (i : ℕ) (a b : Numbering) → a i ≡ b i → Space out i a → Space out i b
space_same out i a b e s = record { fits = rw (← e) s.fits }

pub put_nothing : (out : List ℕ) (i : ℕ) (a : Numbering) → a i ≡ [] → Put out out i i a
put_nothing out i a e = record { same = rw e (sym (stored_nothing out i)); end = rw e (omega arith) }

pub put_order : (one two three : List ℕ) (i j k : ℕ) (a b : Numbering) → Space one i (in_order a b) → Put one two i j a → Put two three j k b → Put one three i k (in_order a b)
unfolding in_order
put_order one two three i j k a b s p q =
    let size = order_length a b i in
    let fits = s.fits in
    let there : b j ≡ b (i + length (a i)) = ap b p.end in
    record {
      same =
          q.same ∙ ap (λ (l : List ℕ). stored two j l) there
          ∙ ap (λ (m : ℕ). stored two m (b (i + length (a i)))) p.end
          ∙ ap (λ (l : List ℕ). stored l (i + length (a i)) (b (i + length (a i)))) p.same
          ∙ stored_then one i (a i) (b (i + length (a i))) (omega arith);
      end = q.end ∙ (rw there (omega (arith, p.end)));
    }

pub put_branch : (one two three : List ℕ) (i k : ℕ) (a : Numbering) → Space one i (branch_numbers a) → two ≡ stored one i (0 ∷ []) → Put two three (i + 1) k a
    → Put one three i k (branch_numbers a)
unfolding branch_numbers
put_branch one two three i k a s h q =
    let fits = s.fits in
    let next : i + 1 ≡ suc i = add-one i in
    record {
      same =
          q.same ∙ ap (λ (m : ℕ). stored two (i + 1) (a m)) next ∙ ap (λ (l : List ℕ). stored l (i + 1) (a (suc i))) h
          ∙ stored_then one i (0 ∷ []) (a (suc i)) (omega arith);
      end = let z : k ≡ suc i + length (a (suc i)) = rw next at q.end in omega arith;
    }

pub space_first : (out : List ℕ) (i : ℕ) (a b : Numbering) → Space out i (in_order a b) → Space out i a
space_first out i a b s = record { fits = omega (arith, s.fits, order_length a b i) }

pub space_second : (out after : List ℕ) (i j : ℕ) (a b : Numbering) → Space out i (in_order a b) → Put out after i j a → Space after j b
space_second out after i j a b s p =
    let size = put_length out after i j a (space_first out i a b s) p in
    let count = order_length a b i in
    let fits = s.fits in
    record { fits = rw (p.end, size) (omega arith) }

pub space_guard : (out : List ℕ) (i : ℕ) (a : Numbering) → Space out i (branch_numbers a) → i < length out
space_guard out i a s = omega (arith, s.fits, branch_length a i)

pub space_branch : (out after : List ℕ) (i : ℕ) (a : Numbering) → Space out i (branch_numbers a) → after ≡ stored out i (0 ∷ []) → Space after (i + 1) a
space_branch out after i a s h =
    let count = branch_length a i in
    let fits = s.fits in
    let size : length after ≡ length out = ap length h ∙ stored_length out i (0 ∷ []) (omega arith) in
    record { fits = rw (add-one i, size) (omega arith) }

module _ (file : List ℕ) (function_start : ℕ) (arguments : List ℕ) (caller : ℕ) (events : Events) (live : Bool) (numbers : List ℕ) where
  pub events_put : (before after : List ℕ) (i next : ℕ) → Wrote (supplied_number file arguments caller live numbers) before after i next events
      → Put before after i next (numbers_for file function_start arguments caller events live numbers)
  unfolding numbers_for
  events_put before after i next w =
      record { same = w.same; end = omega (arith, w.end, length-map (variables_of (events i)) (supplied_number file arguments caller live numbers)) }

  pub events_room : (out : List ℕ) (i : ℕ) → Space out i (numbers_for file function_start arguments caller events live numbers) → Room out i events
  unfolding numbers_for
  events_room out i s = record { fits = omega (arith, s.fits, length-map (variables_of (events i)) (supplied_number file arguments caller live numbers)) }
