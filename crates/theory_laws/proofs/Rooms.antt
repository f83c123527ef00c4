-- A length that is handed out where no sentence holds, the last being that the room is too short, stays inside the room.
use Rattle.std.specs.Prelude.{◌≡◌, ◌∷◌, ◌≤◌}
use Rattle.kit.specs.Names.{refl, Bool, true, false, cond, [], ℕ, zero, suc, arith, eqb, ltb, ltb-false, ne_eqb}
use Rattle.definitions.specs.Basics.{first_that_holds}
use Rattle.definitions.specs.Numbers.{or_else}

-- The number that goes before, the number of a room that is too short, the room, the length.
pub within_room : (own number room long : ℕ) → cond (eqb (or_else own (first_that_holds (suc number) (ltb room long ∷ []))) 0) long 0 ≤ room
unfolding first_that_holds
within_room own number room long = go own (ltb room long) refl
  where
    none : (n : ℕ) → cond (eqb (suc n) 0) long 0 ≤ room
    none n = rw (ne_eqb (suc n) 0 (λ z. omega arith)) (omega arith)

    go : (n : ℕ) (short : Bool) → ltb room long ≡ short → cond (eqb (or_else n (cond short (suc number) 0)) 0) long 0 ≤ room
    go (suc n) short e = none n
    go zero true e = none number
    go zero false e = ltb-false room long e
