-- What opening the private parameters makes, variable by variable, and that the definitions make the same.
use Rattle.std.specs.Prelude.{◌≡◌, ◌∷◌, ◌++◌, ◌+◌, ◌-◌, ◌<◌, ◌≤◌}
use Rattle.kit.specs.Names.{refl, ap, sym, ◌∙◌, List, [], ℕ, suc, arith, add-one, length}
use Rattle.definitions.specs.Basics.{flat_map, two_bytes}
use Rattle.definitions.specs.Rewriting.{always, Constraint, openings, held_under, sizes, variable_bytes, key_of, constraint_bytes}
use Rattle.memory_append.specs.Append.{Appended, Appending}
use Rattle.memory_append.proofs.Appending.{appended_then, appending_start, appending_same, appending_room, appending_next, appending_done}
use Rattle.write_parameters.specs.Parameters.{opening_variables, opening_claims}

-- The definitions' openings, by how many there are.
pub opening_variables_law : (ks : List ℕ) (i : ℕ) → flat_map variable_bytes (openings ks i).variables ≡ opening_variables (length ks)
unfolding flat_map openings opening_variables
opening_variables_law [] i = refl
opening_variables_law (k ∷ ks) i = ap (λ (l : List ℕ). 3 ∷ 1 ∷ l) (opening_variables_law ks (suc i))

pub opening_keys : (ks : List ℕ) (i : ℕ) → flat_map key_of (openings ks i).variables ≡ []
unfolding flat_map openings
opening_keys [] i = refl
opening_keys (k ∷ ks) i = opening_keys ks (suc i)

pub opening_claims_law : (ks : List ℕ) (i : ℕ) (later : List Constraint)
    → (n : ℕ) → constraint_bytes n (held_under always (openings ks i).claims ++ later) ≡ opening_claims i (length ks) ++ constraint_bytes n later
unfolding openings constraint_bytes opening_claims sizes
opening_claims_law [] i later n = refl
opening_claims_law (k ∷ ks) i later n =
    let same : n + 0 ≡ n = omega arith in
    ap (λ (m : ℕ). (two_bytes 0 ++ two_bytes i ++ two_bytes 65535) ++ constraint_bytes m (held_under always (openings ks (suc i)).claims ++ later)) same
    ∙ ap (λ (l : List ℕ). (two_bytes 0 ++ two_bytes i ++ two_bytes 65535) ++ l) (opening_claims_law ks (suc i) later n)

-- The loops.
variables_next : (left : ℕ) → 0 < left → opening_variables left ≡ (3 ∷ 1 ∷ []) ++ opening_variables (left - 1)
unfolding opening_variables
variables_next left h = let e : left ≡ suc (left - 1) = omega arith in ap opening_variables e

variables_none : (left : ℕ) → left ≡ 0 → opening_variables left ≡ []
unfolding opening_variables
variables_none left e = ap opening_variables e

module _ (held : List ℕ) (from count : ℕ) (fits : from + length (opening_variables count) ≤ length held) where
  module _ (now : List ℕ) (at left : ℕ) (some : 0 < left) (a : Appending held now from at (opening_variables count) (opening_variables left)) where
    pub pair_room : at + 2 ≤ length now
    pair_room = appending_room held from (opening_variables count) now (3 ∷ 1 ∷ []) (opening_variables left) (opening_variables (left - 1)) at (variables_next left some) a fits

    pub pair_appended : (between after : List ℕ) (middle end : ℕ) → Appended now between at (3 ∷ []) middle → Appended between after middle (1 ∷ []) end
        → Appending held after from end (opening_variables count) (opening_variables (left - 1))
    pair_appended between after middle end b c =
        let room = pair_room in
        appending_next held from (opening_variables count) now (3 ∷ 1 ∷ []) (opening_variables left) (opening_variables (left - 1)) at (variables_next left some) a fits after end
        (appended_then now at between after (3 ∷ []) (1 ∷ []) middle end b (omega arith) c)

  pub pairs_done : (now : List ℕ) (at left : ℕ) → left ≡ 0 → Appending held now from at (opening_variables count) (opening_variables left) → Appended held now from (opening_variables count) at
  pairs_done now at left e a = appending_done held from (opening_variables count) now (opening_variables left) at (variables_none left e) a

claims_next : (i left : ℕ) → 0 < left → opening_claims i left ≡ (two_bytes 0 ++ two_bytes i ++ two_bytes 65535) ++ opening_claims (i + 1) (left - 1)
unfolding opening_claims
claims_next i left h =
    let e : left ≡ suc (left - 1) = omega arith in
    ap (opening_claims i) e ∙ ap (λ (j : ℕ). (two_bytes 0 ++ two_bytes i ++ two_bytes 65535) ++ opening_claims j (left - 1)) (sym (add-one i))

claims_none : (i left : ℕ) → left ≡ 0 → opening_claims i left ≡ []
unfolding opening_claims
claims_none i left e = ap (opening_claims i) e

module _ (held : List ℕ) (from count : ℕ) (fits : from + length (opening_claims 0 count) ≤ length held) where
  module _ (now : List ℕ) (at i : ℕ) (some : i < count) (a : Appending held now from at (opening_claims 0 count) (opening_claims i (count - i))) where
    next : opening_claims i (count - i) ≡ (two_bytes 0 ++ two_bytes i ++ two_bytes 65535) ++ opening_claims (i + 1) (count - (i + 1))
    next =
        let e : count - i - 1 ≡ count - (i + 1) = omega arith in
        claims_next i (count - i) (omega arith) ∙ ap (λ (n : ℕ). (two_bytes 0 ++ two_bytes i ++ two_bytes 65535) ++ opening_claims (i + 1) n) e

    pub claim_room : at + 6 ≤ length now
    claim_room =
        appending_room held from (opening_claims 0 count) now (two_bytes 0 ++ two_bytes i ++ two_bytes 65535) (opening_claims i (count - i)) (opening_claims (i + 1) (count - (i + 1))) at next a fits

    pub claim_appended : (after : List ℕ) (end : ℕ) → Appended now after at (two_bytes 0 ++ two_bytes i ++ two_bytes 65535) end
        → Appending held after from end (opening_claims 0 count) (opening_claims (i + 1) (count - (i + 1)))
    claim_appended after end b =
        appending_next held from (opening_claims 0 count) now (two_bytes 0 ++ two_bytes i ++ two_bytes 65535) (opening_claims i (count - i)) (opening_claims (i + 1) (count - (i + 1))) at next a fits after end b

  pub claims_start : Appending held held from from (opening_claims 0 count) (opening_claims 0 (count - 0))
  claims_start =
      let e : count ≡ count - 0 = omega arith in
      appending_same held from (opening_claims 0 count) held (opening_claims 0 count) (opening_claims 0 (count - 0)) from (ap (opening_claims 0) e) (appending_start held from (opening_claims 0 count))

  pub claims_done : (now : List ℕ) (at i : ℕ) → count ≤ i → Appending held now from at (opening_claims 0 count) (opening_claims i (count - i)) → Appended held now from (opening_claims 0 count) at
  claims_done now at i h a = appending_done held from (opening_claims 0 count) now (opening_claims i (count - i)) at (claims_none i (count - i) (omega arith)) a
