-- The constraints of private parameters as flat numbers, one behind another, and as the definitions' openings have them.
use Rattle.std.specs.Prelude.{◌≡◌, ◌∷◌, ◌++◌, ◌+◌, ◌*◌, ◌<◌, ◌≤◌}
use Rattle.kit.specs.Names.{refl, ap, sym, ◌∙◌, List, [], ℕ, zero, suc, arith, add-zero, zero-add}
use Rattle.kit.specs.Names.{length}
use Rattle.definitions.specs.Basics.{flat_map}
use Rattle.definitions.specs.Rewriting.{always, Constraint, openings, held_under, sizes, claim_trees}
use Rattle.memory_buffer.specs.Buffer.{stored}
use Rattle.memory_buffer.proofs.Storing.{stored_nothing}
use Rattle.write_nodes.proofs.TreeNodes.{run_then}
use Rattle.write_circuits.specs.Circuits.{four}
use Rattle.write_trees.specs.Numbers.{constraint_numbers}
use Rattle.walk_function_nodes.specs.Functions.{opening_numbers}

pub numbers_length : (i n : ℕ) → length (opening_numbers i n) ≡ 4 * n
unfolding opening_numbers
numbers_length i zero = refl
numbers_length i (suc n) = let e = numbers_length (suc i) n in omega arith

numbers_next : (i n : ℕ) → opening_numbers i n ++ four 0 (i + n) 1 65535 ≡ opening_numbers i (suc n)
unfolding opening_numbers
numbers_next i zero = rw add-zero
numbers_next i (suc n) =
    let e : i + suc n ≡ suc i + n = omega arith in
    rw e (ap (λ (l : List ℕ). four 0 i 1 65535 ++ l) (numbers_next (suc i) n))

-- So many openings are stored.
pub openings_none : (held : List ℕ) → held ≡ stored held 0 (opening_numbers 0 0)
unfolding opening_numbers
openings_none held = sym (stored_nothing held 0)

pub openings_next : (held between after : List ℕ) (i : ℕ) → 4 * i + 4 ≤ length held → between ≡ stored held 0 (opening_numbers 0 i)
    → after ≡ stored between (4 * i) (four 0 i 1 65535) → after ≡ stored held 0 (opening_numbers 0 (i + 1))
openings_next held between after i fits before here =
    let long = numbers_length 0 i in
    let e : i + 1 ≡ suc i = omega arith in
    let next : opening_numbers 0 i ++ four 0 i 1 65535 ≡ opening_numbers 0 (i + 1) = rw e (rw (zero-add i) at (numbers_next 0 i)) in
    run_then held between after (opening_numbers 0 i) (four 0 i 1 65535) 0 (4 * i) before here (omega arith) (omega arith)
    ∙ ap (stored held 0) next

pub openings_done : (held after : List ℕ) (i private : ℕ) → i ≤ private → (i < private → ⊥) → after ≡ stored held 0 (opening_numbers 0 i)
    → after ≡ stored held 0 (opening_numbers 0 private)
openings_done held after i private few done h = let e : i ≡ private = omega arith in rw e at h

-- The definitions' openings, by how many there are.
pub opening_numbers_law : (ks : List ℕ) (i n : ℕ) (later : List Constraint)
    → constraint_numbers n (held_under always (openings ks i).claims ++ later) ≡ opening_numbers i (length ks) ++ constraint_numbers n later
unfolding openings constraint_numbers opening_numbers sizes
opening_numbers_law [] i n later = refl
opening_numbers_law (k ∷ ks) i n later =
    let same : n + 0 ≡ n = omega arith in
    ap (λ (m : ℕ). four 0 i 1 65535 ++ constraint_numbers m (held_under always (openings ks (suc i)).claims ++ later)) same
    ∙ ap (λ (l : List ℕ). four 0 i 1 65535 ++ l) (opening_numbers_law ks (suc i) n later)

pub opening_trees : (ks : List ℕ) (i : ℕ) (later : List Constraint)
    → flat_map (λ c. claim_trees c.claim) (held_under always (openings ks i).claims ++ later) ≡ flat_map (λ c. claim_trees c.claim) later
unfolding openings flat_map
opening_trees [] i later = refl
opening_trees (k ∷ ks) i later = opening_trees ks (suc i) later

pub opening_claims_law : (ks : List ℕ) (i : ℕ) (later : List Constraint) → length (held_under always (openings ks i).claims ++ later) ≡ length ks + length later
unfolding openings
opening_claims_law [] i later = omega arith
opening_claims_law (k ∷ ks) i later = let e = opening_claims_law ks (suc i) later in omega arith
