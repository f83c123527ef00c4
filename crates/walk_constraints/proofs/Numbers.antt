-- A function's constraints, written to flat numbers beside their circuits' nodes, read back.
use Rattle.std.specs.Prelude.{◌≡◌, ◌∷◌, ◌++◌, ◌+◌, ◌-◌, ◌/◌, ◌<◌, ◌≤◌}
use Rattle.kit.specs.Names.{refl, ap, ap₂, sym, ◌∙◌, List, [], append_assoc, append-nil, ℕ, suc}
use Rattle.kit.specs.Names.{arith, add-zero, length, get_or, length-append, get_or-append-add, ne_eqb, lt-ltb, le-ltb, le-leb}
use Rattle.definitions.specs.Basics.{flat_map}
use Rattle.definitions.specs.ContractFile.{Owner, everyone, owned_by, me_name, final_name, parameter_name, NodeRecord, owner_of_code, owner_code}
use Rattle.definitions.specs.Rewriting.{Circuit, Claim, equals, opens_for_caller, Guard, always, under, Constraint, Tree, size, sizes, numbered, numbered_all, circuit_tree, claim_trees, guard_number}
use Rattle.write_trees.specs.Trees.{circuit_in}
use Rattle.write_trees.proofs.Numbering.{size_positive, numbered_length}
use Rattle.write_trees.proofs.RoundTrip.{circuit_is_back}
use Rattle.ledger_circuits.specs.Circuits.{guard_from, claim_from, constraint_from, constraints_at, constraints_from}
use Rattle.write_trees.specs.Numbers.{constraint_numbers}
use Rattle.walk_constraints.specs.Numbers.{HasCode, ClaimHasCode, AllHaveCodes, more}
use Rattle.write_trees.proofs.Numbers.{constraint_numbers_length}

pub code_back : (o : Owner) → HasCode o → owner_of_code (owner_code o) ≡ o
code_back everyone h = refl
code_back (owned_by me_name) h = refl
code_back (owned_by (final_name f)) h =
    let z : 16 + f ≡ 0 → ⊥ = λ e. omega arith in
    let o : 16 + f ≡ 1 → ⊥ = λ e. omega arith in
    let l : 16 ≤ 16 + f = omega arith in
    let k : 16 + f < 80 = omega arith in
    let e : 16 + f - 16 ≡ f = omega arith in
    rw (ne_eqb (16 + f) 0 z, ne_eqb (16 + f) 1 o, le-leb 16 (16 + f) l, lt-ltb (16 + f) 80 k, e)
code_back (owned_by (parameter_name k)) h =
    let z : 128 + k ≡ 0 → ⊥ = λ e. omega arith in
    let o : 128 + k ≡ 1 → ⊥ = λ e. omega arith in
    let l : 16 ≤ 128 + k = omega arith in
    let g : 80 ≤ 128 + k = omega arith in
    let e : 128 + k - 128 ≡ k = omega arith in
    rw (ne_eqb (128 + k) 0 z, ne_eqb (128 + k) 1 o, le-leb 16 (128 + k) l, le-ltb (128 + k) 80 g, e)

guard_back : (g : Guard) → guard_from (guard_number g) ≡ g
guard_back always = refl
guard_back (under i) =
    let z : 1 + i ≡ 0 → ⊥ = λ e. omega arith in
    let e : 1 + i - 1 ≡ i = omega arith in
    rw (ne_eqb (1 + i) 0 z, e)

claim_back : (nodes : List NodeRecord) (i : ℕ) (o : Owner) (circuit : Circuit) (root : ℕ) → HasCode o → root < 65535 → circuit_in nodes root ≡ circuit
    → claim_from nodes i (owner_code o) root ≡ equals i o circuit
claim_back nodes i o circuit root h k e =
    let z : root ≡ 65535 → ⊥ = λ q. omega arith in
    rw (ne_eqb root 65535 z, code_back o h, e)

-- The numbers of one constraint behind others.
module _ (nodes : List NodeRecord) (earlier later : List ℕ) (g i owner root : ℕ) where
  abbrev numbers : List ℕ
  numbers = earlier ++ ((g ∷ i ∷ owner ∷ root ∷ []) ++ later)

  number_behind : (k : ℕ) → get_or numbers (length earlier + k) 0 ≡ get_or ((g ∷ i ∷ owner ∷ root ∷ []) ++ later) k 0
  number_behind k = get_or-append-add earlier ((g ∷ i ∷ owner ∷ root ∷ []) ++ later) k 0

  one_back : (guard : Guard) (claim : Claim) → guard_from g ≡ guard → claim_from nodes i owner root ≡ claim
      → constraint_from nodes numbers (length earlier) ≡ record { guard = guard; claim = claim }
  one_back guard claim e k =
      let zeroth : get_or numbers (length earlier) 0 ≡ g = rw add-zero at (number_behind 0) in
      rw (zeroth, number_behind 1, number_behind 2, number_behind 3, e, k)

abbrev trees_of : List Constraint → List Tree
trees_of cs = flat_map (λ c. claim_trees c.claim) cs

module _ (nodes after : List NodeRecord) (later : List ℕ) where
  -- The constraints' numbers stand behind earlier ones, and their circuits' nodes behind as many nodes as their first number tells.
  abbrev Reads : ℕ → List Constraint → Type 0
  Reads n cs =
      (before : List NodeRecord) → nodes ≡ before ++ (numbered_all n (trees_of cs) ++ after) → length before ≡ n → n + sizes (trees_of cs) ≤ 65535
      → (earlier : List ℕ) (at : ℕ) → at ≡ length earlier → constraints_at nodes (length cs) (earlier ++ (constraint_numbers n cs ++ later)) at ≡ cs

  module _ (n : ℕ) (guard : Guard) (cs : List Constraint) (rest : (m : ℕ) → Reads m cs) where
    -- One constraint's numbers, then the others'.
    then_others : (i owner root m : ℕ) (claim : Claim) (before : List NodeRecord) → claim_from nodes i owner root ≡ claim
        → nodes ≡ before ++ (numbered_all m (trees_of cs) ++ after) → length before ≡ m → m + sizes (trees_of cs) ≤ 65535
        → (earlier : List ℕ) (at : ℕ) → at ≡ length earlier
        → constraints_at nodes (suc (length cs)) (earlier ++ (((guard_number guard ∷ i ∷ owner ∷ root ∷ []) ++ constraint_numbers m cs) ++ later)) at
        ≡ record { guard = guard; claim = claim } ∷ cs
    unfolding constraints_at
    then_others i owner root m claim before c e l k earlier at f =
        let four = guard_number guard ∷ i ∷ owner ∷ root ∷ [] in
        let others = constraint_numbers m cs in
        let whole : earlier ++ ((four ++ others) ++ later) ≡ earlier ++ (four ++ (others ++ later)) =
        ap (λ (q : List ℕ). earlier ++ q) (append_assoc four others later) in
        let next : at + 4 ≡ length (earlier ++ four) = rw (f, length-append) refl in
        ap₂ (λ (x : Constraint) (y : List Constraint). x ∷ y)
        (rw (whole, f) (one_back nodes earlier (others ++ later) (guard_number guard) i owner root guard claim (guard_back guard) c))
        (ap (λ (q : List ℕ). constraints_at nodes (length cs) q (at + 4)) (whole ∙ sym (append_assoc earlier four (others ++ later)))
        ∙ rest m before e l k (earlier ++ four) (at + 4) next)

    reads_next : (claim : Claim) → ClaimHasCode claim → Reads n (record { guard = guard; claim = claim } ∷ cs)
    unfolding constraint_numbers numbered_all sizes flat_map
    reads_next (opens_for_caller i) h before e l k earlier at f =
        let same : n + 0 ≡ n = omega arith in
        then_others i 1 65535 (n + 0) (opens_for_caller i) before refl (rw same e) (rw same l) (rw same k) earlier at f
    reads_next (equals i o circuit) h before e l k earlier at f =
        let t = circuit_tree circuit in
        let root = n + size t - 1 in
        let m = n + (size t + 0) in
        let p = size_positive t in
        let same : m ≡ n + size t = omega arith in
        let first : nodes ≡ before ++ (numbered n t ++ (numbered_all (n + size t) (trees_of cs) ++ after)) =
        e ∙ ap (λ (q : List NodeRecord). before ++ q) (append_assoc (numbered n t) (numbered_all (n + size t) (trees_of cs)) after) in
        let second : nodes ≡ (before ++ numbered n t) ++ (numbered_all m (trees_of cs) ++ after) =
        rw same (first ∙ sym (append_assoc before (numbered n t) (numbered_all (n + size t) (trees_of cs) ++ after))) in
        let back : circuit_in nodes root ≡ circuit =
        ap (λ (q : List NodeRecord). circuit_in q root) first
        ∙ (rw l at (circuit_is_back before (numbered_all (n + size t) (trees_of cs) ++ after) circuit)) in
        let there : length (before ++ numbered n t) ≡ m = rw (length-append, numbered_length t n, l, same) refl in
        then_others i (owner_code o) root m (equals i o circuit) (before ++ numbered n t) (claim_back nodes i o circuit root h (omega arith) back) second there
        (omega arith) earlier at f

  all_read : (cs : List Constraint) → AllHaveCodes cs → (n : ℕ) → Reads n cs
  unfolding constraints_at
  all_read [] h n = λ before e l k earlier at f. refl
  all_read (c ∷ cs) (more _ _ h hs) n = reads_next n c.guard cs (λ m. all_read cs hs m) c.claim h

-- "per function circuits, in constraint order": read back from the flat numbers and the table that holds the circuits' nodes.
pub constraints_back : (cs : List Constraint) → AllHaveCodes cs → (before after : List NodeRecord) → length before + sizes (trees_of cs) ≤ 65535
    → constraints_from (before ++ (numbered_all (length before) (trees_of cs) ++ after)) (constraint_numbers (length before) cs) ≡ cs
unfolding constraints_from
constraints_back cs h before after k =
    let n = length before in
    let nodes = before ++ (numbered_all n (trees_of cs) ++ after) in
    let l = constraint_numbers_length n cs in
    let count : length (constraint_numbers n cs) / 4 ≡ length cs = omega arith in
    rw count
    (ap (λ (q : List ℕ). constraints_at nodes (length cs) q 0) (sym (append-nil (constraint_numbers n cs)))
    ∙ all_read nodes after [] cs h n before refl refl k [] 0 refl)
