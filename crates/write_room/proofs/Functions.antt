-- The bytes of written functions and of a written contract, from the sizes of the bodies that were rewritten.
use Rattle.std.specs.Prelude.{◌≡◌, ◌∷◌, ◌++◌, ◌+◌, ◌*◌, ◌-◌, ◌≤◌}
use Rattle.kit.specs.Names.{refl, ap, Bool, true, false, cond, List, [], map, ℕ, suc, arith, eqb}
use Rattle.kit.specs.Names.{length, length-append}
use Rattle.definitions.specs.Basics.{any, flat_map, two_bytes}
use Rattle.definitions.specs.ContractFile.{everyone, owned_by, Field, Parameter, Function, Contract, Scope, data_type_code}
use Rattle.definitions.specs.Rewriting.{Command, Variable, supplied, read_from, guard, Claim, equals, opens_for_caller, always, Constraint, WrittenFunction, private_parameters, openings, held_under, with_verify, rewrite_statement, rewrite_function, rewrite, size, body_tree, command_tree, claim_trees, function_trees, sizes, numbered_all, node_bytes, field_bytes, parameter_bytes, variable_bytes, key_of, each_once, guard_number, claim_bytes, constraint_bytes, function_bytes, functions_bytes, contract_bytes, contract_written, function_written, functions_written}
use Rattle.theory_laws.proofs.Lists.{four_lengths}
use Rattle.theory_laws.proofs.Written.{all_length, sizes_append}
use Rattle.theory_trees.specs.Sizes.{statement_size}
use Rattle.write_room.specs.Sizes.{bodies_size, parameters_size, command_size, steps_size, claim_weight, claims_weight, constraints_weight, passage_weight}
use Rattle.write_room.proofs.Pieces.{constraints_append, steps_before_law, held_weight, statement_light}

-- Lengths of lists put together from short ones.
flat_two : {A : Type 0} (f : A → List ℕ) → ((x : A) → length (f x) ≡ 2) → (xs : List A) → length (flat_map f xs) ≡ 2 * length xs
unfolding flat_map
flat_two f each [] = refl
flat_two f each (x ∷ xs) = let h = flat_two f each xs in let k = each x in omega (arith, length-append (f x) (flat_map f xs))

flat_three : {A : Type 0} (f : A → List ℕ) → ((x : A) → length (f x) ≡ 3) → (xs : List A) → length (flat_map f xs) ≡ 3 * length xs
unfolding flat_map
flat_three f each [] = refl
flat_three f each (x ∷ xs) = let h = flat_three f each xs in let k = each x in omega (arith, length-append (f x) (flat_map f xs))

flat_eight : {A : Type 0} (f : A → List ℕ) → ((x : A) → length (f x) ≡ 8) → (xs : List A) → length (flat_map f xs) ≡ 8 * length xs
unfolding flat_map
flat_eight f each [] = refl
flat_eight f each (x ∷ xs) = let h = flat_eight f each xs in let k = each x in omega (arith, length-append (f x) (flat_map f xs))

parameter_length : (p : Parameter) → length (parameter_bytes p) ≡ 2
parameter_length p = go p.private
  where
    go : (b : Bool) → length (cond b (3 ∷ 1 ∷ []) (data_type_code p.type ∷ 0 ∷ [])) ≡ 2
    go true = refl
    go false = refl

-- A list that may have one element more.
either_length : (b : Bool) (short long : List ℕ) (k n : ℕ) → length short ≤ n → length long ≤ n → length (cond b short (k ∷ long)) ≤ suc n
either_length true short long k n h g = omega arith
either_length false short long k n h g = omega arith

-- "each once": no more keys than variables.
once_length : (seen ks : List ℕ) → length (each_once seen ks) ≤ length ks
unfolding each_once
once_length seen [] = omega arith
once_length seen (k ∷ ks) = either_length (any (eqb k) seen) (each_once seen ks) (each_once (k ∷ seen) ks) k (length ks) (once_length seen ks) (once_length (k ∷ seen) ks)

key_length : (v : Variable) → length (key_of v) ≤ 1
key_length (supplied everyone e) = omega arith
key_length (supplied (owned_by n) e) = omega arith
key_length (read_from o e) = omega arith
key_length guard = omega arith

codes_length : (vs : List Variable) → length (flat_map key_of vs) ≤ length vs
unfolding flat_map
codes_length [] = omega arith
codes_length (v ∷ vs) = let h = codes_length vs in let k = key_length v in omega (arith, length-append (key_of v) (flat_map key_of vs))

keys_length : (vs : List Variable) → length (each_once [] (flat_map key_of vs)) ≤ length vs
keys_length vs = let h = once_length [] (flat_map key_of vs) in let k = codes_length vs in omega arith

-- A constraint takes six bytes of the heading, and its circuit's nodes.
claim_length : (n : ℕ) (c : Claim) → length (claim_bytes n c) ≡ 4
claim_length n (equals i o circuit) = refl
claim_length n (opens_for_caller i) = refl

claim_weight_law : (c : Claim) → 6 + 8 * sizes (claim_trees c) ≡ claim_weight c
unfolding claim_weight sizes
claim_weight_law (equals i o circuit) = omega arith
claim_weight_law (opens_for_caller i) = refl

constraint_weight : (n : ℕ) (cs : List Constraint) → length (constraint_bytes n cs) + 8 * sizes (flat_map (λ c. claim_trees c.claim) cs) ≡ constraints_weight cs
unfolding constraint_bytes flat_map constraints_weight sizes
constraint_weight n [] = refl
constraint_weight n (c ∷ cs) =
    let m = n + sizes (claim_trees c.claim) in
    let h = constraint_weight m cs in
    let k = claim_length n c.claim in
    let w = claim_weight_law c.claim in
    let a = length-append (two_bytes (guard_number c.guard) ++ claim_bytes n c.claim) (constraint_bytes m cs) in
    let b = length-append (two_bytes (guard_number c.guard)) (claim_bytes n c.claim) in
    let s = sizes_append (claim_trees c.claim) (flat_map (λ c. claim_trees c.claim) cs) in
    omega arith

eight_lengths : (a b c d e f g h : List ℕ)
    → length (a ++ b ++ c ++ d ++ e ++ f ++ g ++ h) ≡ length a + length b + length c + length d + length e + length f + length g + length h
eight_lengths a b c d e f g h = simp length-append

-- The whole of a written function: heading and nodes.
pub function_weight : (n : ℕ) (g : WrittenFunction)
    → length (function_bytes n g) + 8 * sizes (function_trees g) ≤ 9 + 2 * length g.parameters + 3 * length g.variables + constraints_weight g.constraints + 8 * command_size g.body
unfolding function_written sizes
function_weight n g =
    let p = flat_two parameter_bytes parameter_length g.parameters in
    let v = flat_two variable_bytes (λ x. refl) g.variables in
    let k = keys_length g.variables in
    let c = constraint_weight n g.constraints in
    let s = sizes_append (flat_map (λ c. claim_trees c.claim) g.constraints) (command_tree g.body ∷ []) in
    let whole =
    eight_lengths (length g.parameters ∷ flat_map parameter_bytes g.parameters) (two_bytes (length g.variables)) (flat_map variable_bytes g.variables)
    (two_bytes (length (each_once [] (flat_map key_of g.variables)))) (each_once [] (flat_map key_of g.variables)) (two_bytes (length g.constraints)) (constraint_bytes n g.constraints)
    (two_bytes (n + sizes (function_trees g) - 1)) in
    omega arith

-- Its heading alone.
constraints_length : (n : ℕ) (cs : List Constraint) → length (constraint_bytes n cs) ≡ 6 * length cs
unfolding constraint_bytes
constraints_length n [] = refl
constraints_length n (c ∷ cs) =
    let m = n + sizes (claim_trees c.claim) in
    let h = constraints_length m cs in
    let k = claim_length n c.claim in
    let a = length-append (two_bytes (guard_number c.guard) ++ claim_bytes n c.claim) (constraint_bytes m cs) in
    let b = length-append (two_bytes (guard_number c.guard)) (claim_bytes n c.claim) in
    omega arith

pub heading_length : (n : ℕ) (g : WrittenFunction)
    → length (function_bytes n g) ≤ 9 + 2 * length g.parameters + 3 * length g.variables + 6 * length g.constraints
unfolding function_written
heading_length n g =
    let p = flat_two parameter_bytes parameter_length g.parameters in
    let v = flat_two variable_bytes (λ x. refl) g.variables in
    let k = keys_length g.variables in
    let c = constraints_length n g.constraints in
    let whole =
    eight_lengths (length g.parameters ∷ flat_map parameter_bytes g.parameters) (two_bytes (length g.variables)) (flat_map variable_bytes g.variables)
    (two_bytes (length (each_once [] (flat_map key_of g.variables)))) (each_once [] (flat_map key_of g.variables)) (two_bytes (length g.constraints)) (constraint_bytes n g.constraints)
    (two_bytes (n + sizes (function_trees g) - 1)) in
    omega arith

-- One variable and one constraint for each private parameter.
pub openings_variables : (ks : List ℕ) (i : ℕ) → length (openings ks i).variables ≡ length ks
unfolding openings
openings_variables [] i = refl
openings_variables (k ∷ ks) i = ap suc (openings_variables ks (suc i))

pub openings_constraints : (ks : List ℕ) (i : ℕ) → length (held_under always (openings ks i).claims) ≡ length ks
unfolding openings
openings_constraints [] i = refl
openings_constraints (k ∷ ks) i = ap suc (openings_constraints ks (suc i))

pub record OpeningWeight (ks : List ℕ) (i : ℕ) : Type 0 where
  pub variables : length (openings ks i).variables ≡ length ks
  pub steps : steps_size (openings ks i).steps ≡ 3 * length ks
  pub claims : claims_weight (openings ks i).claims ≡ 6 * length ks

opening_weight : (ks : List ℕ) (i : ℕ) → OpeningWeight ks i
unfolding openings steps_size claims_weight claim_weight size body_tree
opening_weight [] i = record { variables = refl; steps = refl; claims = refl }
opening_weight (k ∷ ks) i = let h = opening_weight ks (suc i) in record { variables = omega arith; steps = omega arith; claims = omega arith }

pub private_length : (k : ℕ) (ps : List Parameter) → length (private_parameters k ps) ≤ length ps
unfolding private_parameters
private_length k [] = omega arith
private_length k (p ∷ ps) = go p.private (private_length (suc k) ps)
  where
    go : (b : Bool) → length (private_parameters (suc k) ps) ≤ length ps → length (cond b (k ∷ private_parameters (suc k) ps) (private_parameters (suc k) ps)) ≤ suc (length ps)
    go true h = omega arith
    go false h = omega arith

verify_size : (cs : List Constraint) (body : Command) → command_size (with_verify cs body) ≤ command_size body + 2
unfolding command_tree size
verify_size [] body = omega arith
verify_size (c ∷ cs) body = omega arith

module _ (fields : List Field) where
  pub rewritten_weight : (n : ℕ) (g : Function)
      → length (function_bytes n (rewrite_function fields g)) + 8 * sizes (function_trees (rewrite_function fields g)) ≤ 25 + 35 * length g.parameters + 64 * statement_size g.body
  unfolding rewrite_function passage_weight
  rewritten_weight n g =
      let ks = private_parameters 0 g.parameters in
      let opening = openings ks 0 in
      let i = length opening.variables in
      let scope : Scope = record { fields = fields; parameters = g.parameters } in
      let passage = rewrite_statement scope g.body always i in
      let constraints = held_under always opening.claims ++ passage.constraints in
      let whole = function_weight n (rewrite_function fields g) in
      let o = opening_weight ks 0 in
      let few_private = private_length 0 g.parameters in
      let body = (statement_light scope g.body).within always i in
      let v = length-append opening.variables passage.variables in
      let c = constraints_append (held_under always opening.claims) passage.constraints in
      let d = held_weight always opening.claims in
      let s = steps_before_law opening.steps (with_verify constraints passage.command) in
      let w = verify_size constraints passage.command in
      omega arith

  pub functions_weight : (n : ℕ) (gs : List Function)
      → length (functions_bytes n (map (rewrite_function fields) gs)) + 8 * sizes (flat_map function_trees (map (rewrite_function fields) gs))
      ≤ 25 * length gs + 35 * parameters_size gs + 64 * bodies_size gs
  unfolding functions_written flat_map bodies_size parameters_size sizes
  functions_weight n [] = omega arith
  functions_weight n (g ∷ gs) =
      let w = rewrite_function fields g in
      let ws = map (rewrite_function fields) gs in
      let m = n + sizes (function_trees w) in
      let h = functions_weight m gs in
      let k = rewritten_weight n g in
      let a = length-append (function_bytes n w) (functions_bytes m ws) in
      let s = sizes_append (function_trees w) (flat_map function_trees ws) in
      omega arith

pub contract_length : (c : Contract)
    → length (contract_bytes (rewrite c))
    ≤ 4 + 3 * length c.fields + 25 * length c.functions + 35 * parameters_size c.functions + 64 * bodies_size c.functions
unfolding contract_written rewrite
contract_length c =
    let gs = map (rewrite_function c.fields) c.functions in
    let trees = flat_map function_trees gs in
    let w = functions_weight c.fields 0 c.functions in
    let f = flat_three field_bytes (λ d. refl) c.fields in
    let a = all_length 0 trees in
    let b = flat_eight node_bytes (λ r. refl) (numbered_all 0 trees) in
    let whole =
    four_lengths (length c.fields ∷ flat_map field_bytes c.fields) (length gs ∷ functions_bytes 0 gs) (two_bytes (sizes trees)) (flat_map node_bytes (numbered_all 0 trees)) in
    omega arith
