-- 02, Note 2: the origins in the written file, byte by byte, are those of the variables that rewriting makes, and so are their counts.
use Rattle.std.specs.Prelude.{◌≡◌, ◌∷◌, ◌++◌, ◌+◌, ◌*◌, ◌-◌, ◌≤◌}
use Rattle.kit.specs.Names.{refl, ap, ap₂, ◌∙◌, Bool, true, false, cond, List, [], map, append_assoc, ℕ}
use Rattle.kit.specs.Names.{arith, leb, length, length-append}
use Rattle.definitions.specs.Basics.{count_if, flat_map, two_bytes}
use Rattle.definitions.specs.ContractFile.{Field, Parameter, byte_at, two_bytes_at, functions_at}
use Rattle.definitions.specs.Rewriting.{Variable, origin, Claim, equals, opens_for_caller, Constraint, WrittenFunction, WrittenContract}
use Rattle.definitions.specs.Rewriting.{claim_trees, claim_bytes, sizes, numbered_all, node_bytes, function_trees, field_bytes, parameter_bytes, variable_bytes, key_of}
use Rattle.definitions.specs.Rewriting.{each_once, constraint_bytes, function_written, functions_written, contract_written, function_bytes, functions_bytes, contract_bytes}
use Rattle.definitions.specs.Crossings.{origins_at, up_to_three, variables_at, behind_counted, written_function_end, origins_from, origins_in, crossings_in}
use Rattle.theory_laws.proofs.Records.{force_is}
use Rattle.theory_crossings.specs.Crossings.{crossings}
use Rattle.theory_crossings.proofs.Places.{HoldsFrom, byte_read, two_read, behind_run}

-- Three bytes for a field, two for a parameter, two for a variable, six for a constraint.
fields_long : (ds : List Field) → length (flat_map field_bytes ds) ≡ 3 * length ds
unfolding flat_map
fields_long [] = refl
fields_long (d ∷ ds) = let h = fields_long ds in omega (arith, length-append (field_bytes d) (flat_map field_bytes ds))

parameter_long : (p : Parameter) → length (parameter_bytes p) ≡ 2
parameter_long p = go p.private refl
  where
    go : (b : Bool) → p.private ≡ b → length (parameter_bytes p) ≡ 2
    go true e = rw e refl
    go false e = rw e refl

parameters_long : (ps : List Parameter) → length (flat_map parameter_bytes ps) ≡ 2 * length ps
unfolding flat_map
parameters_long [] = refl
parameters_long (p ∷ ps) =
    let h = parameters_long ps in omega (arith, parameter_long p, length-append (parameter_bytes p) (flat_map parameter_bytes ps))

variables_long : (vs : List Variable) → length (flat_map variable_bytes vs) ≡ 2 * length vs
unfolding flat_map
variables_long [] = refl
variables_long (v ∷ vs) = let h = variables_long vs in omega (arith, length-append (variable_bytes v) (flat_map variable_bytes vs))

claim_long : (n : ℕ) (c : Claim) → length (claim_bytes n c) ≡ 4
claim_long n (equals i o circuit) = refl
claim_long n (opens_for_caller i) = refl

constraints_long : (n : ℕ) (cs : List Constraint) → length (constraint_bytes n cs) ≡ 6 * length cs
unfolding constraint_bytes
constraints_long n [] = refl
constraints_long n (c ∷ cs) =
    let h = constraints_long (n + sizes (claim_trees c.claim)) cs in
    simp length-append (omega (arith, claim_long n c.claim))

abbrev origins_of : WrittenFunction → List ℕ
origins_of g = map origin g.variables

-- The variables' origins, one after another.
origins_read : (file : List ℕ) (vs : List Variable) (at : ℕ) (rest : List ℕ) → HoldsFrom file at (flat_map variable_bytes vs ++ rest)
    → origins_at (length vs) file at ≡ map origin vs
unfolding origins_at flat_map
origins_read file [] at rest h = refl
origins_read file (v ∷ vs) at rest h =
    let later = flat_map variable_bytes vs ++ rest in
    ap₂ (λ (a : ℕ) (l : List ℕ). a ∷ l) (byte_read file at (origin v) _ h)
    (origins_read file vs (at + 2) rest (behind_run file at (variable_bytes v) later (at + 2) 2 h refl refl))

-- "Written per function: parameters; two-byte count of variables ..": one function's heading, from a place of the file on.
module _ (file : List ℕ) (at n : ℕ) (g : WrittenFunction) (rest : List ℕ) (held : HoldsFrom file at (function_bytes n g ++ rest))
    (few : length (function_bytes n g) ≤ 65535) where
  abbrev variables : ℕ
  variables = length g.variables

  abbrev keys : List ℕ
  keys = each_once [] (flat_map key_of g.variables)

  abbrev constraints : List ℕ
  constraints = constraint_bytes n g.constraints

  abbrev root : List ℕ
  root = two_bytes (n + sizes (function_trees g) - 1)

  -- What stands behind each part.
  abbrev behind_constraints : List ℕ
  behind_constraints = root ++ rest

  abbrev behind_keys : List ℕ
  behind_keys = two_bytes (length g.constraints) ++ (constraints ++ behind_constraints)

  abbrev behind_variables : List ℕ
  behind_variables = two_bytes (length keys) ++ (keys ++ behind_keys)

  abbrev behind_parameters : List ℕ
  behind_parameters = two_bytes variables ++ (flat_map variable_bytes g.variables ++ behind_variables)

  in_parts : HoldsFrom file at (length g.parameters ∷ (flat_map parameter_bytes g.parameters ++ behind_parameters))
  unfolding function_written
  in_parts = held ∙ simp append_assoc

  long : length (function_bytes n g) ≡ 1 + 2 * length g.parameters + 2 + 2 * variables + 2 + length keys + 2 + 6 * length g.constraints + 2
  unfolding function_written
  long = simp length-append
      (omega (arith, parameters_long g.parameters, variables_long g.variables, constraints_long n g.constraints))

  parameters_read_law : byte_at file at ≡ length g.parameters
  parameters_read_law = byte_read file at _ _ in_parts

  variables_here : HoldsFrom file (variables_at file at) behind_parameters
  variables_here =
      behind_run file at (length g.parameters ∷ flat_map parameter_bytes g.parameters) behind_parameters (variables_at file at) (1 + 2 * length g.parameters)
      in_parts (omega (arith, parameters_long g.parameters)) (omega (arith, parameters_read_law))

  variables_read : two_bytes_at file (variables_at file at) ≡ variables
  variables_read = two_read file (variables_at file at) variables _ (omega (arith, long)) variables_here

  first_variable : HoldsFrom file (variables_at file at + 2) (flat_map variable_bytes g.variables ++ behind_variables)
  first_variable = behind_run file (variables_at file at) (two_bytes variables) _ (variables_at file at + 2) 2 variables_here refl refl

  pub function_read_law : origins_at (two_bytes_at file (variables_at file at)) file (variables_at file at + 2) ≡ origins_of g
  function_read_law =
      ap (λ (k : ℕ). origins_at k file (variables_at file at + 2)) variables_read
      ∙ origins_read file g.variables (variables_at file at + 2) behind_variables first_variable

  -- Behind a count of two bytes and what it counts.
  counted_past : (place size count : ℕ) (run later : List ℕ) → HoldsFrom file place (two_bytes count ++ (run ++ later)) → length run ≡ size * count → count ≤ 65535
      → HoldsFrom file (behind_counted size file place) later
  counted_past place size count run later h l small =
      let read = two_read file place count (run ++ later) small h in
      let first = behind_run file place (two_bytes count) (run ++ later) (place + 2) 2 h refl refl in
      behind_run file (place + 2) run later (behind_counted size file place) (size * count) first l (ap (λ (k : ℕ). place + 2 + size * k) read)

  pub function_past : HoldsFrom file (written_function_end file at) rest
  unfolding written_function_end
  function_past =
      let keys_place = behind_counted 2 file (variables_at file at) in
      let constraints_place = behind_counted 1 file keys_place in
      let root_place = behind_counted 6 file constraints_place in
      let at_keys = counted_past (variables_at file at) 2 variables (flat_map variable_bytes g.variables) behind_variables variables_here (variables_long g.variables) (omega (arith, long)) in
      let at_constraints = counted_past keys_place 1 (length keys) keys behind_keys at_keys (omega arith) (omega (arith, long)) in
      let at_root = counted_past constraints_place 6 (length g.constraints) constraints behind_constraints at_constraints (constraints_long n g.constraints) (omega (arith, long)) in
      behind_run file root_place root rest (root_place + 2) 2 at_root refl refl

functions_read_law : (file : List ℕ) (gs : List WrittenFunction) (at n : ℕ) (rest : List ℕ) → HoldsFrom file at (functions_bytes n gs ++ rest)
    → length (functions_bytes n gs) ≤ 65535 → origins_from (length gs) file at ≡ map origins_of gs
unfolding functions_written origins_from
functions_read_law file [] at n rest held few = refl
functions_read_law file (g ∷ gs) at n rest held few =
    let first = function_bytes n g in
    let later = functions_bytes (n + sizes (function_trees g)) gs in
    let both = length-append first later in
    let here : HoldsFrom file at (first ++ (later ++ rest)) = held ∙ append_assoc first later rest in
    let short : length first ≤ 65535 = omega arith in
    let next = function_past file at n g (later ++ rest) here short in
    ap₂ (λ (a : List ℕ) (l : List (List ℕ)). a ∷ l) (function_read_law file at n g (later ++ rest) here short)
    (force_is (written_function_end file at) (origins_from (length gs) file)
    ∙ functions_read_law file gs (written_function_end file at) (n + sizes (function_trees g)) rest next (omega arith))

-- A count over origins is one over the variables that have them.
crossings_are : (vs : List Variable) → up_to_three (map origin vs) ≡ count_if (λ v. leb (origin v) 3) vs
unfolding count_if
crossings_are [] = refl
crossings_are (v ∷ vs) = ap (λ (k : ℕ). cond (leb (origin v) 3) 1 0 + k) (crossings_are vs)

each_counted : (gs : List WrittenFunction) → map up_to_three (map origins_of gs) ≡ map crossings gs
each_counted [] = refl
each_counted (g ∷ gs) = ap₂ (λ (a : ℕ) (l : List ℕ). a ∷ l) (crossings_are g.variables) (each_counted gs)

origins_are_read : (c : WrittenContract) → length (contract_bytes c) ≤ 65535 → origins_in (contract_bytes c) ≡ map origins_of c.functions
unfolding origins_in contract_written
origins_are_read c few =
    let file = contract_bytes c in
    let trees = flat_map function_trees c.functions in
    let nodes = two_bytes (sizes trees) ++ flat_map node_bytes (numbered_all 0 trees) in
    let functions = functions_bytes 0 c.functions in
    let whole : HoldsFrom file 0 (length c.fields ∷ (flat_map field_bytes c.fields ++ (length c.functions ∷ (functions ++ nodes)))) = simp append_assoc in
    let fields_read = byte_read file 0 (length c.fields) _ whole in
    let counted : HoldsFrom file (functions_at file) (length c.functions ∷ (functions ++ nodes)) =
    behind_run file 0 (length c.fields ∷ flat_map field_bytes c.fields) _ (functions_at file) (1 + 3 * length c.fields) whole
    (omega (arith, fields_long c.fields)) (omega (arith, fields_read)) in
    let functions_counted = byte_read file (functions_at file) (length c.functions) _ counted in
    let first = behind_run file (functions_at file) (length c.functions ∷ []) (functions ++ nodes) (functions_at file + 1) 1 counted refl refl in
    let long : length file ≡ 1 + 3 * length c.fields + 1 + length functions + length nodes = simp length-append (omega (arith, fields_long c.fields)) in
    ap (λ (k : ℕ). origins_from k file (functions_at file + 1)) functions_counted
    ∙ functions_read_law file c.functions (functions_at file + 1) 0 nodes first (omega arith)

-- The law: of a written file whose counts fit into their two bytes, as they do in one of at most 65,535 bytes.
pub counts_are_read : (c : WrittenContract) → length (contract_bytes c) ≤ 65535 → crossings_in (contract_bytes c) ≡ map crossings c.functions
unfolding crossings_in
counts_are_read c few = ap (map up_to_three) (origins_are_read c few) ∙ each_counted c.functions
