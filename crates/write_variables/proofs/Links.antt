-- What a log of events tells of a function's variables is what the definitions tell.
use Rattle.std.specs.Prelude.{◌≡◌, ◌∷◌, ◌++◌, ◌+◌, ◌%◌, ◌<◌}
use Rattle.kit.specs.Names.{refl, ap, ap₂, ◌∙◌, Bool, false, cond, List, [], ℕ, suc, arith, mod-eq_of_lt}
use Rattle.kit.specs.Names.{eqb, leb, length, ne_eqb}
use Rattle.definitions.specs.Basics.{count_if, flat_map}
use Rattle.definitions.specs.ContractFile.{Name, me_name, final_name, parameter_name, Owner, everyone, owned_by, Expression, Scope, owner_code, Node}
use Rattle.definitions.specs.Rewriting.{supplied, read_from, origin, variable_bytes, key_of}
use Rattle.theory_trees.specs.Trees.{expression_in}
use Rattle.rewrite_events.specs.Events.{Event, variables_of, constraints_of}
use Rattle.rewrite_log.specs.Entries.{supplied_entry, claimed_entry, read_entry, guard_entry, end_entry, Entries, no_entry, entry_then}
use Rattle.write_variables.specs.PerEntry.{per_entry, count_tag}
use Rattle.write_variables.specs.Variables.{origin_of, variable_of, key_code, owners_fit}

name_code_law : (n : Name) → eqb (owner_code (owned_by n)) 0 ≡ false
name_code_law me_name = refl
name_code_law (final_name f) = ne_eqb (16 + f) 0 (λ h. omega arith)
name_code_law (parameter_name k) = ne_eqb (128 + k) 0 (λ h. omega arith)

supplied_origin : (o : Owner) (e : Expression) → origin_of 0 (owner_code o) ≡ origin (supplied o e)
unfolding origin_of
supplied_origin everyone e = refl
supplied_origin (owned_by n) e = ap (λ (b : Bool). cond b 0 1) (name_code_law n)

read_origin : (o : Owner) (e : Expression) → origin_of 2 (owner_code o) ≡ origin (read_from o e)
unfolding origin_of
read_origin everyone e = refl
read_origin (owned_by n) e = ap (λ (b : Bool). cond b 2 3) (name_code_law n)

code_byte : (o : Owner) → owner_code o < 256 → owner_code o % 256 ≡ owner_code o
code_byte o h = mod-eq_of_lt h

supplied_key : (o : Owner) (e : Expression) → owner_code o < 256 → cond (eqb (owner_code o) 0) [] (owner_code o % 256 ∷ []) ≡ key_of (supplied o e)
supplied_key everyone e h = refl
supplied_key (owned_by n) e h =
    ap (λ (b : Bool). cond b [] (owner_code (owned_by n) % 256 ∷ [])) (name_code_law n) ∙ ap (λ (k : ℕ). k ∷ []) (code_byte (owned_by n) h)

module _ (nodes : List Node) where
  pub variables_told : {events : List Event} {numbers : List ℕ} → Entries nodes events numbers → owners_fit events
      → per_entry variable_of numbers ≡ flat_map variable_bytes (variables_of events)
  unfolding per_entry flat_map variables_of owners_fit origin_of
  variables_told no_entry h = refl
  variables_told (entry_then (supplied_entry i o n below) rest) h =
      let later = variables_told rest h.1 in
      let first = supplied_origin o (expression_in nodes n) in
      let second = code_byte o h.0 in
      λ t. first t ∷ second t ∷ later t
  variables_told (entry_then (claimed_entry g i o n below) rest) h = variables_told rest h
  variables_told (entry_then (read_entry s j o n below) rest) h =
      let later = variables_told rest h.1 in
      let first = read_origin o (expression_in nodes n) in
      let second = code_byte o h.0 in
      λ t. first t ∷ second t ∷ later t
  variables_told (entry_then (guard_entry i) rest) h = ap (λ (l : List ℕ). 4 ∷ 0 ∷ l) (variables_told rest h)
  variables_told (entry_then (end_entry i) rest) h = variables_told rest h

  pub keys_told : {events : List Event} {numbers : List ℕ} → Entries nodes events numbers → owners_fit events
      → per_entry key_code numbers ≡ flat_map key_of (variables_of events)
  unfolding per_entry flat_map variables_of owners_fit
  keys_told no_entry h = refl
  keys_told (entry_then (supplied_entry i o n below) rest) h =
      ap₂ (λ (a b : List ℕ). a ++ b) (supplied_key o (expression_in nodes n) h.0) (keys_told rest h.1)
  keys_told (entry_then (claimed_entry g i o n below) rest) h = keys_told rest h
  keys_told (entry_then (read_entry s j o n below) rest) h = keys_told rest h.1
  keys_told (entry_then (guard_entry i) rest) h = keys_told rest h
  keys_told (entry_then (end_entry i) rest) h = keys_told rest h

  pub claims_told : (scope : Scope) {events : List Event} {numbers : List ℕ} → Entries nodes events numbers → count_tag 1 numbers ≡ length (constraints_of scope events)
  unfolding per_entry constraints_of
  claims_told scope no_entry = refl
  claims_told scope (entry_then (supplied_entry i o n below) rest) = claims_told scope rest
  claims_told scope (entry_then (claimed_entry g i o n below) rest) = ap suc (claims_told scope rest)
  claims_told scope (entry_then (read_entry s j o n below) rest) = claims_told scope rest
  claims_told scope (entry_then (guard_entry i) rest) = claims_told scope rest
  claims_told scope (entry_then (end_entry i) rest) = claims_told scope rest

  supplied_crosses : (o : Owner) (e : Expression) → ◌≡◌ {A = ℕ} (cond (leb (origin (supplied o e)) 3) 1 0) 1
  supplied_crosses everyone e = refl
  supplied_crosses (owned_by n) e = refl

  read_crosses : (o : Owner) (e : Expression) → ◌≡◌ {A = ℕ} (cond (leb (origin (read_from o e)) 3) 1 0) 1
  read_crosses everyone e = refl
  read_crosses (owned_by n) e = refl

  -- "count of variables with origins 0 to 3"
  pub crossings_told : {events : List Event} {numbers : List ℕ} → Entries nodes events numbers
      → count_tag 0 numbers + count_tag 2 numbers ≡ count_if (λ v. leb (origin v) 3) (variables_of events)
  unfolding per_entry count_if variables_of
  crossings_told no_entry = refl
  crossings_told (entry_then (supplied_entry i o n below) rest) =
      let h = crossings_told rest in let k = supplied_crosses o (expression_in nodes n) in omega arith
  crossings_told (entry_then (claimed_entry g i o n below) rest) = crossings_told rest
  crossings_told (entry_then (read_entry s j o n below) rest) =
      let h = crossings_told rest in let k = read_crosses o (expression_in nodes n) in omega arith
  crossings_told (entry_then (guard_entry i) rest) = let h = crossings_told rest in omega arith
  crossings_told (entry_then (end_entry i) rest) = crossings_told rest
