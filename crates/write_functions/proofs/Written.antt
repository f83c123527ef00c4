-- A written function's constraints and trees: its private parameters open for the caller, then come its body's claims and their circuits.
use Rattle.std.specs.Prelude.{◌≡◌, ◌∷◌, ◌++◌, ◌+◌}
use Rattle.kit.specs.Names.{refl, ap, ◌∙◌, List, [], ℕ, suc, arith, length, length-append}
use Rattle.definitions.specs.Basics.{flat_map}
use Rattle.definitions.specs.Rewriting.{always, Constraint, held_under, private_parameters, openings, Tree, size, sizes, command_tree, claim_trees, function_trees}
use Rattle.theory_laws.proofs.Written.{claim_count, opening_count, sizes_append}
use Rattle.theory_trees.specs.Trees.{statement_in}
use Rattle.file_accepted.specs.Context.{nodes_in, fields_in, parameters_in, scope_in}
use Rattle.file_accepted.specs.Functions.{root_at}
use Rattle.rewrite_events.specs.Events.{constraints_of, statement_events}
use Rattle.rewrite_events.proofs.Functions.{function_constraints}
use Rattle.write_parameters.specs.Parameters.{private_count}
use Rattle.write_function_room.specs.Functions.{function_in, written_in, private_in}
use Rattle.write_functions.specs.Writing.{constraints_in, circuits_in}

abbrev trees_in : List Constraint → List Tree
trees_in cs = flat_map (λ c. claim_trees c.claim) cs

-- What opens for the caller has no circuit.
opening_trees : (ks : List ℕ) (i : ℕ) (cs : List Constraint) → trees_in (held_under always (openings ks i).claims ++ cs) ≡ trees_in cs
unfolding openings flat_map
opening_trees [] i cs = refl
opening_trees (k ∷ ks) i cs = opening_trees ks (suc i) cs

module _ (file : List ℕ) (at : ℕ) where
  abbrev ks : List ℕ
  ks = private_parameters 0 (parameters_in file at)

  private_is_law : length ks ≡ private_in file at
  unfolding private_count parameters_in
  private_is_law = refl

  constraints_are : (written_in file at).constraints ≡ held_under always (openings ks 0).claims ++ constraints_in file at
  constraints_are =
      function_constraints (fields_in file) (function_in file at)
      ∙ ap (λ (i : ℕ). held_under always (openings ks 0).claims ++ constraints_of (scope_in file at) (statement_events (scope_in file at) (statement_in (nodes_in file) (root_at file at)) always i))
      (opening_count ks 0 ∙ private_is_law)

  pub constraints_counted : length (written_in file at).constraints ≡ private_in file at + length (constraints_in file at)
  constraints_counted =
      ap length constraints_are ∙ length-append (held_under always (openings ks 0).claims) (constraints_in file at)
      ∙ ap (λ (n : ℕ). n + length (constraints_in file at)) (claim_count ks 0 ∙ private_is_law)

  pub trees_are : function_trees (written_in file at) ≡ circuits_in file at ++ (command_tree (written_in file at).body ∷ [])
  trees_are = ap (λ (ts : List Tree). ts ++ (command_tree (written_in file at).body ∷ [])) (ap trees_in constraints_are ∙ opening_trees ks 0 (constraints_in file at))

  pub trees_counted : sizes (function_trees (written_in file at)) ≡ sizes (circuits_in file at) + size (command_tree (written_in file at).body)
  unfolding sizes
  trees_counted =
      let h = ap sizes trees_are ∙ sizes_append (circuits_in file at) (command_tree (written_in file at).body ∷ []) in
      omega arith
