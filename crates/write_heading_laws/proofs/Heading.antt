-- A written function's heading and its crossings are what the file's parameters and the log of its body's events tell.
use Rattle.std.specs.Prelude.{◌≡◌, ◌∷◌, ◌++◌, ◌+◌, ◌-◌}
use Rattle.kit.specs.Names.{refl, ap, ap₂, sym, ◌∙◌, List, [], map, ℕ, zero, suc, arith, leb, length}
use Rattle.kit.specs.Names.{length-append, length-map}
use Rattle.definitions.specs.Basics.{count_if, flat_map}
use Rattle.definitions.specs.ContractFile.{Statement, Field, Parameter, Scope, parameter_records, parameter_of, Node}
use Rattle.definitions.specs.Reading.{parameters_read}
use Rattle.definitions.specs.Rewriting.{Variable, origin, always, Constraint, WrittenFunction, held_under, private_parameters, openings, rewrite_statement, rewrite_function, sizes, function_trees, variable_bytes, key_of, each_once, constraint_bytes, function_bytes, function_written}
use Rattle.theory_crossings.specs.Crossings.{crossings}
use Rattle.theory_laws.proofs.Lists.{flat_append, count_append}
use Rattle.theory_laws.proofs.Written.{claim_count, opening_count}
use Rattle.rewrite_events.specs.Events.{Event, variables_of, constraints_of, variable_count, statement_events}
use Rattle.rewrite_events.proofs.Statements.{statement_made}
use Rattle.rewrite_log.specs.Entries.{Entries}
use Rattle.write_variables.specs.PerEntry.{per_entry, count_tag}
use Rattle.write_variables.specs.Variables.{variable_of, key_code, owners_fit}
use Rattle.write_variables.proofs.Links.{variables_told, keys_told, claims_told, crossings_told}
use Rattle.write_parameters.specs.Parameters.{parameters_from, private_count, opening_variables, opening_claims}
use Rattle.write_parameters.proofs.Openings.{opening_variables_law, opening_keys, opening_claims_law}
use Rattle.write_heading_laws.specs.Heading.{heading_of, logged_heading}

records_length : (n : ℕ) (file : List ℕ) (at : ℕ) → length (parameter_records n file at) ≡ n
unfolding parameters_read
records_length zero file at = refl
records_length (suc n) file at = ap suc (records_length n file (at + 2))

-- A private parameter's read is a crossing.
opening_crossings : (ks : List ℕ) (i : ℕ) → count_if (λ v. leb (origin v) 3) (openings ks i).variables ≡ length ks
unfolding openings count_if
opening_crossings [] i = refl
opening_crossings (k ∷ ks) i = let h = opening_crossings ks (suc i) in omega arith

module _ (fields : List Field) (nodes : List Node) (file : List ℕ) (start count : ℕ) (body : Statement) where
  abbrev pub parameters : List Parameter
  parameters = map parameter_of (parameter_records count file start)

  abbrev pub scope : Scope
  scope = record { fields = fields; parameters = parameters }

  abbrev pub written : WrittenFunction
  written = rewrite_function fields (record { parameters = parameters; body = body })

  abbrev ks : List ℕ
  ks = private_parameters 0 parameters

  abbrev private : ℕ
  private = private_count count file start

  -- The events of the body, behind the reads of the private parameters.
  abbrev pub body_log : List Event
  body_log = statement_events scope body always (private_count count file start)

  private_is_law : length (openings ks 0).variables ≡ private
  unfolding private_count
  private_is_law = opening_count ks 0

  variables_are : written.variables ≡ (openings ks 0).variables ++ variables_of body_log
  unfolding rewrite_function
  variables_are =
      ap (λ (i : ℕ). (openings ks 0).variables ++ (rewrite_statement scope body always i).variables) private_is_law
      ∙ ap (λ (vs : List Variable). (openings ks 0).variables ++ vs) (sym (statement_made scope body always private).variables)

  constraints_are : written.constraints ≡ held_under always (openings ks 0).claims ++ constraints_of scope body_log
  unfolding rewrite_function
  constraints_are =
      ap (λ (i : ℕ). held_under always (openings ks 0).claims ++ (rewrite_statement scope body always i).constraints) private_is_law
      ∙ ap (λ (cs : List Constraint). held_under always (openings ks 0).claims ++ cs) (sym (statement_made scope body always private).constraints)

  module _ (numbers : List ℕ) (entries : Entries nodes body_log numbers) (fit : owners_fit body_log) where
    variable_bytes_law : flat_map variable_bytes written.variables ≡ opening_variables private ++ per_entry variable_of numbers
    unfolding private_count
    variable_bytes_law =
        ap (flat_map variable_bytes) variables_are ∙ flat_append variable_bytes (openings ks 0).variables (variables_of body_log)
        ∙ ap₂ (λ (a b : List ℕ). a ++ b) (opening_variables_law ks 0) (sym (variables_told nodes entries fit))

    key_bytes : each_once [] (flat_map key_of written.variables) ≡ each_once [] (per_entry key_code numbers)
    key_bytes =
        ap (each_once [])
        (ap (flat_map key_of) variables_are ∙ flat_append key_of (openings ks 0).variables (variables_of body_log)
        ∙ ap₂ (λ (a b : List ℕ). a ++ b) (opening_keys ks 0) (sym (keys_told nodes entries fit)))

    variables_counted : length written.variables ≡ private + variable_count body_log
    variables_counted =
        ap length variables_are ∙ length-append (openings ks 0).variables (variables_of body_log) ∙ ap (λ (n : ℕ). n + variable_count body_log) private_is_law

    constraints_counted : length written.constraints ≡ private + count_tag 1 numbers
    unfolding private_count
    constraints_counted =
        ap length constraints_are ∙ length-append (held_under always (openings ks 0).claims) (constraints_of scope body_log)
        ∙ ap₂ (λ (a b : ℕ). a + b) (claim_count ks 0) (sym (claims_told nodes scope entries))

    constraint_bytes_law : (n : ℕ) → constraint_bytes n written.constraints ≡ opening_claims 0 private ++ constraint_bytes n (constraints_of scope body_log)
    unfolding private_count
    constraint_bytes_law n = ap (constraint_bytes n) constraints_are ∙ opening_claims_law ks 0 (constraints_of scope body_log) n

    parameters_counted : length parameters ≡ count
    parameters_counted = length-map (parameter_records count file start) parameter_of ∙ records_length count file start

    pub heading_told : (n : ℕ)
        → function_bytes n written
        ≡ logged_heading file start count numbers (variable_count body_log) (constraint_bytes n (constraints_of scope body_log)) (n + sizes (function_trees written) - 1)
    unfolding function_written logged_heading parameters_from rewrite_function
    heading_told n = λ t.
        heading_of (parameters_counted t) (parameters_from count file start) (variables_counted t) (variable_bytes_law t) (length (key_bytes t)) (key_bytes t) (constraints_counted t)
        (constraint_bytes_law n t) (n + sizes (function_trees written) - 1)

    -- "count of variables with origins 0 to 3"
    pub crossings_counted : crossings written ≡ private + (count_tag 0 numbers + count_tag 2 numbers)
    unfolding private_count
    crossings_counted =
        ap (count_if (λ v. leb (origin v) 3)) variables_are ∙ count_append (λ v. leb (origin v) 3) (openings ks 0).variables (variables_of body_log)
        ∙ ap₂ (λ (a b : ℕ). a + b) (opening_crossings ks 0) (sym (crossings_told nodes entries))
