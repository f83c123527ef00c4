-- What the parameters and the log tell of a function's variables is what their origins tell.
use Rattle.std.specs.Prelude.{◌≡◌, ◌&&◌, ◌∷◌, ◌++◌, ◌+◌, ◌*◌}
use Rattle.kit.specs.Names.{refl, ap, ap₂, sym, ◌∙◌, Bool, false, List, [], map, ℕ, suc, arith, length}
use Rattle.kit.specs.Names.{drop, take, get_or, length-map, take_at, ne_eqb, lt-ltb}
use Rattle.definitions.specs.ContractFile.{boolean, me_name, final_name, parameter_name, Owner, everyone, owned_by, owner_code, type_of}
use Rattle.definitions.specs.Rewriting.{Variable, always, private_parameters, openings, rewrite_statement, rewrite_function}
use Rattle.definitions.specs.Original.{anyone, reader_of}
use Rattle.definitions.specs.Ledger.{Content, Form, all_fit}
use Rattle.theory_laws.proofs.Lists.{map-append}
use Rattle.theory_laws.proofs.Written.{opening_count}
use Rattle.theory_trees.specs.Trees.{expression_in, statement_in}
use Rattle.file_accepted.specs.Context.{Known, nodes_in, parameters_in, scope_in}
use Rattle.file_accepted.specs.Functions.{root_at}
use Rattle.rewrite_events.specs.Events.{Event, variables_of}
use Rattle.rewrite_events.proofs.Statements.{statement_made}
use Rattle.rewrite_log.specs.Entries.{Entries, no_entry, entry_then, supplied_entry, claimed_entry, read_entry, guard_entry, end_entry}
use Rattle.rewrite_log.proofs.FiveNumbers.{entries_length}
use Rattle.memory_buffer.specs.Buffer.{stored}
use Rattle.ledger_circuits.specs.Circuits.{address_from}
use Rattle.rewrite_event_owners.specs.Listed.{Listed, owners_listed}
use Rattle.rewrite_event_owners.proofs.Files.{owners_listed_law}
use Rattle.write_parameters.specs.Parameters.{private_count}
use Rattle.write_function_room.specs.Functions.{written_in, events_in, private_in}
use Rattle.ledger_18_forms.specs.Forms.{fits_or_zero, front_fits}
use Rattle.ledger_18_forms.proofs.FormSteps.{all_front}
use Rattle.ledger_18_variable.specs.Variables.{variable_form, opening_form, opening_forms, code_reader, logged_forms}

-- The address at an owner's code is the owner's.
reader_told : (addresses : List ℕ) (o : Owner) → Listed o → code_reader addresses (owner_code o) ≡ reader_of (address_from addresses) o
reader_told addresses everyone h = refl
reader_told addresses (owned_by me_name) h = refl
reader_told addresses (owned_by (final_name f)) h = rw (ne_eqb (16 + f) 0 (λ e. omega arith), lt-ltb f 64 h)
reader_told addresses (owned_by (parameter_name k)) h = rw (ne_eqb (128 + k) 0 (λ e. omega arith))

module _ (file : List ℕ) (at : ℕ) (addresses : List ℕ) where
  abbrev form_of_variable : Variable → Form
  form_of_variable = variable_form (scope_in file at) (address_from addresses)

  logged_told : {events : List Event} {numbers : List ℕ} → Entries (nodes_in file) events numbers → owners_listed events
      → logged_forms file at addresses numbers ≡ map form_of_variable (variables_of events)
  unfolding logged_forms variables_of owners_listed
  logged_told no_entry h = refl
  logged_told (entry_then (supplied_entry i o n below) rest) h =
      let reader = reader_told addresses o h.0 in
      let later = logged_told rest h.1 in
      λ t. record { type = type_of (scope_in file at) (expression_in (nodes_in file) n); reader = reader t } ∷ later t
  logged_told (entry_then (claimed_entry g i o n below) rest) h = logged_told rest h.1
  logged_told (entry_then (read_entry s j o n below) rest) h =
      let reader = reader_told addresses o h.0 in
      let later = logged_told rest h.1 in
      λ t. record { type = type_of (scope_in file at) (expression_in (nodes_in file) n); reader = reader t } ∷ later t
  logged_told (entry_then (guard_entry i) rest) h = ap (λ (l : List Form). record { type = boolean; reader = anyone } ∷ l) (logged_told rest h)
  logged_told (entry_then (end_entry i) rest) h = logged_told rest h

  abbrev private : List ℕ
  private = private_parameters 0 (parameters_in file at)

  opening_told : (ks : List ℕ) (i : ℕ) → map form_of_variable (openings ks i).variables ≡ map (opening_form (parameters_in file at) (get_or addresses 1 0)) ks
  unfolding openings type_of
  opening_told [] i = refl
  opening_told (k ∷ ks) i = ap (λ (l : List Form). opening_form (parameters_in file at) (get_or addresses 1 0) k ∷ l) (opening_told ks (suc i))

  private_is_law : length private ≡ private_in file at
  unfolding private_count parameters_in
  private_is_law = refl

  variables_are : (written_in file at).variables ≡ (openings private 0).variables ++ variables_of (events_in file at)
  unfolding rewrite_function
  variables_are =
      let body = statement_in (nodes_in file) (root_at file at) in
      ap (λ (i : ℕ). (openings private 0).variables ++ (rewrite_statement (scope_in file at) body always i).variables) (opening_count private 0 ∙ private_is_law)
      ∙ ap (λ (vs : List Variable). (openings private 0).variables ++ vs) (sym (statement_made (scope_in file at) body always (private_in file at)).variables)

  module _ (numbers : List ℕ) (entries : Entries (nodes_in file) (events_in file at) numbers) (context : Known file at) where
    forms_are : map form_of_variable (written_in file at).variables ≡ opening_forms (parameters_in file at) (get_or addresses 1 0) 0 ++ logged_forms file at addresses numbers
    forms_are =
        ap (map form_of_variable) variables_are ∙ map-append form_of_variable (openings private 0).variables (variables_of (events_in file at))
        ∙ ap₂ (λ (a b : List Form). a ++ b) (opening_told private 0) (sym (logged_told entries (owners_listed_law file at context (root_at file at) always (private_in file at))))

    -- The openings are tested, then the rest behind them.
    pub variables_split : (contents : List Content)
        → (front_fits fits_or_zero (opening_forms (parameters_in file at) (get_or addresses 1 0) 0) contents
        && all_fit fits_or_zero (logged_forms file at addresses numbers) (drop (private_in file at) contents))
        ≡ all_fit fits_or_zero (map form_of_variable (written_in file at).variables) contents
    variables_split contents =
        let own = opening_forms (parameters_in file at) (get_or addresses 1 0) 0 in
        let long : length own ≡ private_in file at = length-map private (opening_form (parameters_in file at) (get_or addresses 1 0)) ∙ private_is_law in
        ap (λ (n : ℕ). front_fits fits_or_zero own contents && all_fit fits_or_zero (logged_forms file at addresses numbers) (drop n contents)) (sym long)
        ∙ sym (all_front fits_or_zero own (logged_forms file at addresses numbers) contents)
        ∙ ap (λ (l : List Form). all_fit fits_or_zero l contents) (sym forms_are)

  -- The front alone can refuse: the variables are the openings and others.
  pub openings_refuse : (contents : List Content) (a : Bool) → a ≡ front_fits fits_or_zero (opening_forms (parameters_in file at) (get_or addresses 1 0) 0) contents → a ≡ false
      → false ≡ all_fit fits_or_zero (map form_of_variable (written_in file at).variables) contents
  openings_refuse contents a same t =
      let own = opening_forms (parameters_in file at) (get_or addresses 1 0) 0 in
      let rest = map form_of_variable (variables_of (events_in file at)) in
      ap (λ (b : Bool). b && all_fit fits_or_zero rest (drop (length own) contents)) (sym t ∙ same) ∙ sym (all_front fits_or_zero own rest contents)
      ∙ ap (λ (l : List Form). all_fit fits_or_zero l contents)
      (sym (ap (map form_of_variable) variables_are ∙ map-append form_of_variable (openings private 0).variables (variables_of (events_in file at)) ∙ ap (λ (l : List Form). l ++ rest) (opening_told private 0)))

-- The front of the log is the entries.
pub log_front : (file before after numbers : List ℕ) (events : List Event) (at : ℕ) → Entries (nodes_in file) events numbers → after ≡ stored before 0 numbers → at ≡ 0 + 5 * length events
    → take at after ≡ numbers
unfolding stored
log_front file before after numbers events at entries held next =
    let size : length numbers ≡ at = entries_length (nodes_in file) entries ∙ (omega arith) in
    rw held (take_at numbers (drop (0 + length numbers) before) at size)
