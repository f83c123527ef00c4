-- What a well-formed ledger and an accepted call give: contents that stand for their opened numbers, and the call's environment.
use Rattle.std.specs.Prelude.{◌≡◌, ◌&&◌, ◌||◌}
use Rattle.kit.specs.Names.{◌∙◌, subst, true, List, map, ℕ, length, get_or, length-map, eqb-true}
use Rattle.definitions.specs.Basics.{is_zero}
use Rattle.definitions.specs.ContractFile.{boolean, Field, field_at, function_at, scope_of, is_final, is_of_type, contract_in}
use Rattle.definitions.specs.Numbers.{check_number}
use Rattle.definitions.specs.Original.{final_address, place_readers}
use Rattle.definitions.specs.Ledger.{Ledger, plain_number, opened_number, is_before_calls, is_after_call, is_well_formed, fits, all_fit}
use Rattle.theory_laws.proofs.TruthValues.{and_left, and_right}
use Rattle.theory_relations.specs.Environment.{place_types}
use Rattle.theory_relations.specs.Acceptance.{FieldsFit, AcceptedBody}
use Rattle.theory_relations.specs.Standing.{AllStand}
use Rattle.theory_typing.proofs.Acceptance.{fields_fit, accepted}
use Rattle.theory_typing.proofs.Contents.{plain_readers, fitting_length, fitting_stand, fitting_typed, final_plain, forms_of}

module _ (l : Ledger) (well : is_well_formed l ≡ true) where
  abbrev fields_of : List Field
  fields_of = (contract_in l.file).fields

  abbrev opened : List ℕ
  opened = map opened_number l.places

  well_formed_first : (is_zero (check_number l.file) && (is_before_calls l || is_after_call l)) ≡ true
  unfolding is_well_formed
  well_formed_first = and_left (is_zero (check_number l.file) && (is_before_calls l || is_after_call l)) (all_fit fits (forms_of fields_of (map plain_number l.places)) l.places) well

  well_formed_places : all_fit fits (forms_of fields_of (map plain_number l.places)) l.places ≡ true
  unfolding is_well_formed
  well_formed_places = and_right (is_zero (check_number l.file) && (is_before_calls l || is_after_call l)) (all_fit fits (forms_of fields_of (map plain_number l.places)) l.places) well

  pub ledger_accepted : check_number l.file ≡ 0
  ledger_accepted =
      eqb-true (check_number l.file) 0 (and_left (is_zero (check_number l.file)) (is_before_calls l || is_after_call l) well_formed_first)

  pub ledger_fields_fit : FieldsFit (contract_in l.file).fields
  ledger_fields_fit = fields_fit l.file ledger_accepted

  pub ledger_body_accepted : (f : ℕ) → AcceptedBody (scope_of (contract_in l.file) f) (function_at (contract_in l.file).functions f).body
  ledger_body_accepted = accepted l.file ledger_accepted

  -- With the readers told from the plain numbers, as the ledger's own test has them.
  pub places_stand_plain : AllStand (place_readers (contract_in l.file).fields (map plain_number l.places)) l.places (map opened_number l.places)
  places_stand_plain = fitting_stand fields_of (map plain_number l.places) l.places well_formed_places

  pub ledger_readers : place_readers (contract_in l.file).fields (map plain_number l.places) ≡ place_readers (contract_in l.file).fields (map opened_number l.places)
  ledger_readers = plain_readers fields_of ledger_fields_fit (map plain_number l.places) l.places opened places_stand_plain

  -- With the readers told from the opened numbers, as the original has them.
  pub places_stand : AllStand (place_readers (contract_in l.file).fields (map opened_number l.places)) l.places (map opened_number l.places)
  places_stand = subst (λ readers. AllStand readers l.places opened) ledger_readers places_stand_plain

  pub ledger_final : (f : ℕ) → is_final (field_at (contract_in l.file).fields f).shape ≡ true
      → final_address (contract_in l.file).fields (map plain_number l.places) f ≡ final_address (contract_in l.file).fields (map opened_number l.places) f
  ledger_final = final_plain fields_of ledger_fields_fit (map plain_number l.places) l.places opened places_stand_plain

  pub ledger_numbers_typed : (p : ℕ) → is_of_type (get_or (place_types (contract_in l.file).fields) p boolean) (get_or (map opened_number l.places) p 0) ≡ true
  ledger_numbers_typed = fitting_typed fields_of (map plain_number l.places) l.places well_formed_places

  pub ledger_numbers_length : length (map opened_number l.places) ≡ length (place_types (contract_in l.file).fields)
  ledger_numbers_length = length-map l.places opened_number ∙ fitting_length fields_of (map plain_number l.places) l.places well_formed_places
