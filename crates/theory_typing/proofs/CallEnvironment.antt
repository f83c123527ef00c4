-- A call that is not refused: its environment, its parameters, and the address of each name as the walk and as the original have it.
use Rattle.std.specs.Prelude.{◌≡◌, ◌||◌, ◌∷◌, ◌+◌, ◌<◌, ◌≤◌}
use Rattle.kit.specs.Names.{refl, ap, sym, ◌∙◌, subst, fun_ext, Bool, true, false, cond, not, true≢false, List, [], map}
use Rattle.kit.specs.Names.{zip_with, ℕ, zero, suc, arith, eqb, leb, ltb, length, get_or, ltb-false, leb-false, lt-ltb}
use Rattle.kit.specs.Names.{eqb-true}
use Rattle.definitions.specs.Basics.{any}
use Rattle.definitions.specs.ContractFile.{address, Name, me_name, final_name, parameter_name, everyone, owned_by, Parameter, field_at, parameter_at, scope_of, same_type, is_final, is_of_type, contract_in}
use Rattle.definitions.specs.Owners.{is_public_address, parameter_owner}
use Rattle.definitions.specs.Original.{address_in, final_address, anyone, only, reader_of, place_readers}
use Rattle.definitions.specs.Ledger.{Ledger, plain_number, opened_number, content_for, content_at, is_well_formed, not_callable, arguments_off, function_of_ledger, call_number, honest_parameters, honest_parameters_of}
use Rattle.theory_laws.proofs.TruthValues.{and_right, not_false_true, or_left, or_right}
use Rattle.theory_relations.specs.Environment.{Environment}
use Rattle.theory_relations.specs.Standing.{Stands, AllStand, readers_of}
use Rattle.theory_typing.proofs.Basics.{not_true_false}
use Rattle.theory_accepted.proofs.Sentences.{none_holds}
use Rattle.theory_typing.proofs.Forms.{plain_at}
use Rattle.theory_typing.proofs.Contents.{readers_in_call}
use Rattle.theory_typing.proofs.WellFormed.{ledger_fields_fit, places_stand, ledger_final, ledger_numbers_typed, ledger_numbers_length}

-- As many arguments as parameters, each of its type.
arguments_typed : (ps : List Parameter) (vs : List ℕ) → length vs ≡ length ps → any not (zip_with (λ p v. is_of_type p.type v) ps vs) ≡ false
    → (k : ℕ) → is_of_type (parameter_at ps k).type (get_or vs k 0) ≡ true
unfolding any zip_with
arguments_typed [] [] e h k = refl
arguments_typed [] (v ∷ vs) e h k = absurd (omega arith)
arguments_typed (p ∷ ps) [] e h k = absurd (omega arith)
arguments_typed (p ∷ ps) (v ∷ vs) e h zero =
    not_false_true (is_of_type p.type v) (or_left (not (is_of_type p.type v)) (any not (zip_with (λ p v. is_of_type p.type v) ps vs)) h)
arguments_typed (p ∷ ps) (v ∷ vs) e h (suc k) =
    arguments_typed ps vs (omega arith) (or_right (not (is_of_type p.type v)) (any not (zip_with (λ p v. is_of_type p.type v) ps vs)) h) k

pub honest_parameter_at : (caller call n : ℕ) (ps : List Parameter) (vs : List ℕ) → length vs ≡ length ps → (k : ℕ) → k < length ps
    → content_at (honest_parameters caller call n ps vs) k ≡ content_for (cond (parameter_at ps k).private (only caller) anyone) call (n + k) (get_or vs k 0)
unfolding honest_parameters
honest_parameter_at caller call n [] vs e k h = absurd (omega arith)
honest_parameter_at caller call n (p ∷ ps) [] e k h = absurd (omega arith)
honest_parameter_at caller call n (p ∷ ps) (v ∷ vs) e zero h =
    let z : n ≡ n + 0 = omega arith in
    ap (λ i. content_for (cond p.private (only caller) anyone) call i v) z
honest_parameter_at caller call n (p ∷ ps) (v ∷ vs) e (suc k) h =
    let z : suc n + k ≡ n + suc k = omega arith in
    honest_parameter_at caller call (suc n) ps vs (omega arith) k (omega arith)
    ∙ ap (λ i. content_for (cond (parameter_at ps k).private (only caller) anyone) call i (get_or vs k 0)) z

owner_reader : (address_of : Name → ℕ) (caller : ℕ) (p : Parameter) → address_of me_name ≡ caller
    → cond p.private (only caller) anyone ≡ reader_of address_of (parameter_owner p)
owner_reader address_of caller p e = go p.private
  where
    go : (b : Bool) → cond b (only caller) anyone ≡ reader_of address_of (cond b (owned_by me_name) everyone)
    go true = ap only (sym e)
    go false = refl

pub parameter_length : (ps : List Parameter) (k : ℕ) → (parameter_at ps k).private ≡ false → k < length ps
parameter_length [] k h = absurd (true≢false h)
parameter_length (p ∷ ps) zero h = omega arith
parameter_length (p ∷ ps) (suc k) h = let r : k < length ps = parameter_length ps k h in omega arith

-- The address of each name as the original has it, and as the walk of the honest call has it.
abbrev pub original_address : Ledger → ℕ → ℕ → List ℕ → Name → ℕ
original_address l function caller arguments = address_in (scope_of (contract_in l.file) function) caller arguments (map opened_number l.places)

abbrev pub walk_address : Ledger → ℕ → ℕ → List ℕ → Name → ℕ
walk_address l function caller arguments =
    address_in (scope_of (contract_in l.file) function) caller (map plain_number (honest_parameters_of l function caller arguments)) (map plain_number l.places)

module _ (l : Ledger) (function caller : ℕ) (arguments : List ℕ) (clear : call_number l function caller arguments ≡ 0) where
  abbrev parameters : List Parameter
  parameters = (function_of_ledger l function).parameters

  no_sentence_of_call : (j : ℕ) → get_or (not_callable l function caller ∷ arguments_off l function caller arguments ∷ leb 65535 l.call ∷ []) j false ≡ false
  unfolding call_number
  no_sentence_of_call = none_holds 17 (not_callable l function caller ∷ arguments_off l function caller arguments ∷ leb 65535 l.call ∷ []) clear

  pub calls_left : l.call < 65535
  calls_left = leb-false 65535 l.call (no_sentence_of_call 2)

  callable : (not (is_well_formed l) || ltb 15 caller || leb (length (contract_in l.file).functions) function) ≡ false
  unfolding not_callable
  callable = no_sentence_of_call 0

  pub call_well_formed : is_well_formed l ≡ true
  call_well_formed =
      not_false_true (is_well_formed l)
      (or_left (not (is_well_formed l)) (ltb 15 caller)
      (or_left (not (is_well_formed l) || ltb 15 caller) (leb (length (contract_in l.file).functions) function) callable))

  pub caller_below : caller < 16
  caller_below =
      let b : caller ≤ 15 =
      ltb-false 15 caller
      (or_right (not (is_well_formed l)) (ltb 15 caller)
      (or_left (not (is_well_formed l) || ltb 15 caller) (leb (length (contract_in l.file).functions) function) callable)) in
      omega arith

  pub function_exists : function < length (contract_in l.file).functions
  function_exists =
      leb-false (length (contract_in l.file).functions) function
      (or_right (not (is_well_formed l) || ltb 15 caller) (leb (length (contract_in l.file).functions) function) callable)

  abbrev count_off : Bool
  count_off = not (eqb (length arguments) (length parameters))

  abbrev types_off : Bool
  types_off = any not (zip_with (λ p v. is_of_type p.type v) parameters arguments)

  arguments_fit : (count_off || types_off) ≡ false
  unfolding arguments_off
  arguments_fit = no_sentence_of_call 1

  pub argument_count : length arguments ≡ length (function_of_ledger l function).parameters
  argument_count = eqb-true (length arguments) (length parameters) (not_false_true (eqb (length arguments) (length parameters)) (or_left count_off types_off arguments_fit))

  pub argument_typed : (k : ℕ) → is_of_type (parameter_at (function_of_ledger l function).parameters k).type (get_or arguments k 0) ≡ true
  argument_typed = arguments_typed parameters arguments argument_count (or_right count_off types_off arguments_fit)

  -- The parameters that the honest call has stand for the arguments.
  pub honest_parameters_stand : (address_of : Name → ℕ) → address_of me_name ≡ caller → (k : ℕ) → k < length (function_of_ledger l function).parameters
      → Stands (reader_of address_of (parameter_owner (parameter_at (function_of_ledger l function).parameters k)))
      (content_at (honest_parameters_of l function caller arguments) k) (get_or arguments k 0)
  honest_parameters_stand address_of me k h =
      record {
        call = suc l.call;
        index = 0 + k;
        is =
            honest_parameter_at caller (suc l.call) 0 parameters arguments argument_count k h
            ∙ ap (λ r. content_for r (suc l.call) (0 + k) (get_or arguments k 0)) (owner_reader address_of caller (parameter_at parameters k) me);
      }

  public_parameter : (k : ℕ) → (parameter_at parameters k).private ≡ false
      → get_or (map plain_number (honest_parameters_of l function caller arguments)) k 0 ≡ get_or arguments k 0
  public_parameter k public =
      plain_at (honest_parameters_of l function caller arguments) k
      ∙ (ap plain_number (honest_parameter_at caller (suc l.call) 0 parameters arguments argument_count k (parameter_length parameters k public))
      ∙ ap (λ b. plain_number (content_for (cond b (only caller) anyone) (suc l.call) (0 + k) (get_or arguments k 0))) public)

  -- Both have the same address for each name.
  pub same_address : (n : Name) → walk_address l function caller arguments n ≡ original_address l function caller arguments n
  same_address me_name = refl
  same_address (final_name f) = go (is_final (field_at (contract_in l.file).fields f).shape) refl
    where
      go : (b : Bool) → is_final (field_at (contract_in l.file).fields f).shape ≡ b
          → cond b (final_address (contract_in l.file).fields (map plain_number l.places) f) 0
          ≡ cond b (final_address (contract_in l.file).fields (map opened_number l.places) f) 0
      go true e = ledger_final l call_well_formed f e
      go false e = refl
  same_address (parameter_name k) = go (parameter_at parameters k).private refl
    where
      go : (b : Bool) → (parameter_at parameters k).private ≡ b
          → cond b 0 (get_or (map plain_number (honest_parameters_of l function caller arguments)) k 0) ≡ cond b 0 (get_or arguments k 0)
      go true e = refl
      go false e = public_parameter k e

  pub same_addresses : walk_address l function caller arguments ≡ original_address l function caller arguments
  same_addresses = fun_ext same_address

  -- The readers that the call has for the places are those that the ledger's numbers give.
  pub call_readers : readers_of (original_address l function caller arguments) (contract_in l.file).fields ≡ place_readers (contract_in l.file).fields (map opened_number l.places)
  call_readers =
      readers_in_call (scope_of (contract_in l.file) function) (ledger_fields_fit l call_well_formed) caller arguments (map opened_number l.places)

  pub call_places_stand : AllStand (readers_of (original_address l function caller arguments) (contract_in l.file).fields) l.places (map opened_number l.places)
  call_places_stand = subst (λ readers. AllStand readers l.places (map opened_number l.places)) (sym call_readers) (places_stand l call_well_formed)

  -- An argument at a public address parameter is the name's address.
  public_argument : (k : ℕ) → is_public_address (parameter_at parameters k) ≡ true → get_or arguments k 0 ≡ original_address l function caller arguments (parameter_name k)
  public_argument k h =
      let open_to_all : (parameter_at parameters k).private ≡ false =
      not_true_false (parameter_at parameters k).private (and_right (same_type (parameter_at parameters k).type address) (not (parameter_at parameters k).private) h) in
      ap (λ b. cond b 0 (get_or arguments k 0)) (sym open_to_all)

  pub call_environment : Environment (scope_of (contract_in l.file) function) (original_address l function caller arguments) arguments (map opened_number l.places)
  call_environment =
      record {
        caller = lt-ltb caller 16 caller_below;
        finals = λ f final. ap (λ b. cond b (final_address (contract_in l.file).fields (map opened_number l.places) f) 0) (sym final);
        parameters = public_argument;
        arguments = argument_typed;
        places = ledger_numbers_typed l call_well_formed;
        extent = ledger_numbers_length l call_well_formed;
      }
