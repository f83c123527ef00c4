-- Two taken calls that are alike for a party, on ledgers that it cannot tell apart, and that disclose the same to it, leave two such ledgers.
use Rattle.std.specs.Prelude.{◌≡◌, ◌||◌}
use Rattle.kit.specs.Names.{refl, ap, sym, ◌∙◌, subst, fun_ext, Bool, true, false, cond, not, List, ℕ, suc, eqb, length, get_or}
use Rattle.definitions.specs.ContractFile.{Name, me_name, final_name, parameter_name, Parameter, Scope, field_at, parameter_at, is_final, contract_in}
use Rattle.definitions.specs.Owners.{parameter_owner}
use Rattle.definitions.specs.Original.{position, final_address, Reader, anyone, may_read, reader_of, completes, disclosed_by}
use Rattle.definitions.specs.Ledger.{Ledger, State, content_at, state_after, function_of_ledger, call_number, ledger_after_call}
use Rattle.theory_relations.specs.Environment.{Environment}
use Rattle.theory_relations.specs.Standing.{Stands, AllStand, readers_of}
use Rattle.theory_relations.specs.Secrecy.{hidden, all_hidden, state_hidden, Agree, ArgumentsAgree}
use Rattle.theory_typing.proofs.Contents.{final_reader}
use Rattle.theory_typing.proofs.WellFormed.{ledger_body_accepted, places_stand}
use Rattle.theory_typing.proofs.CallEnvironment.{call_well_formed, argument_count, call_environment, call_places_stand}
use Rattle.theory_simulation.proofs.Call.{written, honest_start, honest_end}
use Rattle.theory_secrecy.proofs.HiddenWalk.{hidden_at, hidden_walk}
use Rattle.theory_secrecy.proofs.AlikeContents.{AlikeContents, alike_values}
use Rattle.theory_secrecy.proofs.Parameters.{alike_parameters, same_public_parameters}
use Rattle.theory_secrecy.proofs.TwoRuns.{same_completion, alike_variables}
use Rattle.theory_secrecy.proofs.Views.{AlikeLedgers, alike_agree}
use Rattle.theory_demands.proofs.HonestCall.{scope_of_call, body_of_call, opened_places, address_of_call, parameters_of_call, end_of_honest, completes_here, ledger_done, ledger_failed, fields_of_call, ledger_after}

-- A ledger with the file and the call number of another.
abbrev pub aligned : Ledger → Ledger → Ledger
aligned l m =
    record {
      file = l.file;
      call = l.call;
      function = m.function;
      caller = m.caller;
      outcome = m.outcome;
      parameters = m.parameters;
      variables = m.variables;
      places = m.places;
    }

module _ (party : ℕ) (l m : Ledger) (f c : ℕ) (a a' : List ℕ) (clear : call_number l f c a ≡ 0) (clear' : call_number (aligned l m) f c a' ≡ 0)
    (alike : AlikeContents party l.places m.places)
    (arguments : (k : ℕ) → not (parameter_at (function_of_ledger l f).parameters k).private || eqb c party ≡ true → get_or a k 0 ≡ get_or a' k 0) where
  abbrev l' : Ledger
  l' = aligned l m

  abbrev scope : Scope
  scope = scope_of_call l f c a

  abbrev address : Name → ℕ
  address = address_of_call l f c a

  -- A final is public, so the party sees it.
  final_agrees : (g : ℕ) → is_final (field_at scope.fields g).shape ≡ true
      → final_address scope.fields (opened_places l f c a) g ≡ final_address scope.fields (opened_places l' f c a') g
  final_agrees g final =
      let p = position scope.fields g 0 in
      let s = (places_stand l (call_well_formed l f c a clear)).each p in
      let s' = (places_stand l' (call_well_formed l' f c a' clear')).each p in
      let reader = final_reader scope.fields (fields_of_call l f c a clear) (opened_places l f c a) g final in
      let reader' = final_reader scope.fields (fields_of_call l f c a clear) (opened_places l' f c a') g final in
      let e : hidden party (content_at l.places p) ≡ hidden party (content_at m.places p) =
      sym (hidden_at party l.places p) ∙ ap (λ contents. content_at contents p) alike.equal ∙ hidden_at party m.places p in
      let t = subst (λ (r : Reader). Stands r (content_at l.places p) (get_or (opened_places l f c a) p 0)) reader s in
      let t' = subst (λ (r : Reader). Stands r (content_at m.places p) (get_or (opened_places l' f c a') p 0)) reader' s' in
      alike_values party anyone t.call t'.call t.index t'.index (get_or (opened_places l f c a) p 0) (get_or (opened_places l' f c a') p 0) refl
      (sym (ap (hidden party) t.is) ∙ e ∙ ap (hidden party) t'.is)

  pub same_names : address_of_call l f c a ≡ address_of_call l' f c a'
  same_names = fun_ext each
    where
      of_final : (b : Bool) (x y : ℕ) → (b ≡ true → x ≡ y) → cond b x 0 ≡ cond b y 0
      of_final true x y h = h refl
      of_final false x y h = refl

      of_parameter : (b : Bool) (x y : ℕ) → (not b || eqb c party ≡ true → x ≡ y) → cond b 0 x ≡ cond b 0 y
      of_parameter true x y h = refl
      of_parameter false x y h = h refl

      each : (n : Name) → address_of_call l f c a n ≡ address_of_call (aligned l m) f c a' n
      each me_name = refl
      each (final_name g) = of_final (is_final (field_at (contract_in l.file).fields g).shape) _ _ (final_agrees g)
      each (parameter_name k) = of_parameter (parameter_at (function_of_ledger l f).parameters k).private _ _ (arguments k)

  agree : Agree party address scope.fields (opened_places l f c a) (opened_places l' f c a')
  agree =
      alike_agree party address scope.fields l.places m.places (opened_places l f c a) (opened_places l' f c a') (call_places_stand l f c a clear)
      (subst (λ (names : Name → ℕ). AllStand (readers_of names scope.fields) m.places (opened_places l' f c a')) (sym same_names) (call_places_stand l' f c a' clear')) alike

  arguments_agree : ArgumentsAgree party address scope a a'
  arguments_agree = record { each = λ k. of_reader (parameter_at scope.parameters k) (get_or a k 0) (get_or a' k 0) (arguments k) }
    where
      of_reader : (p : Parameter) (x y : ℕ) → (not p.private || eqb c party ≡ true → x ≡ y) → may_read party (reader_of address (parameter_owner p)) ≡ true → x ≡ y
      of_reader p x y h may = by_owner p.private h may
        where
          by_owner : (b : Bool) → (not b || eqb c party ≡ true → x ≡ y)
              → may_read party (reader_of address (parameter_owner (record { type = p.type; private = b }))) ≡ true → x ≡ y
          by_owner true h may = h may
          by_owner false h may = h refl

  environment' : Environment scope address a' (opened_places l' f c a')
  environment' = subst (λ (names : Name → ℕ). Environment scope names a' (opened_places l' f c a')) (sym same_names) (call_environment l' f c a' clear')

  same_length : length a ≡ length a'
  same_length = argument_count l f c a clear ∙ sym (argument_count l' f c a' clear')

  module _ (disclosed : disclosed_by scope.fields address a party (opened_places l f c a) (body_of_call l f c a)
      ≡ disclosed_by scope.fields (address_of_call l' f c a') a' party (opened_places l' f c a') (body_of_call l f c a)) where
    disclosed_same : disclosed_by scope.fields address a party (opened_places l f c a) (body_of_call l f c a)
        ≡ disclosed_by scope.fields address a' party (opened_places l' f c a') (body_of_call l f c a)
    disclosed_same =
        disclosed ∙ ap (λ (names : Name → ℕ). disclosed_by scope.fields names a' party (opened_places l' f c a') (body_of_call l f c a)) (sym same_names)

    same_outcome : completes_here l f c a ≡ completes_here l' f c a'
    same_outcome =
        same_completion scope (body_of_call l f c a) address party a a' (opened_places l f c a) (opened_places l' f c a')
        (ledger_body_accepted l (call_well_formed l f c a clear) f) (call_environment l f c a clear) environment' agree arguments_agree disclosed_same
        ∙ ap (λ (names : Name → ℕ). completes scope.fields names a' (opened_places l' f c a') (body_of_call l f c a)) same_names

    parameters_alike : AlikeContents party (parameters_of_call l f c a) (parameters_of_call l' f c a')
    parameters_alike = alike_parameters party address scope c (suc l.call) a a' same_length arguments_agree refl

    -- The second run's last state, over given addresses.
    abbrev end_over : (Name → ℕ) → State
    end_over names = honest_end scope (body_of_call l f c a) names (suc l.call) a' (opened_places l' f c a') (parameters_of_call l' f c a') m.places

    -- The walk opens no cell, so states that look alike at the start look alike at the end.
    states_alike : completes_here l f c a ≡ true → state_hidden party (end_of_honest l f c a) ≡ state_hidden party (end_over address)
    states_alike is_complete =
        let start = honest_start scope (body_of_call l f c a) address (suc l.call) a (opened_places l f c a) (parameters_of_call l f c a) l.places in
        let start' = honest_start scope (body_of_call l f c a) address (suc l.call) a' (opened_places l' f c a') (parameters_of_call l' f c a') m.places in
        let body = (written scope (body_of_call l f c a) address (suc l.call) a (opened_places l f c a) (parameters_of_call l f c a) l.places).body in
        let variables =
        alike_variables scope (body_of_call l f c a) address party a a' (opened_places l f c a) (opened_places l' f c a')
        (ledger_body_accepted l (call_well_formed l f c a clear) f) (call_environment l f c a clear) environment' agree arguments_agree disclosed_same is_complete
        (suc l.call) in
        let starts : state_hidden party start ≡ state_hidden party start' = λ i. record { places = alike.equal i; variables = variables.equal i } in
        sym (hidden_walk address scope.fields party (parameters_of_call l f c a) start body)
        ∙ (λ i. state_after address scope.fields (parameters_alike.equal i) (starts i) body)
        ∙ hidden_walk address scope.fields party (parameters_of_call l' f c a') start' body

    done_alike : completes_here l f c a ≡ true → AlikeLedgers party (ledger_done l f c a) (ledger_done l' f c a')
    done_alike is_complete =
        let states = states_alike is_complete ∙ ap (λ (names : Name → ℕ). state_hidden party (end_over names)) same_names in
        record {
          call = refl;
          function = refl;
          caller = refl;
          outcome = refl;
          parameters = parameters_alike;
          variables = record { equal = ap (λ (s : State). s.variables) states };
          places = record { equal = ap (λ (s : State). s.places) states };
        }

    failed_alike : AlikeLedgers party (ledger_failed l f c a) (ledger_failed l' f c a')
    failed_alike =
        record {
          call = refl;
          function = refl;
          caller = refl;
          outcome = refl;
          parameters = record { equal = ap (all_hidden party) (same_public_parameters party address scope c (suc l.call) a a' same_length arguments_agree) };
          variables = record { equal = refl };
          places = alike;
        }

    pub alike_after : AlikeLedgers party (ledger_after_call l f c a) (ledger_after_call l' f c a')
    alike_after =
        subst (λ after. AlikeLedgers party after (ledger_after_call l' f c a')) (sym (ledger_after l f c a clear))
        (subst (λ after. AlikeLedgers party (cond (completes_here l f c a) (ledger_done l f c a) (ledger_failed l f c a)) after) (sym (ledger_after l' f c a' clear'))
        (subst (λ b. AlikeLedgers party (cond (completes_here l f c a) (ledger_done l f c a) (ledger_failed l f c a)) (cond b (ledger_done l' f c a') (ledger_failed l' f c a')))
        same_outcome (go (completes_here l f c a) refl)))
      where
        go : (b : Bool) → completes_here l f c a ≡ b
            → AlikeLedgers party (cond b (ledger_done l f c a) (ledger_failed l f c a)) (cond b (ledger_done (aligned l m) f c a') (ledger_failed (aligned l m) f c a'))
        go true e = done_alike e
        go false e = failed_alike
