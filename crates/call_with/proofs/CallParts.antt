-- A call with given parameters and supplied values, as code makes it of the function that begins at a place of the ledger's file.
use Rattle.std.specs.Prelude.{◌≡◌, ◌<◌}
use Rattle.kit.specs.Names.{refl, ap, sym, ◌∙◌, Bool, true, false, cond, List, [], map, ℕ}
use Rattle.definitions.specs.ContractFile.{Name, Function, function_at, function_count, contract_of, contract_in}
use Rattle.definitions.specs.Rewriting.{rewrite_function}
use Rattle.definitions.specs.Original.{address_in}
use Rattle.definitions.specs.Ledger.{Content, Ledger, State, plain_number, state_after, walk_completes, public_of, after_call, call_with}
use Rattle.file_accepted.specs.Context.{fields_in, parameters_in, scope_in}
use Rattle.file_accepted.specs.Functions.{function_start}
use Rattle.file_accepted.proofs.Functions.{function_in_law}
use Rattle.walk_steps.specs.Walk.{Ran}
use Rattle.write_function_room.specs.Functions.{function_in, written_in}

module _ (l : Ledger) (function caller : ℕ) (parameters variables : List Content) where
  -- The ledger after a call of one function of a file, on places and with addresses that are given.
  called_as : List ℕ → List Content → (Name → ℕ) → Function → Ledger
  called_as file places address g =
      let w = rewrite_function (fields_in file) g in
      let start : State = record { places = places; variables = variables } in
      cond (walk_completes address (fields_in file) parameters w.constraints start w.body)
      (after_call l function caller 0 parameters (state_after address (fields_in file) parameters start w.body))
      (after_call l function caller 1 (public_of g.parameters parameters) (record { places = l.places; variables = [] }))

  address_of : List ℕ → List Content → Function → Name → ℕ
  address_of file places g =
      address_in (record { fields = fields_in file; parameters = g.parameters }) caller (map plain_number parameters) (map plain_number places)

  whole : List ℕ → ℕ → List Content → Ledger
  whole file at places = called_as file places (address_of file places (function_in file at)) (function_in file at)

  call_as : let g = function_at (contract_in l.file).functions function in
      call_with l function caller parameters variables ≡ called_as l.file l.places (address_of l.file l.places g) g
  unfolding call_with fields_in contract_of called_as address_of
  call_as = refl

  call_whole : function < function_count l.file → call_with l function caller parameters variables ≡ whole l.file (function_start l.file function) l.places
  unfolding whole
  call_whole inside =
      call_as ∙ ap (λ (g : Function). called_as l.file l.places (address_of l.file l.places g) g) (function_in_law l.file function inside)

  -- The call as code finds it: the file, the function's place, the places and the addresses are known by equations.
  module _ (file : List ℕ) (at : ℕ) (places : List Content) (address : Name → ℕ) (inside : function < function_count l.file) (same : file ≡ l.file)
      (begins : at ≡ function_start file function) (stand : places ≡ l.places)
      (named : address ≡ address_in (scope_in file at) caller (map plain_number parameters) (map plain_number places)) where
    call_found : call_with l function caller parameters variables ≡ called_as file places address (function_in file at)
    unfolding whole address_of
    call_found =
        call_whole inside ∙ ap (λ (f : List ℕ). whole f (function_start f function) l.places) (sym same) ∙ ap (λ (a : ℕ). whole file a l.places) (sym begins)
        ∙ ap (whole file at) (sym stand) ∙ ap (λ (a : Name → ℕ). called_as file places a (function_in file at)) (sym named)

    module _ (r : Bool) (end : State)
        (ran : Ran (walk_completes address (fields_in file) parameters (written_in file at).constraints (record { places = places; variables = variables }) (written_in file at).body)
        (state_after address (fields_in file) parameters (record { places = places; variables = variables }) (written_in file at).body) end r) where
      pub call_done : r ≡ true → after_call l function caller 0 parameters end ≡ call_with l function caller parameters variables
      unfolding called_as
      call_done yes_it_is =
          ap (after_call l function caller 0 parameters) (ran.state yes_it_is) ∙ sym (call_found ∙ rw (sym ran.done ∙ yes_it_is))

      pub call_failed : r ≡ false → after_call l function caller 1 (public_of (parameters_in file at) parameters) (record { places = l.places; variables = [] })
          ≡ call_with l function caller parameters variables
      unfolding called_as
      call_failed not_done = sym (call_found ∙ rw (sym ran.done ∙ not_done))
