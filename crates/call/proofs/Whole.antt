-- What the struct after a call means, and that from deployment on the whole struct is told by its ledger.
use Rattle.std.specs.Prelude.{◌≡◌}
use Rattle.kit.specs.Names.{refl, ap, sym, ◌∙◌, Bool, true, false, cond, List, [], map, ℕ}
use Rattle.definitions.specs.Basics.{is_zero}
use Rattle.definitions.specs.Ledger as ledger
use Rattle.definitions.specs.ContractFile.{contract_in, scope_of}
use Rattle.definitions.specs.Original.{address_in}
use Rattle.definitions.specs.Rewriting.{rewrite_function}
use Rattle.definitions.specs.Ledger.{Content, State, plain_number, public_of, function_of_ledger, after_call, state_after, walk_completes}
use Rattle.definitions.specs.Ledger.{call_number, call_with, honest_parameters_of, honest_variables_of, ledger_after_call}
use Rattle.ledger_struct.specs.declared.Ledger as code
use Rattle.ledger_struct.specs.Ledgers.{ledger_of}
use Rattle.ledger_struct.specs.Whole.{struct_of, laid_over}
use Rattle.ledger_struct.proofs.Meaning.{laid, struct_kept}
use Rattle.call.specs.declared.Called.{Called}
use Rattle.call.specs.Calls.{struct_after_call, CalledOn}
use Rattle.call.proofs.Answers.{struct_by_number, refused_ledger}

-- A call leaves the file, and the places where it fails.
abbrev Leaves : ledger.Ledger → ledger.Ledger → Type 0
Leaves before after = (after.file ≡ before.file) × (is_zero after.outcome ≡ false → after.places ≡ before.places)

either_leaves : (before : ledger.Ledger) (b : Bool) (p q : ledger.Ledger) → Leaves before p → Leaves before q → Leaves before (cond b p q)
either_leaves before true p q first second = first
either_leaves before false p q first second = second

done_leaves : (before after : ledger.Ledger) → after.file ≡ before.file → is_zero after.outcome ≡ true → Leaves before after
done_leaves before after same done = (same, λ e. let other : ◌≡◌ {A = Bool} true false = sym done ∙ e in cc)

module _ (l : ledger.Ledger) (function caller : ℕ) where
  call_leaves : (parameters variables : List Content) → Leaves l (call_with l function caller parameters variables)
  unfolding call_with
  call_leaves parameters variables =
      let fields = (contract_in l.file).fields in
      let g = rewrite_function fields (function_of_ledger l function) in
      let address = address_in (scope_of (contract_in l.file) function) caller (map plain_number parameters) (map plain_number l.places) in
      let start : State = record { places = l.places; variables = variables } in
      let done = after_call l function caller 0 parameters (state_after address fields parameters start g.body) in
      let failed =
      after_call l function caller 1 (public_of (function_of_ledger l function).parameters parameters) (record { places = l.places; variables = [] }) in
      either_leaves l (walk_completes address fields parameters g.constraints start g.body) done failed (done_leaves l done refl refl) (refl, λ e. refl)

  leaves : (arguments : List ℕ) → Leaves l (ledger_after_call l function caller arguments)
  unfolding ledger_after_call
  leaves arguments =
      either_leaves l (is_zero (call_number l function caller arguments)) (call_with l function caller (honest_parameters_of l function caller arguments) (honest_variables_of l function caller arguments)) l
      (call_leaves (honest_parameters_of l function caller arguments) (honest_variables_of l function caller arguments)) (refl, λ e. refl)

module _ (l : code.Ledger) (function caller : ℕ) (arguments : List ℕ) where
  abbrev after : ledger.Ledger
  after = ledger_after_call (ledger_of l) function caller arguments

  -- The struct after a call means the ledger after it.
  pub after_means : ledger_of (struct_after_call l function caller arguments) ≡ after
  after_means = go (is_zero (call_number (ledger_of l) function caller arguments)) refl
    where
      go : (b : Bool) → is_zero (call_number (ledger_of l) function caller arguments) ≡ b → ledger_of (struct_after_call l function caller arguments) ≡ after
      go true e =
          let left = leaves (ledger_of l) function caller arguments in
          ap ledger_of (struct_by_number l function caller arguments true e) ∙ (laid l after left.0 left.1).means
      go false e = ap ledger_of (struct_by_number l function caller arguments false e) ∙ sym (refused_ledger l function caller arguments e)

  -- A struct that is told by its ledger stays one: nothing lies behind the counts but zeros.
  pub told_after : l ≡ struct_of (ledger_of l) → (r : Called) → CalledOn l function caller arguments r → r.ledger ≡ struct_of (ledger_of r.ledger)
  told_after told r on = go (is_zero (call_number (ledger_of l) function caller arguments)) refl
    where
      go : (b : Bool) → is_zero (call_number (ledger_of l) function caller arguments) ≡ b → r.ledger ≡ struct_of (ledger_of r.ledger)
      go true e =
          let left = leaves (ledger_of l) function caller arguments in
          on.whole ∙ struct_by_number l function caller arguments true e ∙ ap (λ (x : code.Ledger). laid_over x after) told
          ∙ struct_kept (ledger_of l) after left.0 left.1 ∙ ap struct_of (sym on.ledger)
      go false e =
          let same = on.whole ∙ struct_by_number l function caller arguments false e in
          same ∙ told ∙ ap (λ (x : code.Ledger). struct_of (ledger_of x)) (sym same)
