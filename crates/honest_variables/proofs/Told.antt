-- What the owner codes of a log tell of its variables, where their owners are names that fit.
use Rattle.std.specs.Prelude.{◌≡◌, ◌∷◌, ◌++◌, ◌+◌, ◌<◌, ◌≤◌}
use Rattle.kit.specs.Names.{refl, ap, ap₂, sym, subst, ◌∙◌, Bool, true, false, not, false≢true, List, [], ℕ, zero, suc}
use Rattle.kit.specs.Names.{arith, ltb, length, get_or, replicate, get_or_eq_default, ltb-true, ltb-false}
use Rattle.definitions.specs.ContractFile.{DataType, boolean, address, Name, me_name, final_name, parameter_name, Owner, everyone, owned_by, to_everyone, Field, Expression, Scope, field_at, parameter_at, plain_field, is_final, same_type, is_of_type, owner_of_code, owner_code, Node}
use Rattle.definitions.specs.Numbers.{owner_fits}
use Rattle.definitions.specs.Rewriting.{Variable, supplied, read_from, guard, variable_owner, openings}
use Rattle.definitions.specs.Original.{position, reader_of}
use Rattle.definitions.specs.Ledger.{Content, plain, content_for}
use Rattle.theory_laws.proofs.TruthValues.{and_left}
use Rattle.theory_relations.specs.Acceptance.{FieldsFit}
use Rattle.theory_relations.specs.Environment.{Environment}
use Rattle.theory_typing.proofs.Basics.{address_below}
use Rattle.theory_typing.proofs.Places.{first_place}
use Rattle.theory_typing.proofs.Faults.{same_type_law}
use Rattle.theory_typing.proofs.Values.{place_typed}
use Rattle.theory_trees.specs.Trees.{expression_in}
use Rattle.rewrite_events.specs.Events.{Event, variables_of}
use Rattle.rewrite_log.specs.Entries.{supplied_entry, claimed_entry, read_entry, guard_entry, end_entry, Entries, no_entry, entry_then}
use Rattle.write_variables.specs.PerEntry.{per_entry}
use Rattle.honest_statements.specs.Honest.{contents_from}
use Rattle.walk_constraints.specs.Numbers.{HasCode}
use Rattle.walk_constraints.proofs.Numbers.{code_back}
use Rattle.honest_variables.specs.Variables.{code_of, contents_of_codes, NarrowReader}
use Rattle.honest_variables.proofs.Fitting.{EachOwned}

module _ (address_of : Name → ℕ) (call : ℕ) where
  -- The variables of some codes have the same contents.
  abbrev Told : List ℕ → List Variable → Type 0
  Told codes vs = (k : ℕ) (slots : List ℕ) → contents_of_codes address_of call k codes slots ≡ contents_from address_of call k vs slots

  one_told_law : (code : ℕ) (v : Variable) (codes : List ℕ) (vs : List Variable) → owner_of_code code ≡ variable_owner v → Told codes vs → Told (code ∷ codes) (v ∷ vs)
  unfolding contents_of_codes contents_from
  one_told_law code v codes vs e rest k [] = refl
  one_told_law code v codes vs e rest k (zero ∷ slots) = ap (λ (l : List Content). plain 0 ∷ l) (rest (suc k) slots)
  one_told_law code v codes vs e rest k (suc x ∷ slots) =
      ap₂ (λ (o : Owner) (l : List Content). content_for (reader_of address_of o) call (8 + k) x ∷ l) e (rest (suc k) slots)

  none_told : Told [] []
  unfolding contents_of_codes contents_from
  none_told k slots = refl

  pub openings_told : (ks : List ℕ) (i : ℕ) (codes : List ℕ) (vs : List Variable) → Told codes vs → Told (replicate (length ks) 1 ++ codes) ((openings ks i).variables ++ vs)
  unfolding openings
  openings_told [] i codes vs rest = rest
  openings_told (q ∷ ks) i codes vs rest =
      one_told_law 1 (read_from (owned_by me_name) (Expression.parameter q)) (replicate (length ks) 1 ++ codes) ((openings ks (suc i)).variables ++ vs) refl
      (openings_told ks (suc i) codes vs rest)

  module _ (scope : Scope) (few : length scope.fields ≤ 64) where
    final_below : (f : ℕ) → is_final (field_at scope.fields f).shape ≡ true → f < 64
    final_below f h = go (ltb f 64) refl
      where
        go : (low : Bool) → ltb f 64 ≡ low → f < 64
        go true e = ltb-true f 64 e
        go false e =
            let past : length scope.fields ≤ f = omega (arith, ltb-false f 64 e) in
            let missing : field_at scope.fields f ≡ record { shape = plain_field; type = boolean; owner = to_everyone } =
            get_or_eq_default scope.fields (record { shape = plain_field; type = boolean; owner = to_everyone }) past in
            absurd (false≢true (ap (λ (d : Field). is_final d.shape) (sym missing) ∙ h))

    has_code : (o : Owner) → owner_fits scope o ≡ true → HasCode o
    has_code everyone h = tt
    has_code (owned_by me_name) h = tt
    has_code (owned_by (final_name f)) h = final_below f h
    has_code (owned_by (parameter_name k)) h = tt

    back : (o : Owner) → owner_fits scope o ≡ true → owner_of_code (owner_code o) ≡ o
    back o h = code_back o (has_code o h)

    pub entries_told : (nodes : List Node) {events : List Event} {numbers : List ℕ} → Entries nodes events numbers → EachOwned scope (variables_of events)
        → Told (per_entry code_of numbers) (variables_of events)
    unfolding per_entry variables_of
    entries_told nodes no_entry h = none_told
    entries_told nodes (entry_then (supplied_entry i o n below) rest) h = one_told_law (owner_code o) (supplied o (expression_in nodes n)) _ _ (back o h.0) (entries_told nodes rest h.1)
    entries_told nodes (entry_then (claimed_entry g i o n below) rest) h = entries_told nodes rest h
    entries_told nodes (entry_then (read_entry s j o n below) rest) h = one_told_law (owner_code o) (read_from o (expression_in nodes n)) _ _ (back o h.0) (entries_told nodes rest h.1)
    entries_told nodes (entry_then (guard_entry i) rest) h = one_told_law 0 guard _ _ refl (entries_told nodes rest h.1)
    entries_told nodes (entry_then (end_entry i) rest) h = entries_told nodes rest h

    -- The addresses of all these owners are bytes.
    pub record EachNarrow (codes : List ℕ) : Type 0 where
      pub each : (k : ℕ) → NarrowReader (reader_of address_of (owner_of_code (get_or codes k 0)))

    none_narrow : EachNarrow []
    none_narrow = record { each = λ k. tt }

    one_narrow : (code : ℕ) (codes : List ℕ) → NarrowReader (reader_of address_of (owner_of_code code)) → EachNarrow codes → EachNarrow (code ∷ codes)
    one_narrow code codes h rest = record { each = here }
      where
        here : (k : ℕ) → NarrowReader (reader_of address_of (owner_of_code (get_or (code ∷ codes) k 0)))
        here zero = h
        here (suc k) = rest.each k

    module _ (values numbers : List ℕ) (fit : FieldsFit scope.fields) (env : Environment scope address_of values numbers) where
      below_sixteen : (a n : ℕ) → a ≡ n → is_of_type address a ≡ true → n < 256
      below_sixteen a n e h = omega (arith, address_below a h, e)

      pub owner_narrow : (o : Owner) → owner_fits scope o ≡ true → NarrowReader (reader_of address_of o)
      owner_narrow everyone h = tt
      owner_narrow (owned_by me_name) h = below_sixteen (address_of me_name) (address_of me_name) refl env.caller
      owner_narrow (owned_by (final_name f)) h =
          below_sixteen (get_or numbers (position scope.fields f 0) 0) (address_of (final_name f)) (env.finals f h)
          (subst (λ (t : DataType). is_of_type t (get_or numbers (position scope.fields f 0) 0) ≡ true) (fit.address f h)
          (place_typed scope address_of values numbers env f 0 (first_place (field_at scope.fields f))))
      owner_narrow (owned_by (parameter_name k)) h =
          below_sixteen (get_or values k 0) (address_of (parameter_name k)) (env.parameters k h)
          (subst (λ (t : DataType). is_of_type t (get_or values k 0) ≡ true)
          (same_type_law (parameter_at scope.parameters k).type address (and_left (same_type (parameter_at scope.parameters k).type address) (not (parameter_at scope.parameters k).private) h))
          (env.arguments k))

      code_narrow : (o : Owner) → owner_fits scope o ≡ true → NarrowReader (reader_of address_of (owner_of_code (owner_code o)))
      code_narrow o h = subst (λ (q : Owner). NarrowReader (reader_of address_of q)) (sym (back o h)) (owner_narrow o h)

      pub entries_narrow : (nodes : List Node) {events : List Event} {log : List ℕ} → Entries nodes events log → EachOwned scope (variables_of events) → EachNarrow (per_entry code_of log)
      unfolding per_entry variables_of
      entries_narrow nodes no_entry h = none_narrow
      entries_narrow nodes (entry_then (supplied_entry i o n below) rest) h = one_narrow (owner_code o) _ (code_narrow o h.0) (entries_narrow nodes rest h.1)
      entries_narrow nodes (entry_then (claimed_entry g i o n below) rest) h = entries_narrow nodes rest h
      entries_narrow nodes (entry_then (read_entry s j o n below) rest) h = one_narrow (owner_code o) _ (code_narrow o h.0) (entries_narrow nodes rest h.1)
      entries_narrow nodes (entry_then (guard_entry i) rest) h = one_narrow 0 _ tt (entries_narrow nodes rest h.1)
      entries_narrow nodes (entry_then (end_entry i) rest) h = entries_narrow nodes rest h

      pub openings_narrow : (private : ℕ) (codes : List ℕ) → EachNarrow codes → EachNarrow (replicate private 1 ++ codes)
      openings_narrow zero codes rest = rest
      openings_narrow (suc n) codes rest = one_narrow 1 (replicate n 1 ++ codes) (owner_narrow (owned_by me_name) refl) (openings_narrow n codes rest)
