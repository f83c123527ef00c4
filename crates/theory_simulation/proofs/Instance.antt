-- The theorem's conditions can be met: a call that moves a private argument into a private field of its caller.
use Rattle.std.specs.Prelude.{◌≡◌, ◌∷◌}
use Rattle.kit.specs.Names.{refl, true, false≢true, List, [], zip_with, ℕ, zero, suc, get_or}
use Rattle.definitions.specs.ContractFile.{DataType, boolean, uint, plain_field, final_field, Name, me_name, final_name, parameter_name, to_everyone, to_final, equal, me, field, parameter, operator, Statement, sequence, assign_field, require, Field, Scope, field_at, parameter_at, is_final, is_mapping, same_name, is_of_type, type_of}
use Rattle.definitions.specs.Owners.{is_public_address, name_of, owner_of, links_after, links_of_condition, with_link}
use Rattle.definitions.specs.Numbers.{is_tagged, expression_faults, statement_faults}
use Rattle.definitions.specs.Original.{per_place, numbers_from, position, only, value, is_worked_out, completes}
use Rattle.definitions.specs.Ledger.{Content, plain, content_for, honest_parameters}
use Rattle.theory_relations.specs.Acceptance.{FieldsFit, AcceptedBody, constants_fit, constants_fit_in}
use Rattle.theory_relations.specs.Environment.{Environment, place_types}
use Rattle.theory_relations.specs.Standing.{readers_of}
use Rattle.theory_simulation.proofs.Standing.{made_contents_stand}
use Rattle.theory_simulation.proofs.Parameters.{honest_parameters_stand}
use Rattle.theory_simulation.proofs.Call.{HonestCall, honest_call}

-- final owner; uint field of owner; f(private uint a): require me == owner; field := a.
abbrev owner_field : Field
owner_field = record { shape = final_field; type = DataType.address; owner = to_everyone }

abbrev private_field : Field
private_field = record { shape = plain_field; type = uint; owner = to_final 0 }

abbrev scope : Scope
scope = record { fields = owner_field ∷ private_field ∷ []; parameters = record { type = uint; private = true } ∷ [] }

abbrev body : Statement
body = sequence (require (operator equal me (field 0))) (assign_field 1 (parameter 0))

abbrev address_of : Name → ℕ
address_of me_name = 3
address_of (final_name f) = 3
address_of (parameter_name k) = 0

abbrev contents : List Content
contents = plain 3 ∷ content_for (only 3) 0 0 0 ∷ []

fields_fit : FieldsFit scope.fields
fields_fit = record { tagged = tagged; public = public; address = address; owners = owners }
  where
    tagged : (f : ℕ) → is_tagged (field_at scope.fields f).owner ≡ true → is_mapping (field_at scope.fields f).shape ≡ true
    tagged zero h = absurd (false≢true h)
    tagged (suc zero) h = absurd (false≢true h)
    tagged (suc (suc f)) h = absurd (false≢true h)

    public : (f : ℕ) → is_final (field_at scope.fields f).shape ≡ true → (field_at scope.fields f).owner ≡ to_everyone
    public zero h = refl
    public (suc zero) h = absurd (false≢true h)
    public (suc (suc f)) h = absurd (false≢true h)

    address : (f : ℕ) → is_final (field_at scope.fields f).shape ≡ true → (field_at scope.fields f).type ≡ DataType.address
    address zero h = refl
    address (suc zero) h = absurd (false≢true h)
    address (suc (suc f)) h = absurd (false≢true h)

    owners : (f g : ℕ) → (field_at scope.fields f).owner ≡ to_final g → is_final (field_at scope.fields g).shape ≡ true
    owners zero g h = cc
    owners (suc zero) g h = let e : g ≡ 0 = cc in rw e
    owners (suc (suc f)) g h = cc

accepted : AcceptedBody scope body
unfolding statement_faults expression_faults links_after links_of_condition name_of owner_of type_of with_link same_name constants_fit_in constants_fit
accepted = record { fields = fields_fit; faultless = refl; constants = refl }

environment : Environment scope address_of (7 ∷ []) (3 ∷ 0 ∷ [])
unfolding position per_place numbers_from
environment = record { caller = refl; finals = finals; parameters = parameters; arguments = arguments; places = places; extent = refl }
  where
    finals : (f : ℕ) → is_final (field_at scope.fields f).shape ≡ true
        → get_or (3 ∷ 0 ∷ []) (position scope.fields f 0) 0 ≡ address_of (final_name f)
    finals zero h = refl
    finals (suc zero) h = absurd (false≢true h)
    finals (suc (suc f)) h = absurd (false≢true h)

    parameters : (k : ℕ) → is_public_address (parameter_at scope.parameters k) ≡ true → get_or (7 ∷ []) k 0 ≡ address_of (parameter_name k)
    parameters zero h = absurd (false≢true h)
    parameters (suc k) h = absurd (false≢true h)

    arguments : (k : ℕ) → is_of_type (parameter_at scope.parameters k).type (get_or (7 ∷ []) k 0) ≡ true
    arguments zero = refl
    arguments (suc k) = refl

    places : (p : ℕ) → is_of_type (get_or (place_types scope.fields) p boolean) (get_or (3 ∷ 0 ∷ []) p 0) ≡ true
    places zero = refl
    places (suc zero) = refl
    places (suc (suc p)) = refl

instance_stands : HonestCall scope body address_of 1 (7 ∷ []) (3 ∷ 0 ∷ []) (honest_parameters 3 1 0 scope.parameters (7 ∷ [])) contents
unfolding per_place numbers_from zip_with
instance_stands =
    honest_call scope body address_of 1 (7 ∷ []) (3 ∷ 0 ∷ []) (honest_parameters 3 1 0 scope.parameters (7 ∷ [])) contents accepted environment
    (made_contents_stand (readers_of address_of scope.fields) (3 ∷ 0 ∷ []) refl) (honest_parameters_stand address_of 3 1 refl scope (7 ∷ []) refl)

-- The original completes, so the walk does, and its constraints hold.
instance_completes : completes scope.fields address_of (7 ∷ []) (3 ∷ 0 ∷ []) body ≡ true
unfolding completes is_worked_out value position
instance_completes = refl
