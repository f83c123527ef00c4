-- Addresses that stand at their owner codes are those of the names in a call.
use Rattle.std.specs.Prelude.{◌≡◌, ◌+◌, ◌<◌, ◌≤◌}
use Rattle.kit.specs.Names.{refl, sym, Bool, true, false, List, ℕ, arith, ltb, length, get_or, get_or_eq_default}
use Rattle.kit.specs.Names.{ltb-true, ltb-false}
use Rattle.definitions.specs.ContractFile.{Name, me_name, final_name, parameter_name, Scope, field_at, plain_field, boolean, to_everyone}
use Rattle.definitions.specs.Original.{address_in}
use Rattle.ledger_circuits.specs.Circuits.{address_from}

module _ (scope : Scope) (caller : ℕ) (arguments places addresses : List ℕ) (few : length scope.fields ≤ 64) where
  abbrev named : Name → ℕ
  named = address_in scope caller arguments places

  no_final : (f : ℕ) → 64 ≤ f → named (final_name f) ≡ 0
  no_final f h =
      let past : field_at scope.fields f ≡ record { shape = plain_field; type = boolean; owner = to_everyone } =
      get_or_eq_default scope.fields (record { shape = plain_field; type = boolean; owner = to_everyone }) (omega arith) in
      rw past

  module _ (at_caller : get_or addresses 1 0 ≡ caller) (at_finals : (f : ℕ) → f < 64 → get_or addresses (16 + f) 0 ≡ named (final_name f))
      (at_parameters : (k : ℕ) → get_or addresses (128 + k) 0 ≡ named (parameter_name k)) where
    final_is : (f : ℕ) (low : Bool) → ltb f 64 ≡ low → address_from addresses (final_name f) ≡ named (final_name f)
    final_is f true e = rw e (at_finals f (ltb-true f 64 e))
    final_is f false e = rw e (sym (no_final f (ltb-false f 64 e)))

    pub address_is : (name : Name) → address_from addresses name ≡ named name
    address_is me_name = at_caller
    address_is (final_name f) = final_is f (ltb f 64) refl
    address_is (parameter_name k) = at_parameters k

    pub addresses_are_law : address_from addresses ≡ named
    addresses_are_law = λ i name. address_is name i
