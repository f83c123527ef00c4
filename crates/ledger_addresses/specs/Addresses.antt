-- The address that each owner code stands for in a call, what putting them down asks, and what it leaves.
use Rattle.std.specs.Prelude.{◌≡◌, ◌-◌, ◌≤◌}
use Rattle.kit.specs.Names.{cond, List, ℕ, eqb, length}
use Rattle.definitions.specs.ContractFile.{Name, final_name, parameter_name, byte_at, field_count, is_final_code, is_parameter_code}
use Rattle.definitions.specs.Original.{address_in}
use Rattle.file_accepted.specs.Context.{scope_in}
use Rattle.ledger_circuits.specs.Circuits.{address_from}

module _ (file : List ℕ) (function_start caller : ℕ) (arguments places : List ℕ) where
  -- The address of each name in a call of the function that begins at a place.
  abbrev pub named : Name → ℕ
  named = address_in (scope_in file function_start) caller arguments places

  -- "1 me (the caller), .. 16+f final field f (f 0 to 63), 128+k parameter k (k 0 to 7)"; other codes stand for none.
  unfoldable pub address_of_code : ℕ → ℕ
  address_of_code code =
      cond (eqb code 1) caller
      (cond (is_final_code code) (named (final_name (code - 16)))
      (cond (is_parameter_code code) (named (parameter_name (code - 128))) 0))

pub record FewNames (file : List ℕ) (function_start : ℕ) : Type 0 where
  pub few_fields : field_count file ≤ 64
  pub few_parameters : byte_at file function_start ≤ 8
  pub near_function : function_start ≤ 200000

pub record AddressRoom (file : List ℕ) (function_start : ℕ) (out : List ℕ) : Type 0 where
  pub names : FewNames file function_start
  pub room : length out ≡ 136

pub record Addressed (file : List ℕ) (function_start caller : ℕ) (arguments places out : List ℕ) : Type 0 where
  pub addresses : address_from out ≡ address_in (scope_in file function_start) caller arguments places
  pub room : length out ≡ 136
