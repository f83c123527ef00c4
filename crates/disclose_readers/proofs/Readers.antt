-- Whether a party may read, by the code that a reveal names.
use Rattle.std.specs.Prelude.{◌≡◌}
use Rattle.kit.specs.Names.{ap, sym, ◌∙◌, Bool, true, List, ℕ, eqb}
use Rattle.definitions.specs.ContractFile.{owner_of_code}
use Rattle.definitions.specs.Original.{only, may_read, reader_of}
use Rattle.ledger_circuits.specs.Circuits.{address_from}

module _ (addresses : List ℕ) (code party : ℕ) where
  pub reads_everyone : code ≡ 0 → true ≡ may_read party (reader_of (address_from addresses) (owner_of_code code))
  reads_everyone e = rw e

  pub reads_named : (address : ℕ) (r : Bool) → reader_of (address_from addresses) (owner_of_code code) ≡ only address → r ≡ eqb address party
      → r ≡ may_read party (reader_of (address_from addresses) (owner_of_code code))
  reads_named address r named same = same ∙ sym (ap (may_read party) named)
