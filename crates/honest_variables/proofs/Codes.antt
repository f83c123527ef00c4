-- The address of an owner code, and the content of one variable.
use Rattle.std.specs.Prelude.{◌≡◌, ◌+◌, ◌-◌, ◌<◌, ◌≤◌}
use Rattle.kit.specs.Names.{refl, ap, ap₂, sym, subst, ◌∙◌, List, ℕ, zero, suc, arith, get_or, ne_eqb, lt-ltb}
use Rattle.kit.specs.Names.{le-ltb, le-leb, lt-leb}
use Rattle.definitions.specs.ContractFile.{Name, Owner, owner_of_code}
use Rattle.definitions.specs.Original as original
use Rattle.definitions.specs.Ledger as ledger
use Rattle.ledger_readers.specs.Readers.{reader_of_code, Short}
use Rattle.ledger_readers.specs.declared.Reader.{Reader}
use Rattle.ledger_readers.specs.declared.Reader.TheVariants.{Anyone, Only}
use Rattle.ledger_circuits.specs.Circuits.{address_from}
use Rattle.honest_variables.specs.Variables.{content_of_slot, NarrowReader, NarrowCode, AddressPlace}

pub place_caller : (code : ℕ) → code ≡ 1 → AddressPlace code 1
place_caller code e = record { reads = λ addresses. rw e }

pub place_low : (code : ℕ) → (code ≡ 0 → ⊥) → (code ≡ 1 → ⊥) → code < 16 → AddressPlace code 128
place_low code z o h =
    let e : 128 + (code - 128) ≡ 128 = omega arith in
    record { reads = λ addresses. rw (ne_eqb code 0 z, ne_eqb code 1 o, lt-leb 16 code h, e) }

pub place_final : (code : ℕ) → 16 ≤ code → code < 80 → AddressPlace code code
place_final code h l =
    let low : code - 16 < 64 = omega arith in
    let e : 16 + (code - 16) ≡ code = omega arith in
    record { reads = λ addresses. rw (ne_eqb code 0 (λ z. omega arith), ne_eqb code 1 (λ o. omega arith), le-leb 16 code h, lt-ltb code 80 l, lt-ltb (code - 16) 64 low, e) }

pub place_between : (code : ℕ) → 80 ≤ code → code < 128 → AddressPlace code 128
place_between code h l =
    let e : 128 + (code - 128) ≡ 128 = omega arith in
    record { reads = λ addresses. rw (ne_eqb code 0 (λ z. omega arith), ne_eqb code 1 (λ o. omega arith), le-leb 16 code (omega arith), le-ltb code 80 h, e) }

pub place_parameter : (code : ℕ) → 128 ≤ code → AddressPlace code code
place_parameter code h =
    let e : 128 + (code - 128) ≡ code = omega arith in
    record { reads = λ addresses. rw (ne_eqb code 0 (λ z. omega arith), ne_eqb code 1 (λ o. omega arith), le-leb 16 code (omega arith), le-ltb code 80 (omega arith), e) }

pub reader_everyone : (addresses : List ℕ) (code : ℕ) → code ≡ 0 → original.Reader.anyone ≡ original.reader_of (address_from addresses) (owner_of_code code)
reader_everyone addresses code e = rw e

pub reader_named : (addresses : List ℕ) (code place address : ℕ) → AddressPlace code place → address ≡ get_or addresses place 0
    → original.Reader.only address ≡ original.reader_of (address_from addresses) (owner_of_code code)
reader_named addresses code place address p e = ap original.Reader.only e ∙ sym (p.reads addresses)

pub reader_short : (addresses : List ℕ) (code : ℕ) (reader : Reader) → reader_of_code reader ≡ original.reader_of (address_from addresses) (owner_of_code code)
    → NarrowCode addresses code → Short reader
reader_short addresses code Anyone e narrow = tt
reader_short addresses code (Only x) e narrow = subst NarrowReader (sym e) narrow

module _ (address : Name → ℕ) (call i : ℕ) (o : Owner) where
  pub slot_none : (slot : ℕ) → slot ≡ 0 → ledger.Content.plain 0 ≡ content_of_slot address call i o slot
  slot_none slot e = rw e

  pub slot_some : (slot index v : ℕ) (reader : original.Reader) (content : ledger.Content) → (slot ≡ 0 → ⊥) → reader ≡ original.reader_of address o → index ≡ 8 + i → v ≡ slot - 1
      → content ≡ ledger.content_for reader call index v → content ≡ content_of_slot address call i o slot
  slot_some zero index v reader content n r e f c = absurd (n refl)
  slot_some (suc x) index v reader content n r e f c =
      let value : v ≡ x = omega arith in
      c ∙ ap (λ (r : original.Reader). ledger.content_for r call index v) r ∙ ap₂ (λ (k y : ℕ). ledger.content_for (original.reader_of address o) call k y) e value
