-- A type by its code, a field's owner by its byte, and what a form asks by its two parts.
use Rattle.std.specs.Prelude.{◌≡◌, ◌&&◌, ◌+◌, ◌*◌, ◌-◌, ◌<◌}
use Rattle.kit.specs.Names.{refl, ap, sym, ◌∙◌, Bool, true, false, List, ℕ, ltb, eq-eqb, ne_eqb, lt-ltb}
use Rattle.definitions.specs.ContractFile.{DataType, Field, field_at, is_of_type, byte_at, field_count, field_of, data_type_of, field_owner_of_code}
use Rattle.definitions.specs.Original.{anyone, only, place_reader}
use Rattle.definitions.specs.Ledger as ledger
use Rattle.definitions.specs.Ledger.{Form, fits}
use Rattle.file_accepted.specs.Context.{fields_in}
use Rattle.file_accepted.proofs.Declarations.{field_declared}
use Rattle.ledger_readers.specs.Readers.{is_content}

pub of_boolean : (code v : ℕ) → code ≡ 0 → ltb v 2 ≡ is_of_type (data_type_of code) v
of_boolean code v e = rw (eq-eqb code 0 e)

pub of_uint : (code v : ℕ) → (code ≡ 0 → ⊥) → code ≡ 1 → v < 4294967296 → true ≡ is_of_type (data_type_of code) v
of_uint code v n e small = rw (ne_eqb code 0 n, eq-eqb code 1 e) (sym (lt-ltb v 4294967296 small))

pub of_address : (code v : ℕ) → (code ≡ 0 → ⊥) → (code ≡ 1 → ⊥) → ltb v 16 ≡ is_of_type (data_type_of code) v
of_address code v m n = rw (ne_eqb code 0 m, ne_eqb code 1 n)

pub fits_parts : (form : Form) (content : ledger.Content) → fits form content ≡ (is_content form.reader content && is_of_type form.type (ledger.opened_number content))
fits_parts form content = go form.reader form.type content
  where
    go : (r : _) (t : DataType) (c : ledger.Content) → fits (record { type = t; reader = r }) c ≡ (is_content r c && is_of_type t (ledger.opened_number c))
    go anyone t (ledger.Content.plain v) = refl
    go anyone t (ledger.Content.cell k) = refl
    go (only x) t (ledger.Content.plain v) = refl
    go (only x) t (ledger.Content.cell k) = refl

pub fits_both : (form : Form) (content : ledger.Content) (a b : Bool) → a ≡ is_content form.reader content → a ≡ true
    → b ≡ is_of_type form.type (ledger.opened_number content) → b ≡ fits form content
fits_both form content a b e t f = f ∙ sym (fits_parts form content ∙ (rw (sym e ∙ t)))

pub fits_not : (form : Form) (content : ledger.Content) (a : Bool) → a ≡ is_content form.reader content → a ≡ false → false ≡ fits form content
fits_not form content a e t = sym (fits_parts form content ∙ (rw (sym e ∙ t)))

module _ (file : List ℕ) (f : ℕ) (inside : f < field_count file) where
  pub owner_is : (field_at (fields_in file) f).owner ≡ field_owner_of_code (byte_at file (1 + 3 * f + 2))
  unfolding field_of
  owner_is = ap (λ (d : Field). d.owner) (field_declared file f inside)

  module _ (final : ℕ → ℕ) (key owner : ℕ) (same : owner ≡ byte_at file (1 + 3 * f + 2)) where
    pub reader_all : owner ≡ 0 → anyone ≡ place_reader final (field_at (fields_in file) f).owner key
    reader_all e = rw (owner_is, ← same, eq-eqb owner 0 e)

    pub reader_key : (owner ≡ 0 → ⊥) → owner ≡ 2 → only key ≡ place_reader final (field_at (fields_in file) f).owner key
    reader_key n e = rw (owner_is, ← same, ne_eqb owner 0 n, eq-eqb owner 2 e)

    pub reader_final : (address : ℕ) → (owner ≡ 0 → ⊥) → (owner ≡ 2 → ⊥) → address ≡ final (owner - 16)
        → only address ≡ place_reader final (field_at (fields_in file) f).owner key
    reader_final address m n e = rw (owner_is, ← same, ne_eqb owner 0 m, ne_eqb owner 2 n, e)
