-- The codes of declared fields and parameters, by the bytes at their places.
use Rattle.std.specs.Prelude.{◌≡◌, ◌&&◌, ◌+◌, ◌*◌, ◌<◌, ◌≤◌}
use Rattle.kit.specs.Names.{refl, sym, Bool, true, false, cond, List, none, some, ℕ, arith, eqb, ne_eqb}
use Rattle.kit.specs.Names.{eq-eqb}
use Rattle.definitions.specs.ContractFile.{boolean, uint, address, final_name, parameter_name, field_at, parameter_at, is_final, same_type, byte_at, field_count, data_type_of, field_of, parameter_of, owner_code, field_owner_code}
use Rattle.definitions.specs.Owners.{is_public_address, parameter_owner}
use Rattle.theory_laws.proofs.Codes.{not_final}
use Rattle.file_accepted.specs.Context.{fields_in, parameters_in, field_record_at}
use Rattle.file_accepted.proofs.Declarations.{field_declared, field_missing, parameter_declared, parameter_missing}
use Rattle.rewrite_owners.specs.Codes.{name_code, FieldsListed}
use Rattle.rewrite_owners.proofs.Codes.{field_listed_law}

not_address : (code : ℕ) → code < 2 → same_type (data_type_of code) address ≡ false
not_address code h = go (eqb code 0) (eqb code 1) refl refl
  where
    go : (a b : Bool) → eqb code 0 ≡ a → eqb code 1 ≡ b → same_type (cond a boolean (cond b uint address)) address ≡ false
    go true b e f = refl
    go false true e f = refl
    go false false e f =
        let zero : eqb code 0 ≡ true → ⊥ = λ g. let z : ◌≡◌ {A = ℕ} 0 1 = bad e g in omega arith in
        absurd (impossible (λ g. zero (eq-eqb code 0 g)) (λ g. let z : ◌≡◌ {A = ℕ} 0 1 = bad f (eq-eqb code 1 g) in omega arith))
      where
        bad : {b : Bool} → b ≡ false → b ≡ true → ◌≡◌ {A = ℕ} 0 1
        bad p q = cc

        impossible : (code ≡ 0 → ⊥) → (code ≡ 1 → ⊥) → ⊥
        impossible p q = omega arith

is_address : (code : ℕ) → 2 ≤ code → same_type (data_type_of code) address ≡ true
is_address code h = rw (ne_eqb code 0 (λ e. omega arith), ne_eqb code 1 (λ e. omega arith))

module _ (file : List ℕ) (f : ℕ) where
  pub field_owned : FieldsListed file → f < field_count file → byte_at file (1 + 3 * f + 2) ≡ field_owner_code (field_at (fields_in file) f).owner
  unfolding field_of
  field_owned listed h = rw (field_declared file f h) (sym (field_listed_law (field_record_at file f) (listed.at f h)))

  pub field_unowned : field_count file ≤ f → 0 ≡ field_owner_code (field_at (fields_in file) f).owner
  field_unowned h = rw (field_missing file f h)

  pub final_named : f < field_count file → byte_at file (1 + 3 * f) ≡ 1
      → 16 + f ≡ name_code (cond (is_final (field_at (fields_in file) f).shape) (some (final_name f)) none)
  unfolding field_of
  final_named h e = rw (field_declared file f h, e)

  pub final_unnamed : f < field_count file → (byte_at file (1 + 3 * f) ≡ 1 → ⊥)
      → 0 ≡ name_code (cond (is_final (field_at (fields_in file) f).shape) (some (final_name f)) none)
  unfolding field_of
  final_unnamed h e = rw (field_declared file f h, not_final (byte_at file (1 + 3 * f)) e)

  pub final_missing : field_count file ≤ f → 0 ≡ name_code (cond (is_final (field_at (fields_in file) f).shape) (some (final_name f)) none)
  final_missing h = rw (field_missing file f h)

module _ (file : List ℕ) (at k : ℕ) where
  pub address_named : k < byte_at file at → 2 ≤ byte_at file (at + 1 + 2 * k) → byte_at file (at + 1 + 2 * k + 1) ≡ 0
      → 128 + k ≡ name_code (cond (is_public_address (parameter_at (parameters_in file at) k)) (some (parameter_name k)) none)
  unfolding parameter_of
  address_named h t e = rw (parameter_declared file at k h, is_address (byte_at file (at + 1 + 2 * k)) t, e)

  pub address_private : k < byte_at file at → (byte_at file (at + 1 + 2 * k + 1) ≡ 0 → ⊥)
      → 0 ≡ name_code (cond (is_public_address (parameter_at (parameters_in file at) k)) (some (parameter_name k)) none)
  unfolding parameter_of
  address_private h e = rw (parameter_declared file at k h, ne_eqb (byte_at file (at + 1 + 2 * k + 1)) 0 e) (go (same_type (data_type_of (byte_at file (at + 1 + 2 * k))) address))
    where
      go : (b : Bool) → 0 ≡ name_code (cond (b && false) (some (parameter_name k)) none)
      go true = refl
      go false = refl

  pub address_other : k < byte_at file at → byte_at file (at + 1 + 2 * k) < 2
      → 0 ≡ name_code (cond (is_public_address (parameter_at (parameters_in file at) k)) (some (parameter_name k)) none)
  unfolding parameter_of
  address_other h t = rw (parameter_declared file at k h, not_address (byte_at file (at + 1 + 2 * k)) t)

  pub address_missing : byte_at file at ≤ k → 0 ≡ name_code (cond (is_public_address (parameter_at (parameters_in file at) k)) (some (parameter_name k)) none)
  address_missing h = rw (parameter_missing file at k h)

  pub parameter_public : k < byte_at file at → byte_at file (at + 1 + 2 * k + 1) ≡ 0 → 0 ≡ owner_code (parameter_owner (parameter_at (parameters_in file at) k))
  unfolding parameter_of
  parameter_public h e = rw (parameter_declared file at k h, e)

  pub parameter_private : k < byte_at file at → (byte_at file (at + 1 + 2 * k + 1) ≡ 0 → ⊥)
      → 1 ≡ owner_code (parameter_owner (parameter_at (parameters_in file at) k))
  unfolding parameter_of
  parameter_private h e = rw (parameter_declared file at k h, ne_eqb (byte_at file (at + 1 + 2 * k + 1)) 0 e)

  pub parameter_absent : byte_at file at ≤ k → 1 ≡ owner_code (parameter_owner (parameter_at (parameters_in file at) k))
  parameter_absent h = rw (parameter_missing file at k h)
