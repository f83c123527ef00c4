-- The address of each kind of owner code, and that a list of them gives the address of each name.
use Rattle.std.specs.Prelude.{◌≡◌, ◌+◌, ◌*◌, ◌-◌, ◌<◌, ◌≤◌}
use Rattle.kit.specs.Names.{refl, ap, sym, ◌∙◌, Bool, true, false, cond, not, List, ℕ, arith, ltb, length}
use Rattle.kit.specs.Names.{get_or, set, length-set, get_or_eq_default, get_or-set_same, get_or-set_other, eq-eqb, ne_eqb, lt-ltb, le-ltb}
use Rattle.kit.specs.Names.{le-leb, lt-leb, ltb-true, ltb-false}
use borrow.Author.Count.{below_more}
use Rattle.definitions.specs.ContractFile.{Field, Parameter, is_final, final_name, parameter_name, byte_at, field_count, field_of, parameter_of, shape_of}
use Rattle.definitions.specs.Original.{final_address, position}
use Rattle.theory_laws.proofs.Codes.{not_final}
use Rattle.file_accepted.specs.Context.{fields_in, scope_in}
use Rattle.file_accepted.proofs.Declarations.{field_declared, field_missing, parameter_declared, parameter_missing}
use Rattle.ledger_places.proofs.Positions.{fields_count}
use Rattle.ledger_circuits.proofs.Addresses.{addresses_are_law}
use Rattle.ledger_addresses.specs.Addresses.{named, address_of_code, FewNames, Addressed}

is_final_law : (code : ℕ) → code ≡ 1 → is_final (shape_of code) ≡ true
is_final_law code e = rw e

module _ (file : List ℕ) (function_start caller : ℕ) (arguments places : List ℕ) where
  abbrev final_or : ℕ → Bool → ℕ
  final_or f final = cond final (final_address (fields_in file) places f) 0

  pub final_held : (f p address : ℕ) → f < field_count file → byte_at file (1 + 3 * f) ≡ 1 → p ≡ position (fields_in file) f 0 → address ≡ get_or places p 0
      → address ≡ named file function_start caller arguments places (final_name f)
  unfolding field_of
  final_held f p address inside e at read =
      read ∙ ap (λ (p : ℕ). get_or places p 0) at
      ∙ sym (ap (λ (d : Field). final_or f (is_final d.shape)) (field_declared file f inside) ∙ ap (final_or f) (is_final_law (byte_at file (1 + 3 * f)) e))

  pub final_not : (f : ℕ) → f < field_count file → (byte_at file (1 + 3 * f) ≡ 1 → ⊥) → 0 ≡ named file function_start caller arguments places (final_name f)
  unfolding field_of
  final_not f inside n =
      sym (ap (λ (d : Field). final_or f (is_final d.shape)) (field_declared file f inside) ∙ ap (final_or f) (not_final (byte_at file (1 + 3 * f)) n))

  pub final_missing : (f : ℕ) → field_count file ≤ f → 0 ≡ named file function_start caller arguments places (final_name f)
  final_missing f h = sym (ap (λ (d : Field). final_or f (is_final d.shape)) (field_missing file f h))

  abbrev argument_or : ℕ → Bool → ℕ
  argument_or k private = cond private 0 (get_or arguments k 0)

  pub parameter_held : (k address : ℕ) → k < byte_at file function_start → byte_at file (function_start + 1 + 2 * k + 1) ≡ 0 → address ≡ get_or arguments k 0
      → address ≡ named file function_start caller arguments places (parameter_name k)
  unfolding parameter_of
  parameter_held k address inside e read =
      read
      ∙ sym (ap (λ (p : Parameter). argument_or k p.private) (parameter_declared file function_start k inside)
      ∙ ap (λ (b : Bool). argument_or k (not b)) (eq-eqb (byte_at file (function_start + 1 + 2 * k + 1)) 0 e))

  pub parameter_private : (k : ℕ) → k < byte_at file function_start → (byte_at file (function_start + 1 + 2 * k + 1) ≡ 0 → ⊥)
      → 0 ≡ named file function_start caller arguments places (parameter_name k)
  unfolding parameter_of
  parameter_private k inside n =
      sym (ap (λ (p : Parameter). argument_or k p.private) (parameter_declared file function_start k inside)
      ∙ ap (λ (b : Bool). argument_or k (not b)) (ne_eqb (byte_at file (function_start + 1 + 2 * k + 1)) 0 n))

  pub parameter_absent : (k : ℕ) → byte_at file function_start ≤ k → 0 ≡ named file function_start caller arguments places (parameter_name k)
  parameter_absent k h = sym (ap (λ (p : Parameter). argument_or k p.private) (parameter_missing file function_start k h))

  abbrev coded : ℕ → ℕ
  coded = address_of_code file function_start caller arguments places

  pub code_caller : (code : ℕ) → code ≡ 1 → caller ≡ coded code
  unfolding address_of_code
  code_caller code e = rw (eq-eqb code 1 e)

  pub code_low : (code : ℕ) → (code ≡ 1 → ⊥) → code < 16 → 0 ≡ coded code
  unfolding address_of_code
  code_low code n h = rw (ne_eqb code 1 n, lt-leb 16 code h, lt-leb 128 code (omega arith))

  pub code_final : (code f address : ℕ) → 16 ≤ code → code < 80 → f ≡ code - 16 → address ≡ named file function_start caller arguments places (final_name f) → address ≡ coded code
  unfolding address_of_code
  code_final code f address h l e a =
      rw (ne_eqb code 1 (λ o. omega arith), le-leb 16 code h, lt-ltb code 80 l) (a ∙ ap (λ (f : ℕ). named file function_start caller arguments places (final_name f)) e)

  pub code_between : (code : ℕ) → 80 ≤ code → code < 128 → 0 ≡ coded code
  unfolding address_of_code
  code_between code h l = rw (ne_eqb code 1 (λ o. omega arith), le-leb 16 code (omega arith), le-ltb code 80 h, lt-leb 128 code l)

  pub code_parameter : (code k address : ℕ) → 128 ≤ code → code < 136 → k ≡ code - 128 → address ≡ named file function_start caller arguments places (parameter_name k)
      → address ≡ coded code
  unfolding address_of_code
  code_parameter code k address h l e a =
      rw (ne_eqb code 1 (λ o. omega arith), le-leb 16 code (omega arith), le-ltb code 80 (omega arith), le-leb 128 code h, lt-ltb code 136 l)
      (a ∙ ap (λ (k : ℕ). named file function_start caller arguments places (parameter_name k)) e)

  pub code_high : (code : ℕ) → 136 ≤ code → 0 ≡ coded code
  unfolding address_of_code
  code_high code h =
      rw (ne_eqb code 1 (λ o. omega arith), le-leb 16 code (omega arith), le-ltb code 80 (omega arith), le-leb 128 code (omega arith), le-ltb code 136 h)

  -- The codes below some number have their addresses.
  pub record Placed (out : List ℕ) (code : ℕ) : Type 0 where
    pub below : (k : ℕ) → k < code → get_or out k 0 ≡ coded k
    pub room : length out ≡ 136

  pub placed_none : (out : List ℕ) → length out ≡ 136 → Placed out 0
  placed_none out room = record { below = λ k h. absurd (omega arith); room = room }

  pub placed_more : (out after : List ℕ) (code address : ℕ) → Placed out code → code < 136 → address ≡ coded code → after ≡ set out code address → Placed after (code + 1)
  placed_more out after code address p inside e s =
      record {
        below = below_more (λ (k : ℕ). get_or after k 0 ≡ coded k) code earlier here;
        room = ap length s ∙ length-set out code address ∙ p.room;
      }
    where
      here : get_or after code 0 ≡ coded code
      here = rw s (get_or-set_same out code address 0 (omega (arith, p.room)) ∙ e)

      earlier : (k : ℕ) → k < code → get_or after k 0 ≡ coded k
      earlier k l = rw s (get_or-set_other out code k address 0 (λ same. omega arith) ∙ p.below k l)

  pub placed_all : (out : List ℕ) (code : ℕ) → FewNames file function_start → 136 ≤ code → Placed out code → Addressed file function_start caller arguments places out
  placed_all out code few h p =
      record {
        addresses = addresses_are_law (scope_in file function_start) caller arguments places out (omega (arith, fields_count file, few.few_fields)) at_caller at_finals at_parameters;
        room = p.room;
      }
    where
      at_caller : get_or out 1 0 ≡ caller
      at_caller = p.below 1 (omega arith) ∙ sym (code_caller 1 refl)

      at_finals : (f : ℕ) → f < 64 → get_or out (16 + f) 0 ≡ named file function_start caller arguments places (final_name f)
      at_finals f l = p.below (16 + f) (omega arith) ∙ sym (code_final (16 + f) f _ (omega arith) (omega arith) (omega arith) refl)

      past : (k : ℕ) → 8 ≤ k → get_or out (128 + k) 0 ≡ named file function_start caller arguments places (parameter_name k)
      past k l = get_or_eq_default out 0 (omega (arith, p.room)) ∙ parameter_absent k (omega (arith, few.few_parameters))

      inside : (k : ℕ) → k < 8 → get_or out (128 + k) 0 ≡ named file function_start caller arguments places (parameter_name k)
      inside k l = p.below (128 + k) (omega arith) ∙ sym (code_parameter (128 + k) k _ (omega arith) (omega arith) (omega arith) refl)

      at_parameters : (k : ℕ) → get_or out (128 + k) 0 ≡ named file function_start caller arguments places (parameter_name k)
      at_parameters k = either (ltb k 8) refl
        where
          either : (low : Bool) → ltb k 8 ≡ low → get_or out (128 + k) 0 ≡ named file function_start caller arguments places (parameter_name k)
          either true e = inside k (ltb-true k 8 e)
          either false e = past k (ltb-false k 8 e)
