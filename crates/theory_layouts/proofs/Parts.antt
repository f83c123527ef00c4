-- Fields, parameters, functions and nodes that are laid out wide read as themselves again.
use Rattle.std.specs.Prelude.{◌≡◌, ◌∷◌, ◌++◌, ◌+◌, ◌*◌, ◌-◌, ◌≤◌}
use Rattle.kit.specs.Names.{refl, ap, ◌∙◌, sym, Bool, true, false, cond, not, List, [], ℕ, suc, arith}
use Rattle.kit.specs.Names.{eqb, length, eqb-true, not-false}
use Rattle.definitions.specs.Basics.{any, two_bytes}
use Rattle.definitions.specs.Reading.{two_bytes_at, FieldRecord, ParameterRecord, FunctionRecord, NodeRecord, function_passed, functions_passed, fields_read, parameters_read, functions_read, nodes_read}
use Rattle.definitions.specs.ContractFile.{kind_of}
use Rattle.definitions.specs.Numbers.{field_in_tables, parameter_in_tables, kind_in_tables, node_in_tables, target_in_tables}
use Rattle.theory_laws.proofs.Records.{force_is}
use Rattle.theory_laws.proofs.TruthValues.{and_left, or_left, or_right}
use Rattle.theory_crossings.proofs.Places.{HoldsFrom, byte_read, two_read, behind_run}
use Rattle.theory_layouts.specs.Wide.{wide, wide_read, wide_written, fields_laid, parameters_laid, functions_laid, arg_laid, nodes_laid}
use Rattle.theory_layouts.specs.Fitting.{RootsFit, NodesFit}
use Rattle.theory_layouts.proofs.Codes.{ReadsBack, field_code_back, parameter_code_back, target_back}

module _ (file : List ℕ) where
  code_at : (at code : ℕ) (rest : List ℕ) → ReadsBack code → HoldsFrom file at (two_bytes (wide_written code) ++ rest)
      → wide_read (two_bytes_at file at) ≡ code
  code_at at code rest back h = ap wide_read (two_read file at (wide_written code) rest back.1 h) ∙ back.0

  pub fields_back : (rs : List FieldRecord) (at : ℕ) (rest : List ℕ) → any (λ r. not (field_in_tables r)) rs ≡ false
      → HoldsFrom file at (fields_laid wide rs rest)
      → (fields_read wide (length rs) file at ≡ rs) × HoldsFrom file (at + 4 * length rs) rest
  unfolding any fields_laid fields_read
  fields_back [] at rest known h = let e : at + 4 * 0 ≡ at = omega arith in rw e (refl, h)
  fields_back (r ∷ rs) at rest known h =
      let back = field_code_back r (not-false (field_in_tables r) (or_left (not (field_in_tables r)) _ known)) in
      let code = two_bytes (wide_written r.owner) in
      let first = byte_read file at r.shape (r.type ∷ code ++ fields_laid wide rs rest) h in
      let second = byte_read file (at + 1) r.type (code ++ fields_laid wide rs rest)
      (behind_run file at (r.shape ∷ []) _ (at + 1) 1 h refl refl) in
      let third = code_at (at + 2) r.owner (fields_laid wide rs rest) back
      (behind_run file at (r.shape ∷ r.type ∷ []) _ (at + 2) 2 h refl refl) in
      let behind = behind_run file at (r.shape ∷ r.type ∷ code) (fields_laid wide rs rest) (at + 4) 4 h refl refl in
      let others = fields_back rs (at + 4) rest (or_right (not (field_in_tables r)) _ known) behind in
      let e : at + 4 * suc (length rs) ≡ at + 4 + 4 * length rs = omega arith in
      ((λ i. record { shape = first i; type = second i; owner = third i } ∷ others.0 i), rw e others.1)

  pub parameters_back : (rs : List ParameterRecord) (at : ℕ) (rest : List ℕ) → any (λ r. not (parameter_in_tables r)) rs ≡ false
      → HoldsFrom file at (parameters_laid wide rs rest)
      → (parameters_read wide (length rs) file at ≡ rs) × HoldsFrom file (at + 3 * length rs) rest
  unfolding any parameters_laid parameters_read
  parameters_back [] at rest known h = let e : at + 3 * 0 ≡ at = omega arith in rw e (refl, h)
  parameters_back (r ∷ rs) at rest known h =
      let back = parameter_code_back r (not-false (parameter_in_tables r) (or_left (not (parameter_in_tables r)) _ known)) in
      let code = two_bytes (wide_written r.owner) in
      let first = byte_read file at r.type (code ++ parameters_laid wide rs rest) h in
      let second = code_at (at + 1) r.owner (parameters_laid wide rs rest) back (behind_run file at (r.type ∷ []) _ (at + 1) 1 h refl refl) in
      let behind = behind_run file at (r.type ∷ code) (parameters_laid wide rs rest) (at + 3) 3 h refl refl in
      let others = parameters_back rs (at + 3) rest (or_right (not (parameter_in_tables r)) _ known) behind in
      let e : at + 3 * suc (length rs) ≡ at + 3 + 3 * length rs = omega arith in
      ((λ i. record { type = first i; owner = second i } ∷ others.0 i), rw e others.1)

  pub functions_back : (rs : List FunctionRecord) (at : ℕ) (rest : List ℕ)
      → any (λ r. any (λ p. not (parameter_in_tables p)) r.parameters) rs ≡ false → RootsFit rs
      → HoldsFrom file at (functions_laid wide rs rest)
      → (functions_read wide (length rs) file at ≡ rs) × HoldsFrom file (functions_passed wide (length rs) file at) rest
  unfolding any RootsFit functions_laid functions_read functions_passed
  functions_back [] at rest known fit h = (refl, h)
  functions_back (r ∷ rs) at rest known fit h =
      let ps = r.parameters in
      let behind = two_bytes r.root ++ functions_laid wide rs rest in
      let unknown = any (λ p. not (parameter_in_tables p)) ps in
      let count = byte_read file at (length ps) (parameters_laid wide ps behind) h in
      let inside = parameters_back ps (at + 1) behind (or_left unknown _ known) (behind_run file at (length ps ∷ []) _ (at + 1) 1 h refl refl) in
      let parameters = ap (λ (n : ℕ). parameters_read wide n file (at + 1)) count ∙ inside.0 in
      let end = function_passed wide file at in
      let place : end - 2 ≡ at + 1 + 3 * length ps = omega (arith, count) in
      let root = ap (two_bytes_at file) place ∙ two_read file (at + 1 + 3 * length ps) r.root (functions_laid wide rs rest) fit.0 inside.1 in
      let next : end ≡ at + 1 + 3 * length ps + 2 = omega (arith, count) in
      let from = behind_run file (at + 1 + 3 * length ps) (two_bytes r.root) (functions_laid wide rs rest) end 2 inside.1 refl next in
      let others = functions_back rs end rest (or_right unknown _ known) fit.1 from in (
        (λ i. record { parameters = parameters i; root = root i } ∷ (force_is end (functions_read wide (length rs) file) ∙ others.0) i),
        rw (force_is end (functions_passed wide (length rs) file)) others.1,
      )

  -- The arg is an owner code in a node of kind 8 only.
  arg_back : (r : NodeRecord) (at : ℕ) (rest : List ℕ) (is_reveal : Bool) → eqb r.kind 8 ≡ is_reveal → node_in_tables r ≡ true → r.arg ≤ 65535
      → HoldsFrom file (at + 1) (cond is_reveal (two_bytes (wide_written r.arg)) (two_bytes r.arg) ++ rest)
      → cond is_reveal (wide_read (two_bytes_at file (at + 1))) (two_bytes_at file (at + 1)) ≡ r.arg
  unfolding kind_of kind_in_tables
  arg_back r at rest true e known fit h =
      let tables : kind_in_tables (kind_of 8) r ≡ true = ap (λ (n : ℕ). kind_in_tables (kind_of n) r) (sym (eqb-true r.kind 8 e)) ∙ known in
      code_at (at + 1) r.arg rest (target_back r.arg (and_left (target_in_tables r.arg) _ (and_left _ _ tables))) h
  arg_back r at rest false e known fit h = two_read file (at + 1) r.arg rest fit h

  pub nodes_back : (rs : List NodeRecord) (at : ℕ) → any (λ r. not (node_in_tables r)) rs ≡ false → NodesFit rs
      → HoldsFrom file at (nodes_laid wide rs)
      → nodes_read wide (length rs) file at ≡ rs
  unfolding any NodesFit nodes_laid nodes_read
  nodes_back [] at known fit h = refl
  nodes_back (r ∷ rs) at known fit h =
      let third_on = two_bytes r.third ++ nodes_laid wide rs in
      let second_on = two_bytes r.second ++ third_on in
      let first_on = two_bytes r.first ++ second_on in
      let is_reveal = eqb r.kind 8 in
      let in_tables_law = not-false (node_in_tables r) (or_left (not (node_in_tables r)) _ known) in
      let kind = byte_read file at r.kind (arg_laid wide r ++ first_on) h in
      let arg_here = behind_run file at (r.kind ∷ []) (arg_laid wide r ++ first_on) (at + 1) 1 h refl refl in
      let arg = ap (λ (n : ℕ). cond (eqb n 8) (wide_read (two_bytes_at file (at + 1))) (two_bytes_at file (at + 1))) kind
      ∙ arg_back r at first_on is_reveal refl in_tables_law fit.0.arg arg_here in
      let first_here = behind_run file (at + 1) (arg_laid wide r) first_on (at + 3) 2 arg_here (two_long is_reveal (wide_written r.arg) r.arg) (omega arith) in
      let second_here = behind_run file (at + 3) (two_bytes r.first) second_on (at + 5) 2 first_here refl (omega arith) in
      let third_here = behind_run file (at + 5) (two_bytes r.second) third_on (at + 7) 2 second_here refl (omega arith) in
      let behind = behind_run file (at + 7) (two_bytes r.third) (nodes_laid wide rs) (at + 9) 2 third_here refl (omega arith) in
      let first = two_read file (at + 3) r.first second_on fit.0.first first_here in
      let second = two_read file (at + 5) r.second third_on fit.0.second second_here in
      let third = two_read file (at + 7) r.third (nodes_laid wide rs) fit.0.third third_here in
      let others = nodes_back rs (at + 9) (or_right (not (node_in_tables r)) _ known) fit.1 behind in
      λ i. record { kind = kind i; arg = arg i; first = first i; second = second i; third = third i } ∷ others i
    where
      two_long : (b : Bool) (m n : ℕ) → length (cond b (two_bytes m) (two_bytes n)) ≡ 2
      two_long true m n = refl
      two_long false m n = refl
