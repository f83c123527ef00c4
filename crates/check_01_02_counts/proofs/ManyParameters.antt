-- The loop over the functions that asks for too many parameters.
use Rattle.std.specs.Prelude.{◌≡◌, ◌||◌, ◌∷◌, ◌+◌, ◌-◌, ◌<◌, ◌≤◌}
use Rattle.kit.specs.Names.{refl, ap, sym, ◌∙◌, Bool, true, false, List, [], ℕ, zero, suc, arith, eqb}
use Rattle.kit.specs.Names.{ltb, le-ltb, lt-ltb, length}
use Rattle.definitions.specs.Basics.{any}
use Rattle.definitions.specs.ContractFile.{FunctionRecord, byte_at, function_end, function_record, function_records}
use Rattle.definitions.specs.Reading.{functions_read}
use Rattle.definitions.specs.Numbers.{count_off_limits}
use Rattle.theory_laws.proofs.Records.{force_is, parameters_length}
use Rattle.file_bytes.specs.declared.Layout.{Layout}
use Rattle.file_bytes.specs.Layout.{IsLayout}
use Rattle.file_bytes.proofs.Sections.{functions_are}
use Rattle.file_children.proofs.Loops.{any_next, any_found, any_done}

abbrev pub has_many_parameters : FunctionRecord → Bool
has_many_parameters f = ltb 8 (length f.parameters)

functions_step : (file : List ℕ) (at k next : ℕ) → 0 < k → next ≡ function_end file at
    → function_records k file at ≡ function_record file at ∷ function_records (k - 1) file next
unfolding functions_read
functions_step file at zero next h e = absurd (omega arith)
functions_step file at (suc k) next h e =
    let less : suc k - 1 ≡ k = omega arith in
    rw (less, e, force_is (function_end file at) (function_records k file))

functions_end_law : (file : List ℕ) (at k : ℕ) → k ≤ 0 → function_records k file at ≡ []
unfolding functions_read
functions_end_law file at zero h = refl
functions_end_law file at (suc k) h = absurd (omega arith)

module _ (left : ℕ) (file : List ℕ) (at : ℕ) (goal : Bool) (inv : any has_many_parameters (function_records left file at) ≡ goal) where
  asked : (count : ℕ) (b : Bool) → count ≡ byte_at file at → ltb 8 count ≡ b → has_many_parameters (function_record file at) ≡ b
  asked count b e h = ap (ltb 8) (parameters_length (byte_at file at) file (at + 1) ∙ sym e) ∙ h

  pub many_next : 0 < left → (count next : ℕ) → count ≡ byte_at file at → count ≤ 8 → next ≡ function_end file at
      → any has_many_parameters (function_records (left - 1) file next) ≡ goal
  many_next h count next e few ends =
      any_next has_many_parameters _ _ _ goal (functions_step file at left next h ends) inv (asked count false e (le-ltb 8 count few))

  pub many_found : 0 < left → (count : ℕ) → count ≡ byte_at file at → 8 < count → true ≡ goal
  many_found h count e many =
      any_found has_many_parameters _ _ _ goal (functions_step file at left _ h refl) inv (asked count true e (lt-ltb 8 count many))

  pub many_done : left ≤ 0 → false ≡ goal
  many_done h = any_done has_many_parameters _ goal (functions_end_law file at left h) inv

-- Number 2 in a layout's numbers.
pub limits : (file : List ℕ) (l : Layout) → IsLayout file l
    → count_off_limits file
    ≡ (ltb 64 l.fields || eqb l.functions 0 || ltb 16 l.functions
    || any has_many_parameters (function_records l.functions file (l.functions_at + 1))
    || ltb 512 l.nodes)
unfolding count_off_limits
limits file l is = rw (is.fields, is.functions, is.functions_start, is.nodes, functions_are file)
