-- The records of a file's sections: as many as counted, and a field's by its number.
use Rattle.std.specs.Prelude.{◌≡◌, ◌+◌, ◌*◌, ◌<◌}
use Rattle.kit.specs.Names.{refl, ap, sym, ◌∙◌, List, ℕ, zero, suc, arith, length, get_or}
use Rattle.definitions.specs.Basics.{force}
use Rattle.definitions.specs.ContractFile.{FieldRecord, NodeRecord, byte_at, function_end, field_records, parameter_records, function_records, node_records}
use Rattle.definitions.specs.Reading.{fields_read, parameters_read, functions_read, nodes_read}

pub force_is : {A : Type 0} (n : ℕ) (f : ℕ → A) → force n f ≡ f n
force_is zero f = refl
force_is (suc n) f = refl

pub fields_length : (k : ℕ) (file : List ℕ) (at : ℕ) → length (field_records k file at) ≡ k
unfolding fields_read
fields_length zero file at = refl
fields_length (suc k) file at = ap suc (fields_length k file (at + 3))

pub parameters_length : (k : ℕ) (file : List ℕ) (at : ℕ) → length (parameter_records k file at) ≡ k
unfolding parameters_read
parameters_length zero file at = refl
parameters_length (suc k) file at = ap suc (parameters_length k file (at + 2))

pub functions_length : (k : ℕ) (file : List ℕ) (at : ℕ) → length (function_records k file at) ≡ k
unfolding functions_read
functions_length zero file at = refl
functions_length (suc k) file at =
    ap suc (ap length (force_is (function_end file at) (function_records k file)) ∙ functions_length k file (function_end file at))

pub node_records_length : (k : ℕ) (file : List ℕ) (at : ℕ) → length (node_records k file at) ≡ k
unfolding nodes_read
node_records_length zero file at = refl
node_records_length (suc k) file at = ap suc (node_records_length k file (at + 8))

pub field_record : (k : ℕ) (file : List ℕ) (at f : ℕ) (other : FieldRecord) → f < k
    → get_or (field_records k file at) f other ≡ record { shape = byte_at file (at + 3 * f); type = byte_at file (at + 3 * f + 1); owner = byte_at file (at + 3 * f + 2) }
unfolding fields_read
field_record zero file at f other h = absurd (omega arith)
field_record (suc k) file at zero other h = let e : at + 3 * 0 ≡ at = omega arith in rw e
field_record (suc k) file at (suc f) other h = let e : at + 3 * suc f ≡ at + 3 + 3 * f = omega arith in rw e (field_record k file (at + 3) f other (omega arith))

pub kind_as : (r q : NodeRecord) (kind : ℕ) → r ≡ q → r.kind ≡ kind → q.kind ≡ kind
kind_as r q kind e h = ap (λ (x : NodeRecord). x.kind) (sym e) ∙ h
