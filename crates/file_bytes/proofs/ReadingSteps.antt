-- Steps of the definitions that read a file: functions one after another, and nodes by their number.
use Rattle.std.specs.Prelude.{◌≡◌, ◌+◌, ◌*◌, ◌-◌, ◌<◌, ◌≤◌}
use Rattle.kit.specs.Names.{sym, ◌∙◌, List, ℕ, zero, suc, arith, length, get_or, get_or_eq_default}
use Rattle.definitions.specs.ContractFile.{NodeRecord, byte_at, function_end, functions_end, node_record, node_records}
use Rattle.definitions.specs.Reading.{functions_passed, nodes_read}
use Rattle.theory_laws.proofs.Records.{force_is}

pub functions_end_next : (k : ℕ) (file : List ℕ) (at next goal : ℕ) → 0 < k → next ≡ function_end file at → functions_end k file at ≡ goal
    → functions_end (k - 1) file next ≡ goal
unfolding functions_passed
functions_end_next zero file at next goal h e inv = absurd (omega arith)
functions_end_next (suc k) file at next goal h e inv =
    let less : suc k - 1 ≡ k = omega arith in
    rw (less, e) (sym (force_is (function_end file at) (functions_end k file)) ∙ inv)

pub functions_end_done : (k : ℕ) (file : List ℕ) (at goal : ℕ) → k ≤ 0 → functions_end k file at ≡ goal → at ≡ goal
unfolding functions_passed
functions_end_done zero file at goal h inv = inv
functions_end_done (suc k) file at goal h inv = absurd (omega arith)

-- Node n of the section stands 8 n bytes after the first.
pub get_or_node_records : (k : ℕ) (file : List ℕ) (at n : ℕ) (other : NodeRecord) → n < k
    → get_or (node_records k file at) n other ≡ node_record file (at + 8 * n)
unfolding nodes_read
get_or_node_records zero file at n other h = absurd (omega arith)
get_or_node_records (suc k) file at zero other h =
    let e : at + 8 * 0 ≡ at = omega arith in
    rw e
get_or_node_records (suc k) file at (suc n) other h =
    let e : at + 8 * suc n ≡ at + 8 + 8 * n = omega arith in
    rw e (get_or_node_records k file (at + 8) n other (omega arith))

-- A byte that is not there reads as 0.
pub byte_at_past : (file : List ℕ) (at : ℕ) → length file ≤ at → byte_at file at ≡ 0
byte_at_past file at h = get_or_eq_default file 0 h
