-- Codes of the tables are those of what they stand for, so the nodes of a form keep them.
use Rattle.std.specs.Prelude.{◌≡◌, ◌&&◌, ◌+◌, ◌*◌, ◌/◌, ◌%◌, ◌<◌, ◌≤◌}
use Rattle.kit.specs.Names.{refl, List, ℕ, zero, suc, arith, leb, leb-true}
use Rattle.definitions.specs.Basics.{is_zero}
use Rattle.definitions.specs.ContractFile.{data_type_code, operator_code, NodeRecord, node_count, data_type_of, operator_of, constant_kind, operator_kind, kind_of, constant_value, is_of_type}
use Rattle.definitions.specs.Numbers.{kind_in_tables}
use Rattle.definitions.specs.Rewriting.{leaf}
use Rattle.theory_laws.proofs.Codes.{type_code}
use Rattle.theory_laws.proofs.TruthValues.{and_left}
use Rattle.file_accepted.specs.Context.{Context}
use Rattle.file_accepted.proofs.Nodes.{listed_is}
use Rattle.file_decoded.specs.Slices.{record_at}

operator_code_law : (code : ℕ) → code ≤ 10 → operator_code (operator_of code) ≡ code
operator_code_law zero h = refl
operator_code_law (suc zero) h = refl
operator_code_law (suc (suc zero)) h = refl
operator_code_law (suc (suc (suc zero))) h = refl
operator_code_law (suc (suc (suc (suc zero)))) h = refl
operator_code_law (suc (suc (suc (suc (suc zero))))) h = refl
operator_code_law (suc (suc (suc (suc (suc (suc zero)))))) h = refl
operator_code_law (suc (suc (suc (suc (suc (suc (suc zero))))))) h = refl
operator_code_law (suc (suc (suc (suc (suc (suc (suc (suc zero)))))))) h = refl
operator_code_law (suc (suc (suc (suc (suc (suc (suc (suc (suc zero))))))))) h = refl
operator_code_law (suc (suc (suc (suc (suc (suc (suc (suc (suc (suc zero)))))))))) h = refl
operator_code_law (suc (suc (suc (suc (suc (suc (suc (suc (suc (suc (suc n))))))))))) h = absurd (omega arith)

module _ (file : List ℕ) (function_start : ℕ) (source : List ℕ) (context : Context file function_start source) (n : ℕ) (inside : n < node_count file) (r : NodeRecord)
    (same : r ≡ record_at source n) where
  pub operator_kept : r.kind ≡ 6 → operator_code (operator_of r.arg) ≡ r.arg
  unfolding kind_in_tables kind_of
  operator_kept e =
      let h = listed_is file function_start source context n inside r same operator_kind (rw e) in
      operator_code_law r.arg (leb-true r.arg 10 (and_left (leb r.arg 10) (is_zero r.third) h))

  -- "constants keep kind 1, arg type, first and second"
  pub constant_kept : r.kind ≡ 1 → r.first ≤ 65535 → leaf 1 (data_type_code (data_type_of r.arg)) ((r.first + 65536 * r.second) % 65536) ((r.first + 65536 * r.second) / 65536) ≡ leaf 1 r.arg r.first r.second
  unfolding kind_in_tables kind_of
  constant_kept e small =
      let h = listed_is file function_start source context n inside r same constant_kind (rw e) in
      let fits = is_of_type (data_type_of r.arg) (constant_value r) in
      let type : data_type_code (data_type_of r.arg) ≡ r.arg =
      type_code r.arg (leb-true r.arg 2 (and_left (leb r.arg 2) fits (and_left (leb r.arg 2 && fits) (is_zero r.third) h))) in
      let low : (r.first + 65536 * r.second) % 65536 ≡ r.first = omega arith in
      let high : (r.first + 65536 * r.second) / 65536 ≡ r.second = omega arith in
      rw (type, low, high)
