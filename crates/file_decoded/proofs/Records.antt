-- How many records a slice holds, the first one with those that follow it, and a node by its number.
use Rattle.std.specs.Prelude.{◌≡◌, ◌∷◌, ◌+◌, ◌*◌, ◌-◌, ◌/◌, ◌<◌, ◌≤◌}
use Rattle.kit.specs.Names.{refl, ap, sym, ◌∙◌, List, [], map, ℕ, zero, suc, arith, length, get_or}
use Rattle.kit.specs.Names.{add-zero, zero-add, length-map, get_or_map, get_or_eq_default}
use Rattle.definitions.specs.ContractFile.{NodeRecord, node, node_record, node_records, kind_of, unknown_node, node_of_kind, node_of, node_at}
use Rattle.file_bytes.proofs.ReadingSteps.{get_or_node_records}
use Rattle.file_decoded.specs.Slices.{field_from, fields_from, parameter_from, parameters_from, function_from, functions_from, node_from, nodes_from, record_at}

pub fields_length : (count : ℕ) (numbers : List ℕ) (at : ℕ) → length (fields_from count numbers at) ≡ count
unfolding fields_from
fields_length zero numbers at = refl
fields_length (suc count) numbers at = ap suc (fields_length count numbers (at + 3))

pub parameters_length : (count : ℕ) (numbers : List ℕ) (at : ℕ) → length (parameters_from count numbers at) ≡ count
unfolding parameters_from
parameters_length zero numbers at = refl
parameters_length (suc count) numbers at = ap suc (parameters_length count numbers (at + 2))

pub nodes_length : (count : ℕ) (numbers : List ℕ) (at : ℕ) → length (nodes_from count numbers at) ≡ count
unfolding nodes_from
nodes_length zero numbers at = refl
nodes_length (suc count) numbers at = ap suc (nodes_length count numbers (at + 5))

pub record_within : (count : ℕ) (numbers : List ℕ) (at n : ℕ) (other : NodeRecord) → n < count
    → get_or (nodes_from count numbers at) n other ≡ node_from numbers (at + 5 * n)
unfolding nodes_from
record_within zero numbers at n other h = absurd (omega arith)
record_within (suc k) numbers at zero other h = rw (add-zero at)
record_within (suc k) numbers at (suc n) other h =
    let e : at + 5 * suc n ≡ at + 5 + 5 * n = omega arith in
    rw e (record_within k numbers (at + 5) n other (omega arith))

-- Decoded nodes by their number.
pub nodes_read_law : (file numbers : List ℕ) (from count : ℕ) → nodes_from (length numbers / 5) numbers 0 ≡ node_records count file from
    → length numbers / 5 ≡ count → (n : ℕ) → n < count → record_at numbers n ≡ node_record file (from + 8 * n)
nodes_read_law file numbers from count same counted n h =
    let there = record_within (length numbers / 5) numbers 0 n (node 0 0 0 0 0) (omega arith) in
    sym (rw (zero-add (5 * n)) at there) ∙ ap (λ (rs : List NodeRecord). get_or rs n (node 0 0 0 0 0)) same
    ∙ get_or_node_records count file from n (node 0 0 0 0 0) h

-- In a file's trees.
unknown : node_of (node 0 0 0 0 0) ≡ unknown_node
unfolding kind_of node_of_kind
unknown = refl

pub node_within : (count : ℕ) (numbers : List ℕ) (at n : ℕ) → n < count
    → node_at (map node_of (nodes_from count numbers at)) n ≡ node_of (node_from numbers (at + 5 * n))
node_within count numbers at n h =
    ap (get_or (map node_of (nodes_from count numbers at)) n) (sym unknown) ∙ get_or_map node_of (nodes_from count numbers at) n (node 0 0 0 0 0)
    ∙ ap node_of (record_within count numbers at n (node 0 0 0 0 0) h)

pub node_past : (count : ℕ) (numbers : List ℕ) (at n : ℕ) → count ≤ n → node_at (map node_of (nodes_from count numbers at)) n ≡ unknown_node
node_past count numbers at n h = get_or_eq_default (map node_of (nodes_from count numbers at)) unknown_node {n = n} (simp (length-map, nodes_length) h)

none : (k : ℕ) → k ≤ 0 → k ≡ 0
none k h = omega arith

one_more : (k : ℕ) → 0 < k → k ≡ suc (k - 1)
one_more k h = omega arith

module _ (numbers : List ℕ) (at : ℕ) where
  pub fields_step : (k : ℕ) → 0 < k → fields_from k numbers at ≡ field_from numbers at ∷ fields_from (k - 1) numbers (at + 3)
  unfolding fields_from
  fields_step k h = ap (λ (n : ℕ). fields_from n numbers at) (one_more k h)

  pub fields_end : (k : ℕ) → k ≤ 0 → fields_from k numbers at ≡ []
  unfolding fields_from
  fields_end k h = ap (λ (n : ℕ). fields_from n numbers at) (none k h)

  pub parameters_step : (k : ℕ) → 0 < k → parameters_from k numbers at ≡ parameter_from numbers at ∷ parameters_from (k - 1) numbers (at + 2)
  unfolding parameters_from
  parameters_step k h = ap (λ (n : ℕ). parameters_from n numbers at) (one_more k h)

  pub parameters_end : (k : ℕ) → k ≤ 0 → parameters_from k numbers at ≡ []
  unfolding parameters_from
  parameters_end k h = ap (λ (n : ℕ). parameters_from n numbers at) (none k h)

  pub nodes_step : (k : ℕ) → 0 < k → nodes_from k numbers at ≡ node_from numbers at ∷ nodes_from (k - 1) numbers (at + 5)
  unfolding nodes_from
  nodes_step k h = ap (λ (n : ℕ). nodes_from n numbers at) (one_more k h)

  pub nodes_end : (k : ℕ) → k ≤ 0 → nodes_from k numbers at ≡ []
  unfolding nodes_from
  nodes_end k h = ap (λ (n : ℕ). nodes_from n numbers at) (none k h)

module _ (parameters numbers : List ℕ) (at : ℕ) where
  pub functions_step : (k : ℕ) → 0 < k
      → functions_from parameters k numbers at ≡ function_from parameters numbers at ∷ functions_from parameters (k - 1) numbers (at + 3)
  unfolding functions_from
  functions_step k h = ap (λ (n : ℕ). functions_from parameters n numbers at) (one_more k h)

  pub functions_end_law : (k : ℕ) → k ≤ 0 → functions_from parameters k numbers at ≡ []
  unfolding functions_from
  functions_end_law k h = ap (λ (n : ℕ). functions_from parameters n numbers at) (none k h)
