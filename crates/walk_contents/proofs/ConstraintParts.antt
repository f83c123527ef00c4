-- Steps of the definitions as code takes them: an owner code's address, a constraint's parts, and constraints one after another.
use Rattle.std.specs.Prelude.{◌≡◌, ◌&&◌, ◌||◌, ◌+◌, ◌-◌, ◌/◌, ◌<◌, ◌≤◌}
use Rattle.kit.specs.Names.{refl, sym, ◌∙◌, Bool, true, false, not, List, ℕ, zero, suc, arith}
use Rattle.kit.specs.Names.{eqb, length, get_or, eq-eqb, ne_eqb, lt-ltb, le-ltb, le-leb, lt-leb}
use Rattle.definitions.specs.Basics.{all}
use Rattle.definitions.specs.ContractFile.{owned_by, parameter_name, NodeRecord, owner_of_code, is_final_code}
use Rattle.definitions.specs.Original.{anyone, only, reader_of}
use Rattle.definitions.specs.Ledger.{Content, content_at, is_content_of, opens_for, is_set, plain_number, claim_holds, circuit_value}
use Rattle.ledger_contents.specs.Contents.{contents_of}
use Rattle.write_trees.specs.Trees.{circuit_in}
use Rattle.write_trees.specs.Table.{count_of, table_of, Readable}
use Rattle.write_trees.proofs.Tables.{node_past}
use Rattle.write_trees.proofs.ByKind.{circuit_rest}
use Rattle.ledger_circuits.specs.Circuits.{address_from, value_from, guard_from, claim_from, constraint_from, holds_from, constraints_at, constraints_from, all_hold}

module _ (addresses : List ℕ) (code r : ℕ) where
  pub me_address : code ≡ 1 → r ≡ get_or addresses 1 0 → reader_of (address_from addresses) (owner_of_code code) ≡ only r
  me_address e k = rw (e, k)

  other_owner : (code ≡ 0 → ⊥) → (code ≡ 1 → ⊥) → is_final_code code ≡ false → owner_of_code code ≡ owned_by (parameter_name (code - 128))
  other_owner z o f = rw (ne_eqb code 0 z, ne_eqb code 1 o, f)

  low_code : code < 16 → is_final_code code ≡ false
  low_code h = rw (lt-leb 16 code h)

  middle_code : 80 ≤ code → is_final_code code ≡ false
  middle_code h = let l : 16 ≤ code = omega arith in rw (le-leb 16 code l, le-ltb code 80 h)

  final_code : 16 ≤ code → code < 80 → is_final_code code ≡ true
  final_code h k = rw (le-leb 16 code h, lt-ltb code 80 k)

  pub parameter_address : (code ≡ 0 → ⊥) → (code ≡ 1 → ⊥) → is_final_code code ≡ false → (p : ℕ) → p ≡ 128 + (code - 128) → r ≡ get_or addresses p 0
      → reader_of (address_from addresses) (owner_of_code code) ≡ only r
  parameter_address z o f p e k = rw (other_owner z o f, k, e)

  pub low_address : (code ≡ 0 → ⊥) → (code ≡ 1 → ⊥) → code < 16 → r ≡ get_or addresses 128 0 → reader_of (address_from addresses) (owner_of_code code) ≡ only r
  low_address z o h k = parameter_address z o (low_code h) 128 (omega arith) k

  pub middle_address : 80 ≤ code → code < 128 → r ≡ get_or addresses 128 0 → reader_of (address_from addresses) (owner_of_code code) ≡ only r
  middle_address h l k = parameter_address (λ e. omega arith) (λ e. omega arith) (middle_code h) 128 (omega arith) k

  pub high_address : 128 ≤ code → r ≡ get_or addresses code 0 → reader_of (address_from addresses) (owner_of_code code) ≡ only r
  high_address h k = parameter_address (λ e. omega arith) (λ e. omega arith) (middle_code (omega arith)) code (omega arith) k

  pub final_address_law : 16 ≤ code → code < 80 → r ≡ get_or addresses code 0 → reader_of (address_from addresses) (owner_of_code code) ≡ only r
  final_address_law h l k =
      let z : code ≡ 0 → ⊥ = λ e. omega arith in
      let o : code ≡ 1 → ⊥ = λ e. omega arith in
      let f : code - 16 < 64 = omega arith in
      let e : 16 + (code - 16) ≡ code = omega arith in
      rw (ne_eqb code 0 z, ne_eqb code 1 o, final_code h l, lt-ltb (code - 16) 64 f, e, k)

pub cell_same : (owner address value number : ℕ) (r : Bool) → owner ≡ address → r ≡ eqb value number → r ≡ eqb owner address && eqb value number
cell_same owner address value number r e k = rw (eq-eqb owner address e) k

pub cell_differs : (owner address value number : ℕ) → (owner ≡ address → ⊥) → false ≡ eqb owner address && eqb value number
cell_differs owner address value number h = rw (ne_eqb owner address h)

-- Past the last node stands none, and that is the caller as a circuit.
pub past_value : (bytes : List ℕ) → Readable bytes → (addresses variables : List ℕ) (root r : ℕ) → count_of bytes ≤ root → r ≡ get_or addresses 1 0
    → r ≡ value_from addresses variables (circuit_in (table_of bytes) root)
unfolding value_from circuit_value
past_value bytes readable addresses variables root r h k =
    let past = node_past bytes root h in
    rw (circuit_rest (table_of bytes) readable.falling root _ past
    (record { constant = λ e. omega arith; operator = λ e. omega arith; negation = λ e. omega arith; variable = λ e. omega arith; opened = λ e. omega arith })) k

pub public_equals : (addresses : List ℕ) (owner value v : ℕ) (content content' : Content) (r : Bool) → owner ≡ 0 → value ≡ v → content ≡ content'
    → r ≡ is_content_of anyone value content → r ≡ is_content_of (reader_of (address_from addresses) (owner_of_code owner)) v content'
public_equals addresses owner value v content content' r z e c k = rw (← e, ← c, z) k

pub owned_equals : (addresses : List ℕ) (owner address value v : ℕ) (content content' : Content) (r : Bool)
    → reader_of (address_from addresses) (owner_of_code owner) ≡ only address → value ≡ v → content ≡ content'
    → r ≡ is_content_of (only address) value content → r ≡ is_content_of (reader_of (address_from addresses) (owner_of_code owner)) v content'
owned_equals addresses owner address value v content content' r z e c k = rw (z, ← e, ← c) k

module _ (addresses variables : List ℕ) (nodes : List NodeRecord) (i owner root : ℕ) (r : Bool) where
  pub opens_claim : (address : ℕ) (content : Content) → root ≡ 65535 → address ≡ get_or addresses 1 0 → content ≡ content_at (contents_of variables) i
      → r ≡ opens_for address content → r ≡ claim_holds (address_from addresses) (contents_of variables) (claim_from nodes i owner root)
  opens_claim address content e a c k = rw (e, ← a, ← c) k

  pub equals_claim : (root ≡ 65535 → ⊥)
      → r ≡ is_content_of (reader_of (address_from addresses) (owner_of_code owner)) (value_from addresses variables (circuit_in nodes root)) (content_at (contents_of variables) i)
      → r ≡ claim_holds (address_from addresses) (contents_of variables) (claim_from nodes i owner root)
  unfolding value_from
  equals_claim h k = rw (ne_eqb root 65535 h) k

pub always_set : (variables : List ℕ) (guard : ℕ) → guard ≡ 0 → true ≡ is_set (contents_of variables) (guard_from guard)
always_set variables guard e = rw e

pub guard_set : (variables : List ℕ) (guard number : ℕ) (r : Bool) → (guard ≡ 0 → ⊥) → number ≡ plain_number (content_at (contents_of variables) (guard - 1))
    → r ≡ not (eqb number 0) → r ≡ is_set (contents_of variables) (guard_from guard)
guard_set variables guard number r h k e = rw (ne_eqb guard 0 h, ← k) e

pub set_holds : (a b s h : Bool) → s ≡ true → s ≡ a → h ≡ b → h ≡ not a || b
set_holds a b s h t e k = rw (← e, t, k)

pub unset_holds : (a b s : Bool) → s ≡ false → s ≡ a → true ≡ not a || b
unset_holds a b s t e = rw (← e, t)

module _ (addresses variables : List ℕ) (nodes : List NodeRecord) (numbers : List ℕ) (goal : Bool) where
  abbrev rest : ℕ → ℕ → Bool
  rest left at = all_hold addresses variables (constraints_at nodes left numbers at)

  step : (left at : ℕ) → 0 < left → rest left at ≡ (holds_from addresses variables (constraint_from nodes numbers at) && rest (left - 1) (at + 4))
  unfolding all_hold constraints_at all
  step zero at h = absurd (omega arith)
  step (suc left) at h = let e : suc left - 1 ≡ left = omega arith in rw e

  pub next_holds : (left at : ℕ) (h : Bool) → 0 < left → h ≡ holds_from addresses variables (constraint_from nodes numbers at) → h ≡ true → rest left at ≡ goal
      → rest (left - 1) (at + 4) ≡ goal
  next_holds left at h l e t inv =
      let one : holds_from addresses variables (constraint_from nodes numbers at) ≡ true = sym e ∙ t in
      (rw one at (sym (step left at l))) ∙ inv

  pub one_fails : (left at : ℕ) (h : Bool) → 0 < left → h ≡ holds_from addresses variables (constraint_from nodes numbers at) → h ≡ false → rest left at ≡ goal
      → false ≡ goal
  one_fails left at h l e t inv =
      let one : holds_from addresses variables (constraint_from nodes numbers at) ≡ false = sym e ∙ t in
      (rw one at (sym (step left at l))) ∙ inv

  pub none_left : (left at : ℕ) → left ≤ 0 → rest left at ≡ goal → true ≡ goal
  unfolding all_hold constraints_at all
  none_left zero at h inv = inv
  none_left (suc left) at h inv = absurd (omega arith)

pub all_from_start : (addresses variables : List ℕ) (nodes : List NodeRecord) (numbers : List ℕ)
    → all_hold addresses variables (constraints_at nodes (length numbers / 4) numbers 0) ≡ all_hold addresses variables (constraints_from nodes numbers)
unfolding constraints_from
all_from_start addresses variables nodes numbers = refl
