-- The numbers of all places at deployment, field by field.
use Rattle.std.specs.Prelude.{◌≡◌, ◌∷◌, ◌++◌, ◌+◌, ◌*◌, ◌<◌, ◌≤◌}
use Rattle.kit.specs.Names.{refl, ap, sym, ◌∙◌, Bool, true, false, List, [], ℕ, suc, arith}
use Rattle.kit.specs.Names.{add-one, add-zero, eqb, length, get_or, set, drop, replicate, length-append, length-replicate, drop_of_length-le}
use Rattle.kit.specs.Names.{drop-cons, drop-drop, get_or-drop, ne_eqb, take, take_all, length-drop, length-take-le}
use Rattle.std.proofs.lemmas.List.{drop-replicate}
use Rattle.std.proofs.lemmas.Slice.{put_mid-paste}
use borrow.Rule.Slice.PartMut.{put_mid}
use Rattle.memory_buffer.specs.Buffer.{stored}
use Rattle.ledger_struct.specs.Whole.{padded}
use Rattle.memory_buffer.proofs.Storing.{stored_one, stored_then, stored_nothing}
use Rattle.definitions.specs.ContractFile.{Field, field_at, is_final, byte_at, field_count, shape_of, field_of}
use Rattle.definitions.specs.Original.{place_count, deployed_numbers}
use Rattle.file_accepted.specs.Context.{fields_in}
use Rattle.file_accepted.proofs.Declarations.{field_declared}

-- A part that was filled with zeros, in its place.
pub zeros_put : (numbers zeros : List ℕ) (p count k : ℕ) → p + count ≤ length numbers → k ≡ count
    → zeros ≡ replicate (length (take k (drop p numbers))) 0 → put_mid p k numbers zeros ≡ stored numbers p (replicate count 0)
unfolding stored
zeros_put numbers zeros p count k room long same =
    let behind = length-drop p numbers in
    let all : length (take k (drop p numbers)) ≡ count = length-take-le k (drop p numbers) (omega arith) ∙ long in
    let written : List ℕ = replicate count 0 in
    let many : length written ≡ count = length-replicate count 0 in
    put_mid-paste p k numbers zeros written (length written) (same ∙ ap (λ (n : ℕ). replicate {A = ℕ} n 0) all) (omega arith) refl
    ∙ ap (λ (l : List ℕ). take p numbers ++ l ++ drop (p + length written) numbers) (take_all (length written) written (omega arith))

-- An array of zeros with a file at its front.
pub zeros_behind : (n : ℕ) (file front : List ℕ) → front ≡ file → front ++ drop (length file) (replicate n 0) ≡ padded n 0 file
unfolding padded
zeros_behind n file front same = rw (same, drop-replicate {X = ℕ} (length file) n 0)

module _ (fields : List Field) (f : ℕ) (inside : f < length fields) where
  pub opened : drop f fields ≡ field_at fields f ∷ drop (suc f) fields
  opened = drop-cons fields f _ inside

  deployed_final : (addresses : List ℕ) (a : ℕ) → is_final (field_at fields f).shape ≡ true
      → deployed_numbers (drop f fields) (drop a addresses) ≡ get_or addresses a 0 ∷ deployed_numbers (drop (f + 1) fields) (drop (a + 1) addresses)
  unfolding deployed_numbers
  deployed_final addresses a final =
      rw (opened, final, get_or-drop a addresses 0 0, add-zero a, drop-drop 1 a addresses, add-one f)

  deployed_zeros : (addresses : List ℕ) → is_final (field_at fields f).shape ≡ false
      → deployed_numbers (drop f fields) addresses ≡ replicate (place_count (field_at fields f)) 0 ++ deployed_numbers (drop (f + 1) fields) addresses
  unfolding deployed_numbers
  deployed_zeros addresses final = rw (opened, final, add-one f)

  -- A final's address is written.
  pub final_next : (addresses numbers goal : List ℕ) (a p v : ℕ) → is_final (field_at fields f).shape ≡ true → p < length numbers → v ≡ get_or addresses a 0
      → stored numbers p (deployed_numbers (drop f fields) (drop a addresses)) ≡ goal
      → stored (set numbers p v) (p + 1) (deployed_numbers (drop (f + 1) fields) (drop (a + 1) addresses)) ≡ goal
  final_next addresses numbers goal a p v final room e inv =
      let rest = deployed_numbers (drop (f + 1) fields) (drop (a + 1) addresses) in
      let step = rw (deployed_final addresses a final, ← e) at inv in
      rw (← stored_one numbers p v room) (stored_then numbers p (v ∷ []) rest (omega arith) ∙ step)

  pub final_count : (addresses : List ℕ) (a p n : ℕ) → is_final (field_at fields f).shape ≡ true
      → p + length (deployed_numbers (drop f fields) (drop a addresses)) ≡ n → p + 1 + length (deployed_numbers (drop (f + 1) fields) (drop (a + 1) addresses)) ≡ n
  final_count addresses a p n final inv =
      let step = ap length (deployed_final addresses a final) in
      omega arith

  -- The zeros of another field are written.
  pub zeros_field : (addresses numbers after goal : List ℕ) (p many : ℕ) → is_final (field_at fields f).shape ≡ false → p + many ≤ length numbers
      → many ≡ place_count (field_at fields f) → after ≡ stored numbers p (replicate many 0)
      → stored numbers p (deployed_numbers (drop f fields) addresses) ≡ goal → stored after (p + many) (deployed_numbers (drop (f + 1) fields) addresses) ≡ goal
  zeros_field addresses numbers after goal p many final room count e inv =
      let rest = deployed_numbers (drop (f + 1) fields) addresses in
      let step = rw (deployed_zeros addresses final, ← count) at inv in
      let n : length (replicate {A = ℕ} many 0) ≡ many = length-replicate many 0 in
      let next = stored_then numbers p (replicate many 0) rest (omega arith) in
      rw e ((rw n at next) ∙ step)

  pub zeros_count : (addresses : List ℕ) (p many n : ℕ) → is_final (field_at fields f).shape ≡ false → many ≡ place_count (field_at fields f)
      → p + length (deployed_numbers (drop f fields) addresses) ≡ n → p + many + length (deployed_numbers (drop (f + 1) fields) addresses) ≡ n
  zeros_count addresses p many n final count inv =
      let step = ap length (deployed_zeros addresses final) in
      let both = length-append (replicate (place_count (field_at fields f)) 0) (deployed_numbers (drop (f + 1) fields) addresses) in
      let m : length (replicate {A = ℕ} (place_count (field_at fields f)) 0) ≡ place_count (field_at fields f) = length-replicate (place_count (field_at fields f)) 0 in
      omega arith

pub numbers_done : (fields : List Field) (f : ℕ) (addresses numbers goal : List ℕ) (p : ℕ) → length fields ≤ f
    → stored numbers p (deployed_numbers (drop f fields) addresses) ≡ goal → numbers ≡ goal
unfolding deployed_numbers
numbers_done fields f addresses numbers goal p out inv = sym (stored_nothing numbers p) ∙ (rw (drop_of_length-le fields out) at inv)

pub numbers_counted : (fields : List Field) (f : ℕ) (addresses : List ℕ) (p n : ℕ) → length fields ≤ f
    → p + length (deployed_numbers (drop f fields) addresses) ≡ n → p ≡ n
unfolding deployed_numbers
numbers_counted fields f addresses p n out inv =
    let none = rw (drop_of_length-le fields out) at inv in
    omega arith

-- A final is known by the byte of its shape.
module _ (file : List ℕ) (f code : ℕ) (inside : f < field_count file) (same : code ≡ byte_at file (1 + 3 * f)) where
  pub is_final_law : code ≡ 1 → is_final (field_at (fields_in file) f).shape ≡ true
  unfolding field_of
  is_final_law e = rw (field_declared file f inside, ← same, e)

  pub not_final : (code ≡ 1 → ⊥) → is_final (field_at (fields_in file) f).shape ≡ false
  unfolding field_of
  not_final n = rw (field_declared file f inside, ← same) (go (eqb code 0) refl)
    where
      go : (b : Bool) → eqb code 0 ≡ b → is_final (shape_of code) ≡ false
      go true t = rw t
      go false t = rw (t, ne_eqb code 1 n)
