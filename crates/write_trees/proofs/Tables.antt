-- The node at a number of the table, and a table read back from the bytes that it was written to.
use Rattle.std.specs.Prelude.{◌≡◌, ◌∷◌, ◌++◌, ◌+◌, ◌*◌, ◌/◌, ◌%◌, ◌<◌, ◌≤◌}
use Rattle.kit.specs.Names.{refl, ap, ap₂, sym, ◌∙◌, List, [], append_assoc, append-nil, ℕ}
use Rattle.kit.specs.Names.{arith, zero-add, add-zero, length, get_or_eq_default, length-append, get_or-append-add}
use Rattle.definitions.specs.Basics.{flat_map}
use Rattle.definitions.specs.ContractFile.{NodeRecord, byte_at, two_bytes_at, node_record, node_records, node}
use Rattle.definitions.specs.Reading.{nodes_read}
use Rattle.definitions.specs.Rewriting.{node_bytes}
use Rattle.theory_laws.proofs.Records.{node_records_length}
use Rattle.theory_laws.proofs.Written.{nodes_length}
use Rattle.file_bytes.proofs.ReadingSteps.{get_or_node_records}
use Rattle.write_trees.specs.Trees.{record_at}
use Rattle.write_trees.specs.Table.{count_of, table_of}

pub node_there : (bytes : List ℕ) (n : ℕ) → n < count_of bytes → record_at (table_of bytes) n ≡ node_record bytes (8 * n)
unfolding table_of
node_there bytes n h = rw zero-add at (get_or_node_records (count_of bytes) bytes 0 n (node 0 0 0 0 0) h)

pub node_past : (bytes : List ℕ) (n : ℕ) → count_of bytes ≤ n → record_at (table_of bytes) n ≡ node 0 0 0 0 0
unfolding table_of
node_past bytes n h =
    let l = node_records_length (count_of bytes) bytes 0 in
    get_or_eq_default (node_records (count_of bytes) bytes 0) (node 0 0 0 0 0) (omega arith)

-- A node whose parts are numbers of one and of two bytes.
pub record Narrow (r : NodeRecord) : Type 0 where
  pub kind : r.kind < 256
  pub arg : r.arg < 256
  pub first : r.first < 65536
  pub second : r.second < 65536
  pub third : r.third < 65536

pub data AllNarrow : List NodeRecord → Type 0 where
  none : AllNarrow []
  more : (r : NodeRecord) (rs : List NodeRecord) → Narrow r → AllNarrow rs → AllNarrow (r ∷ rs)

two_back : (v : ℕ) → v < 65536 → v % 256 + 256 * (v / 256 % 256) ≡ v
two_back v h = omega arith

-- The bytes of a node behind others.
module _ (before : List ℕ) (r : NodeRecord) (after : List ℕ) where
  abbrev bytes : List ℕ
  bytes = before ++ (node_bytes r ++ after)

  byte_behind : (k : ℕ) → byte_at bytes (length before + k) ≡ byte_at (node_bytes r ++ after) k
  byte_behind k = get_or-append-add before (node_bytes r ++ after) k 0

  node_back : Narrow r → node_record bytes (length before) ≡ r
  node_back h =
      let zeroth : byte_at bytes (length before) ≡ r.kind = rw add-zero at (byte_behind 0) in
      λ i. record {
        kind = zeroth i;
        arg = byte_behind 1 i;
        first = (two 2 r.first h.first (byte_behind 2) (shifted 2)) i;
        second = (two 4 r.second h.second (byte_behind 4) (shifted 4)) i;
        third = (two 6 r.third h.third (byte_behind 6) (shifted 6)) i;
      }
    where
      shifted : (k : ℕ) → byte_at bytes (length before + k + 1) ≡ byte_at (node_bytes r ++ after) (k + 1)
      shifted k = let e : length before + k + 1 ≡ length before + (k + 1) = omega arith in rw e (byte_behind (k + 1))

      two : (k v : ℕ) → v < 65536 → byte_at bytes (length before + k) ≡ v % 256 → byte_at bytes (length before + k + 1) ≡ v / 256 % 256
          → two_bytes_at bytes (length before + k) ≡ v
      two k v narrow low high = rw (low, high) (two_back v narrow)

bytes_more : (before : List ℕ) (r : NodeRecord) (after : List ℕ) → before ++ (node_bytes r ++ after) ≡ (before ++ node_bytes r) ++ after
bytes_more before r after = sym (append_assoc before (node_bytes r) after)

records_back : (nodes : List NodeRecord) → AllNarrow nodes → (before after : List ℕ) (at : ℕ) → at ≡ length before
    → node_records (length nodes) (before ++ (flat_map node_bytes nodes ++ after)) at ≡ nodes
unfolding nodes_read flat_map
records_back [] none before after at e = refl
records_back (r ∷ rs) (more _ _ h hs) before after at e =
    let whole : before ++ ((node_bytes r ++ flat_map node_bytes rs) ++ after) ≡ before ++ (node_bytes r ++ (flat_map node_bytes rs ++ after)) =
    ap (λ (l : List ℕ). before ++ l) (append_assoc (node_bytes r) (flat_map node_bytes rs) after) in
    let next : at + 8 ≡ length (before ++ node_bytes r) = rw (e, length-append) refl in
    ap₂ (λ (x : NodeRecord) (y : List NodeRecord). x ∷ y)
    (rw (whole, e) (node_back before r (flat_map node_bytes rs ++ after) h))
    (ap (λ (l : List ℕ). node_records (length rs) l (at + 8)) (whole ∙ bytes_more before r (flat_map node_bytes rs ++ after))
    ∙ records_back rs hs (before ++ node_bytes r) after (at + 8) next)

-- A table that is written to bytes reads back.
pub table_back : (nodes : List NodeRecord) → AllNarrow nodes → table_of (flat_map node_bytes nodes) ≡ nodes
unfolding table_of
table_back nodes h =
    let count : count_of (flat_map node_bytes nodes) ≡ length nodes = let l = nodes_length nodes in omega arith in
    rw count (ap (λ (l : List ℕ). node_records (length nodes) l 0) (sym (append-nil (flat_map node_bytes nodes))) ∙ records_back nodes h [] [] 0 refl)
