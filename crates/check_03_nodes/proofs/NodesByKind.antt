-- A constant against the tables by its type, and a node by its kind's number.
use Rattle.std.specs.Prelude.{◌≡◌, ◌&&◌, ◌||◌, ◌⊎◌}
use Rattle.kit.specs.Names.{refl, ap, sym, false, inl, inr, ℕ, zero, suc, arith, eqb, leb, ltb, ne_eqb, lt-leb}
use Rattle.definitions.specs.ContractFile.{NodeRecord, data_type_of, is_of_type, kind_of}
use Rattle.definitions.specs.Numbers.{kind_in_tables, node_in_tables}
use Rattle.file_children.proofs.Truth.{or-false}

pub constants : (t v : ℕ)
    → (eqb t 0 && ltb v 2 || eqb t 1 && ltb v 4294967296 || eqb t 2 && ltb v 16) ≡ (leb t 2 && is_of_type (data_type_of t) v)
constants zero v = rw (or-false (ltb v 2 || false), or-false (ltb v 2))
constants (suc zero) v = or-false (ltb v 4294967296)
constants (suc (suc zero)) v = refl
constants (suc (suc (suc t))) v =
    rw (ne_eqb (suc (suc (suc t))) 0 (λ e. omega arith), ne_eqb (suc (suc (suc t))) 1 (λ e. omega arith))
    (rw (ne_eqb (suc (suc (suc t))) 2 (λ e. omega arith), lt-leb (suc (suc (suc t))) 2 (omega arith)))

-- A node of a known kind.
pub of_kind : (r : NodeRecord) (n : ℕ) → r.kind ≡ n → kind_in_tables (kind_of n) r ≡ node_in_tables r
of_kind r n e = ap (λ (m : ℕ). kind_in_tables (kind_of m) r) (sym e)

-- A kind that is none of the listed ones.
pub of_no_kind : (r : NodeRecord) → (r.kind ≡ 1 → ⊥) → ((r.kind ≡ 2) ⊎ (r.kind ≡ 16) → ⊥) → ((r.kind ≡ 3) ⊎ (r.kind ≡ 5) → ⊥)
    → ((r.kind ≡ 4) ⊎ (r.kind ≡ 18) → ⊥) → (r.kind ≡ 6 → ⊥) → ((r.kind ≡ 7) ⊎ (r.kind ≡ 20) → ⊥) → (r.kind ≡ 8 → ⊥) → (r.kind ≡ 17 → ⊥)
    → (r.kind ≡ 19 → ⊥) → (r.kind ≡ 21 → ⊥) → false ≡ node_in_tables r
unfolding kind_of kind_in_tables
of_no_kind r n1 n2 n3 n4 n6 n7 n8 n17 n19 n21 =
    rw (ne_eqb _ 1 n1, ne_eqb _ 2 (λ e. n2 (inl e)), ne_eqb _ 3 (λ e. n3 (inl e)), ne_eqb _ 4 (λ e. n4 (inl e)), ne_eqb _ 5 (λ e. n3 (inr e)))
    (rw (ne_eqb _ 6 n6, ne_eqb _ 7 (λ e. n7 (inl e)), ne_eqb _ 8 n8, ne_eqb _ 16 (λ e. n2 (inr e)), ne_eqb _ 17 n17)
    (rw (ne_eqb _ 18 (λ e. n4 (inr e)), ne_eqb _ 19 n19, ne_eqb _ 20 (λ e. n7 (inr e)), ne_eqb _ 21 n21)))
