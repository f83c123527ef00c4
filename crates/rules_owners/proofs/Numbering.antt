-- Owners by number are the owners that the file's codes name.
use Rattle.std.specs.Prelude.{◌≡◌, ◌&&◌, ◌||◌, ◌+◌, ◌-◌, ◌≤◌, ◌<◌}
use Rattle.kit.specs.Names.{refl, sym, Bool, true, false, cond, or-false, false≢true, ℕ, arith, eqb, leb, ltb}
use Rattle.kit.specs.Names.{ltb-true, ltb-false, leb-true, leb-false, eqb-true, eqb-false, lt-ltb, le-ltb, lt-leb, ne_eqb}
use Rattle.definitions.specs.Basics.{is_zero, any}
use Rattle.definitions.specs.ContractFile.{me_name, final_name, parameter_name, Owner, everyone, owned_by, is_final_code, owner_of_code, field_owner_of_code}
use Rattle.definitions.specs.ContractFile.{field_of_owner, FieldRecord}
use Rattle.definitions.specs.Numbers.{target_in_tables, field_in_tables, field_of_declared_owner}
use Rattle.theory_laws.proofs.TruthValues.{and_left, and_parts, or_left}
use Rattle.rules_owners.specs.Numbering.{name_numbered, owner_with, number_of_name, number_of_owner, is_field_code, declared_number, declared_owner}

pub below_eqb : (a b : ℕ) → a < b → eqb a b ≡ false
below_eqb a b h = ne_eqb a b (λ (e : a ≡ b). omega arith)

pub above_eqb : (a b : ℕ) → b < a → eqb a b ≡ false
above_eqb a b h = ne_eqb a b (λ (e : a ≡ b). omega arith)

minus_back : (k n : ℕ) → k + n - k ≡ n
minus_back k n = omega arith

pub argument_numbered : (k : ℕ) → k < 8 → name_numbered (2 + k) ≡ parameter_name k
argument_numbered k h = rw (above_eqb (2 + k) 1 (omega arith), lt-ltb (2 + k) 10 (omega arith), minus_back 2 k)

pub final_numbered : (f : ℕ) → name_numbered (10 + f) ≡ final_name f
final_numbered f = rw (above_eqb (10 + f) 1 (omega arith), le-ltb (10 + f) 10 (omega arith), minus_back 10 f)

-- A number other than 0 is the caller's, a parameter's or a final's.
pub data Numbered (n : ℕ) : Type 0 where
  caller : n ≡ 1 → Numbered n
  argument : (k : ℕ) → k < 8 → n ≡ 2 + k → Numbered n
  final : (f : ℕ) → n ≡ 10 + f → Numbered n

pub numbered : (n : ℕ) → (n ≡ 0 → ⊥) → Numbered n
numbered n some_name = go (eqb n 1) refl (ltb n 10) refl
  where
    go : (a : Bool) → eqb n 1 ≡ a → (b : Bool) → ltb n 10 ≡ b → Numbered n
    go true p b q = caller (eqb-true n 1 p)
    go false p true q = let x = eqb-false n 1 p in let y = ltb-true n 10 q in argument (n - 2) (omega arith) (omega arith)
    go false p false q = let y = ltb-false n 10 q in final (n - 10) (omega arith)

pub name_back : (n : ℕ) → (n ≡ 0 → ⊥) → number_of_name (name_numbered n) ≡ n
name_back n some_name = go (numbered n some_name)
  where
    go : Numbered n → number_of_name (name_numbered n) ≡ n
    go (caller e) = rw e
    go (argument k h e) = rw (e, argument_numbered k h)
    go (final f e) = rw (e, final_numbered f)

pub number_back : (n : ℕ) → number_of_owner (owner_with n) ≡ n
number_back n = go (eqb n 0) refl
  where
    go : (t : Bool) → eqb n 0 ≡ t → number_of_owner (cond t everyone (owned_by (name_numbered n))) ≡ n
    go true h = sym (eqb-true n 0 h)
    go false h = name_back n (eqb-false n 0 h)

-- What a reveal's owner code names.
pub data Target (code : ℕ) : Owner → Type 0 where
  nobody : code ≡ 0 → Target code everyone
  caller : code ≡ 1 → Target code (owned_by me_name)
  final : (f : ℕ) → f < 64 → code ≡ 16 + f → Target code (owned_by (final_name f))
  argument : (k : ℕ) → k < 8 → code ≡ 128 + k → Target code (owned_by (parameter_name k))

module _ (code : ℕ) (h : target_in_tables code ≡ true) where
  pub target : Target code (owner_of_code code)
  target = go (eqb code 0) refl (eqb code 1) refl (is_final_code code) refl
    where
      go : (a : Bool) → eqb code 0 ≡ a → (b : Bool) → eqb code 1 ≡ b → (c : Bool) → is_final_code code ≡ c → Target code
          (cond a everyone (cond b (owned_by me_name) (cond c (owned_by (final_name (code - 16))) (owned_by (parameter_name (code - 128))))))
      go true p b q c r = nobody (eqb-true code 0 p)
      go false p true q c r = caller (eqb-true code 1 q)
      go false p false q true r =
          let (x, y) = and_parts (leb 16 code) (ltb code 80) r in
          let low = leb-true 16 code x in
          final (code - 16) (omega (arith, ltb-true code 80 y)) (omega arith)
      go false p false q false r =
          let high = lt-leb code 1 (omega (arith, eqb-false code 0 p, eqb-false code 1 q)) in
          let (x, y) = and_parts (leb 128 code) (ltb code 136) (rw (high, r) at h) in
          let low = leb-true 128 code x in
          argument (code - 128) (omega (arith, ltb-true code 136 y)) (omega arith)

  pub target_owner : owner_with (number_of_owner (owner_of_code code)) ≡ owner_of_code code
  target_owner = go target
    where
      go : {o : Owner} → Target code o → owner_with (number_of_owner o) ≡ o
      go (nobody e) = refl
      go (caller e) = refl
      go (final f p e) = rw (above_eqb (10 + f) 0 (omega arith), final_numbered f)
      go (argument k p e) = rw (above_eqb (2 + k) 0 (omega arith), argument_numbered k p)

  -- A target names no final that the contract has no field for.
  pub target_below : (fields : ℕ) → any (leb fields) (field_of_owner (owner_of_code code)) ≡ false → number_of_owner (owner_of_code code) < 10 + fields
  unfolding any
  target_below fields = go target
    where
      go : {o : Owner} → Target code o → any (leb fields) (field_of_owner o) ≡ false → number_of_owner o < 10 + fields
      go (nobody e) none = omega arith
      go (caller e) none = omega arith
      go (final f p e) none = omega (arith, leb-false fields f (or_left (leb fields f) false none))
      go (argument k p e) none = omega arith

-- What the code reads off a reveal's code.
pub target_read : {code : ℕ} {o : Owner} → Target code o → (code < 2 → code ≡ number_of_owner o)
    × (2 ≤ code → code < 80 → (6 ≤ code) × (code - 6 ≡ number_of_owner o)) × (80 ≤ code → (126 ≤ code) × (code - 126 ≡ number_of_owner o))
target_read (nobody e) = omega arith
target_read (caller e) = omega arith
target_read (final f p e) = omega arith
target_read (argument k p e) = omega arith

-- A field's owner code, by number: it is that of its owner, none or a final's, and no final's that the contract has no field for.
module _ (code fields : ℕ) (h : is_field_code code ≡ true) (none : any (leb fields) (field_of_declared_owner (field_owner_of_code code)) ≡ false) where
  pub declared_is : (field_owner_of_code code ≡ declared_owner (declared_number code) (eqb code 2))
      × (declared_number code < 10 + fields) × (0 < declared_number code → 10 ≤ declared_number code)
  unfolding any
  declared_is = go (eqb code 0) refl (eqb code 2) refl
    where
      go : (a : Bool) → eqb code 0 ≡ a → (b : Bool) → eqb code 2 ≡ b → (field_owner_of_code code ≡ declared_owner (declared_number code) (eqb code 2))
          × (declared_number code < 10 + fields) × (0 < declared_number code → 10 ≤ declared_number code)
      go true p b q = rw (eqb-true code 0 p) (refl, omega arith, omega arith)
      go false p true q = rw (eqb-true code 2 q) (refl, omega arith, omega arith)
      go false p false q =
          let low = leb-true 16 code (and_left (leb 16 code) (ltb code 80) (rw or-false at (rw (p, q) at h))) in
          let there = leb-false fields (code - 16) (or_left (leb fields (code - 16)) false (rw (p, q) at none)) in
          let shift : code - 6 - 10 ≡ code - 16 = omega arith in
          rw (p, q, le-ltb code 16 low, above_eqb (code - 6) 0 (omega arith), shift) (refl, omega arith, omega arith)

-- A listed field's three codes.
pub field_codes : (r : FieldRecord) → field_in_tables r ≡ true → (leb r.shape 2 ≡ true) × (leb r.type 2 ≡ true) × (is_field_code r.owner ≡ true)
unfolding field_in_tables
field_codes r h = go (leb r.shape 2) (leb r.type 2) (is_zero r.owner) (is_final_code r.owner) (eqb r.owner 2) (eqb r.shape 2) _ h
  where
    go : (shape type a b c d last : Bool) → (shape && type && (a || b || (c && d)) && last) ≡ true
        → (shape ≡ true) × (type ≡ true) × ((a || b || c) ≡ true)
    go true true true b c d last p = (refl, refl, refl)
    go true true false true c d last p = (refl, refl, refl)
    go true true false false true d last p = (refl, refl, refl)
    go true true false false false d last p = (refl, refl, p)
    go true false a b c d last p = absurd (false≢true p)
    go false type a b c d last p = absurd (false≢true p)
