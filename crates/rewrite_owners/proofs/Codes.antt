-- The codes of owners are those of the tables, and follow from the codes of the parts.
use Rattle.std.specs.Prelude.{◌≡◌, ◌&&◌, ◌||◌, ◌+◌, ◌-◌, ◌≤◌, ◌<◌}
use Rattle.kit.specs.Names.{refl, ap, sym, ◌∙◌, Bool, true, false, cond, Option, none, some, ℕ, arith}
use Rattle.kit.specs.Names.{eqb, leb, eqb-true, eqb-false, leb-true, ne_eqb}
use Rattle.definitions.specs.Basics.{is_zero}
use Rattle.definitions.specs.ContractFile.{Name, me_name, final_name, parameter_name, Owner, everyone, owned_by, FieldOwner, to_everyone, to_key, to_final, is_everyone, FieldRecord, is_final_code, is_parameter_code, owner_of_code, field_owner_of_code, owner_code, field_owner_code}
use Rattle.definitions.specs.Owners.{owner_of_parts, place_owner}
use Rattle.definitions.specs.Numbers.{field_in_tables, target_in_tables}
use Rattle.theory_laws.proofs.TruthValues.{and_left, and_right}
use Rattle.rewrite_owners.specs.Codes.{name_code, parts_code, place_code}

not_zero : (k n : ℕ) → 0 < k → eqb (k + n) 0 ≡ false
not_zero k n h = ne_eqb (k + n) 0 (λ e. omega arith)

pub parts_code_law : (left right : Owner) → owner_code (owner_of_parts left right) ≡ parts_code (owner_code left) (owner_code right)
parts_code_law everyone everyone = refl
parts_code_law everyone (owned_by me_name) = refl
parts_code_law everyone (owned_by (final_name f)) = rw (not_zero 16 f (omega arith))
parts_code_law everyone (owned_by (parameter_name k)) = rw (not_zero 128 k (omega arith))
parts_code_law (owned_by me_name) right = refl
parts_code_law (owned_by (final_name f)) right = rw (not_zero 16 f (omega arith))
parts_code_law (owned_by (parameter_name k)) right = rw (not_zero 128 k (omega arith))

pub place_code_law : (owner : FieldOwner) (key : Option Name) → owner_code (place_owner owner key) ≡ place_code (field_owner_code owner) (name_code key)
place_code_law to_everyone key = refl
place_code_law to_key none = refl
place_code_law to_key (some me_name) = refl
place_code_law to_key (some (final_name f)) = rw (not_zero 16 f (omega arith))
place_code_law to_key (some (parameter_name k)) = rw (not_zero 128 k (omega arith))
place_code_law (to_final f) key = let e : eqb (16 + f) 2 ≡ false = ne_eqb (16 + f) 2 (λ e. omega arith) in rw e

-- A code of the tables is the code of the owner that it stands for.
final_code : (code : ℕ) → is_final_code code ≡ true → 16 + (code - 16) ≡ code
final_code code h = let low : 16 ≤ code = leb-true 16 code (and_left (leb 16 code) _ h) in omega arith

pub field_code : (shape code : ℕ) → is_zero code || is_final_code code || (eqb code 2 && eqb shape 2) ≡ true → field_owner_code (field_owner_of_code code) ≡ code
field_code shape code = go (eqb code 0) (eqb code 2) refl refl
  where
    go : (zero two : Bool) → eqb code 0 ≡ zero → eqb code 2 ≡ two → zero || is_final_code code || (two && eqb shape 2) ≡ true
        → field_owner_code (cond zero to_everyone (cond two to_key (to_final (code - 16)))) ≡ code
    go true two e f h = sym (eqb-true code 0 e)
    go false true e f h = sym (eqb-true code 2 f)
    go false false e f h = final_code code (last (is_final_code code) h)
      where
        last : (a : Bool) → a || false ≡ true → a ≡ true
        last true k = refl
        last false k = k

pub field_listed_law : (r : FieldRecord) → field_in_tables r ≡ true → field_owner_code (field_owner_of_code r.owner) ≡ r.owner
unfolding field_in_tables
field_listed_law r h =
    field_code r.shape r.owner
    (and_right (leb r.shape 2 && leb r.type 2) _ (and_left (leb r.shape 2 && leb r.type 2 && (is_zero r.owner || is_final_code r.owner || (eqb r.owner 2 && eqb r.shape 2))) _ h))

pub target_code : (code : ℕ) → target_in_tables code ≡ true → owner_code (owner_of_code code) ≡ code
target_code code = go (eqb code 0) (eqb code 1) (is_final_code code) refl refl refl
  where
    go : (zero one final : Bool) → eqb code 0 ≡ zero → eqb code 1 ≡ one → is_final_code code ≡ final → leb code 1 || final || is_parameter_code code ≡ true
        → owner_code (cond zero everyone (cond one (owned_by me_name) (cond final (owned_by (final_name (code - 16))) (owned_by (parameter_name (code - 128)))))) ≡ code
    go true one final a b c h = sym (eqb-true code 0 a)
    go false true final a b c h = sym (eqb-true code 1 b)
    go false false true a b c h = final_code code c
    go false false false a b c h = parameter (leb code 1) refl h
      where
        parameter : (small : Bool) → leb code 1 ≡ small → small || false || is_parameter_code code ≡ true → 128 + (code - 128) ≡ code
        parameter true e k =
            let low : code ≤ 1 = leb-true code 1 e in
            let zero = eqb-false code 0 a in
            let one = eqb-false code 1 b in
            absurd (omega arith)
        parameter false e k = let low : 128 ≤ code = leb-true 128 code (and_left (leb 128 code) _ k) in omega arith

-- Code 0 is that of everyone, and of nobody else.
pub code_everyone : (o : Owner) → 0 ≡ owner_code o → o ≡ everyone
code_everyone everyone h = refl
code_everyone (owned_by me_name) h = absurd (omega arith)
code_everyone (owned_by (final_name f)) h = absurd (omega arith)
code_everyone (owned_by (parameter_name k)) h = absurd (omega arith)

pub code_public : (r : ℕ) (o : Owner) → r ≡ owner_code o → r ≡ 0 → is_everyone o ≡ true
code_public r o h e = ap is_everyone (code_everyone o (sym e ∙ h))

pub code_private : (r : ℕ) (o : Owner) → r ≡ owner_code o → (r ≡ 0 → ⊥) → is_everyone o ≡ false
code_private r everyone h e = absurd (e h)
code_private r (owned_by n) h e = refl

pub public_test : (r : ℕ) (o : Owner) → r ≡ owner_code o → eqb r 0 ≡ is_everyone o
public_test r everyone h = rw h
public_test r (owned_by me_name) h = rw h
public_test r (owned_by (final_name f)) h = rw (h, not_zero 16 f (omega arith))
public_test r (owned_by (parameter_name k)) h = rw (h, not_zero 128 k (omega arith))
