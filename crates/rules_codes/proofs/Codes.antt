-- Rules told of numbers are the rules that the definitions tell of data types and owners.
use Rattle.std.specs.Prelude.{◌≡◌, ◌&&◌, ◌+◌, ◌-◌, ◌≤◌, ◌<◌}
use Rattle.kit.specs.Names.{refl, sym, ◌∙◌, Bool, true, false, not, cond, List, none, some, ℕ, zero, suc}
use Rattle.kit.specs.Names.{arith, eqb, get_or, eqb-false, ne_eqb, le-ltb, get_or_eq_default}
use Rattle.definitions.specs.ContractFile.{me_name, Owner, everyone, owned_by, to_everyone, to_key, to_final, operator_code, is_everyone, operator_of, Field}
use Rattle.definitions.specs.Owners.{Links, is_reader, place_owner, owner_of_parts}
use Rattle.definitions.specs.Numbers.{is_tagged, is_none, may_be_put, fault}
use Rattle.rules_faults.specs.Faults.{least_fault}
use Rattle.rules_faults.proofs.Faults.{least_one, counted_11, counted_15}
use Rattle.rules_owners.specs.Numbering.{name_numbered, name_with, owner_with, declared_owner}
use Rattle.rules_owners.proofs.Numbering.{above_eqb}
use Rattle.rules_scopes.specs.Scopes.{IsField}
use Rattle.rules_scopes.specs.declared.Declared.{Declared}
use Rattle.rules_links.specs.Classes.{linked_by}
use Rattle.rules_links.proofs.Joining.{linked_numbers}
use Rattle.rules_codes.specs.Codes.{HasClass, place_number, parts_number}

pub operator_listed : (code : ℕ) → code ≤ 10 → code ≡ operator_code (operator_of code)
operator_listed zero h = refl
operator_listed (suc zero) h = refl
operator_listed (suc (suc zero)) h = refl
operator_listed (suc (suc (suc zero))) h = refl
operator_listed (suc (suc (suc (suc zero)))) h = refl
operator_listed (suc (suc (suc (suc (suc zero))))) h = refl
operator_listed (suc (suc (suc (suc (suc (suc zero)))))) h = refl
operator_listed (suc (suc (suc (suc (suc (suc (suc zero))))))) h = refl
operator_listed (suc (suc (suc (suc (suc (suc (suc (suc zero)))))))) h = refl
operator_listed (suc (suc (suc (suc (suc (suc (suc (suc (suc zero))))))))) h = refl
operator_listed (suc (suc (suc (suc (suc (suc (suc (suc (suc (suc zero)))))))))) h = refl
operator_listed (suc (suc (suc (suc (suc (suc (suc (suc (suc (suc (suc n))))))))))) h = absurd (omega arith)

pub operator_unlisted : (code : ℕ) → 10 < code → 0 ≡ operator_code (operator_of code)
operator_unlisted code h = rw get_or_eq_default

pub public_code : (owner : ℕ) → is_everyone (owner_with owner) ≡ eqb owner 0
public_code owner = go (eqb owner 0)
  where
    go : (b : Bool) → is_everyone (cond b everyone (owned_by (name_numbered owner))) ≡ b
    go true = refl
    go false = refl

pub parts_code_law : (left right : ℕ) → owner_of_parts (owner_with left) (owner_with right) ≡ owner_with (parts_number left right)
parts_code_law left right = go (eqb left 0) (eqb right 0)
  where
    go : (a b : Bool) → owner_of_parts (cond a everyone (owned_by (name_numbered left))) (cond b everyone (owned_by (name_numbered right))) ≡ owner_with (cond (a && b) 0 1)
    go true true = refl
    go true false = refl
    go false true = refl
    go false false = refl

pub no_name : (name : ℕ) → is_none (name_with name) ≡ eqb name 0
no_name name = go (eqb name 0)
  where
    go : (b : Bool) → is_none (cond b none (some (name_numbered name))) ≡ b
    go true = refl
    go false = refl

pub tagged_code : (owner : ℕ) (tagged : Bool) → is_tagged (declared_owner owner tagged) ≡ tagged
tagged_code owner true = refl
tagged_code owner false = go (eqb owner 0)
  where
    go : (b : Bool) → is_tagged (cond b to_everyone (to_final (owner - 10))) ≡ false
    go true = refl
    go false = refl

-- The owner of a parameter is the caller or all.
pub caller_code : (private : Bool) → cond private (owned_by me_name) everyone ≡ owner_with (cond private 1 0)
caller_code true = refl
caller_code false = refl

module _ (count : ℕ) where
  either_listed : (b : Bool) (m n : ℕ) → m < count → n < count → cond b m n < count
  either_listed true m n h k = h
  either_listed false m n h k = k

  pub caller_listed : 10 ≤ count → (private : Bool) → cond private 1 0 < count
  caller_listed enough private = either_listed private 1 0 (omega arith) (omega arith)

  pub parts_listed : 10 ≤ count → (left right : ℕ) → parts_number left right < count
  parts_listed enough left right = either_listed (eqb left 0 && eqb right 0) 0 1 (omega arith) (omega arith)

module _ (fields : ℕ) (d : Field) (r : Declared) (name : ℕ) (i : IsField fields d r) where
  pub place_owner_law : place_owner d.owner (name_with name) ≡ owner_with (place_number r name)
  place_owner_law = rw i.owner (go r.tagged)
    where
      key : (b : Bool) → eqb name 0 ≡ b → place_owner to_key (cond b none (some (name_numbered name))) ≡ owner_with (cond b 1 name)
      key true p = refl
      key false p = rw p

      own : (b : Bool) → eqb r.owner 0 ≡ b
          → place_owner (cond b to_everyone (to_final (r.owner - 10))) (name_with name) ≡ cond b everyone (owned_by (name_numbered r.owner))
      own true p = refl
      own false p =
          let n = eqb-false r.owner 0 p in
          let h = i.final (omega arith) in
          rw (above_eqb r.owner 1 (omega arith), le-ltb r.owner 10 h)

      go : (tagged : Bool) → place_owner (declared_owner r.owner tagged) (name_with name) ≡ owner_with (cond tagged (cond (eqb name 0) 1 name) r.owner)
      go true = key (eqb name 0) refl
      go false = own (eqb r.owner 0) refl

  pub place_listed : (count : ℕ) → 10 + fields ≤ count → name < count → place_number r name < count
  place_listed count h k =
      let l = i.listed in
      either_listed count r.tagged (cond (eqb name 0) 1 name) r.owner (either_listed count (eqb name 0) 1 name (omega arith) k) (omega arith)

-- "a name linked to me is the caller": what the caller's place may take.
reader_code : (linked : Links) (owner : Owner) → is_reader linked owner ≡ may_be_put linked owner (owned_by me_name)
reader_code linked everyone = refl
reader_code linked (owned_by n) = refl

module _ (classes : List ℕ) (value place : ℕ) (may : Bool) where
  pub put_linked : HasClass classes value → HasClass classes place → (value ≡ 0 → ⊥) → (place ≡ 0 → ⊥)
      → may ≡ eqb (get_or classes value 0) (get_or classes place 0) → may ≡ may_be_put (linked_by classes) (owner_with value) (owner_with place)
  put_linked h k n m e =
      rw (ne_eqb value 0 n, ne_eqb place 0 m) (e ∙ sym (linked_numbers classes value place h.enough h.there k.there n m))

  pub put_fault : may ≡ may_be_put (linked_by classes) (owner_with value) (owner_with place)
      → cond (not may) 15 16 ≡ least_fault (fault (not (may_be_put (linked_by classes) (owner_with value) (owner_with place))) 15)
  put_fault e = rw (← e) (sym (least_one (not may) 15 counted_15))

  pub read_fault_law : may ≡ may_be_put (linked_by classes) (owner_with value) (owner_with 1)
      → cond (not may) 11 16 ≡ least_fault (fault (not (is_reader (linked_by classes) (owner_with value))) 11)
  read_fault_law e = rw (reader_code (linked_by classes) (owner_with value), ← e) (sym (least_one (not may) 11 counted_11))
