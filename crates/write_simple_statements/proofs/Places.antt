-- The form and the count of a value put into a place.
use Rattle.std.specs.Prelude.{◌≡◌, ◌&&◌, ◌+◌}
use Rattle.kit.specs.Names.{refl, ap, sym, ◌∙◌, Bool, true, false, cond, not, List, Option, none, some, ℕ, suc, arith}
use Rattle.kit.specs.Names.{add-one, eqb, length, ne_eqb}
use Rattle.definitions.specs.ContractFile.{Name, Owner, everyone, owned_by, FieldOwner, to_everyone, to_key, to_final, Expression, Scope, field_at, is_everyone, field_owner_code}
use Rattle.definitions.specs.Owners.{is_public, place_owner, owner_of}
use Rattle.definitions.specs.Rewriting.{supplying, in_body, in_circuit, in_place, leaf, body_tree}
use Rattle.file_accepted.specs.Context.{fields_in}
use Rattle.write_variable_counts.specs.Counts.{body_count, circuit_count}
use Rattle.write_variable_counts.proofs.Counts.{body_makes, circuit_makes}
use Rattle.write_reads.specs.Forms.{body_form}
use Rattle.write_simple_statements.specs.Places.{placed_form, placed_count, PrivatePlace}

module _ (scope : Scope) (e : Expression) where
  supplied_tree : (n : Name) (public : Bool) (i : ℕ)
      → body_tree (cond public (supplying (owned_by n) e (in_circuit (owner_of scope) e)) (in_body (owner_of scope) e) i).form ≡ cond public (leaf 9 0 i 0) (body_form scope e i)
  unfolding supplying body_tree
  supplied_tree n true i = refl
  supplied_tree n false i = refl

  pub placed_tree : (o : Owner) (i : ℕ) → body_tree (in_place (owner_of scope) o e i).form ≡ placed_form scope (not (is_everyone o)) e i
  placed_tree everyone i = refl
  placed_tree (owned_by n) i = supplied_tree n (is_public scope e) i

  supplied_count : (n : Name) (public : Bool) (i : ℕ)
      → length (cond public (supplying (owned_by n) e (in_circuit (owner_of scope) e)) (in_body (owner_of scope) e) i).variables ≡ cond public (circuit_count scope e + 1) (body_count scope e)
  unfolding supplying
  supplied_count n true i = ap suc ((circuit_makes scope e).length (suc i)) ∙ sym (add-one (circuit_count scope e))
  supplied_count n false i = (body_makes scope e).length i

  pub placed_makes : (o : Owner) (i : ℕ) → length (in_place (owner_of scope) o e i).variables ≡ placed_count scope (not (is_everyone o)) e
  placed_makes everyone i = (body_makes scope e).length i
  placed_makes (owned_by n) i = supplied_count n (is_public scope e) i

-- A place is private where its field's owner code is not 0.
private_owner : (o : FieldOwner) (key : Option Name) → not (eqb (field_owner_code o) 0) ≡ not (is_everyone (place_owner o key))
private_owner to_everyone key = refl
private_owner to_key none = refl
private_owner to_key (some n) = refl
private_owner (to_final f) key = let e : eqb (16 + f) 0 ≡ false = ne_eqb (16 + f) 0 (λ h. omega arith) in rw e

pub private_place : (file : List ℕ) (f code : ℕ) → code ≡ field_owner_code (field_at (fields_in file) f).owner → PrivatePlace file f (not (eqb code 0))
private_place file f code h = record { test = λ key. rw h (private_owner (field_at (fields_in file) f).owner key) }

-- What code finds out about a value, and what is then to be written.
module _ (scope : Scope) (e : Expression) (i : ℕ) (private public : Bool) (found : public ≡ is_public scope e) where
  pub placed_supplied : private ≡ true → public ≡ true → placed_form scope private e i ≡ leaf 9 0 i 0
  placed_supplied h k = rw (h, ← found, k)

  pub placed_private : public ≡ false → placed_form scope private e i ≡ body_form scope e i
  placed_private k = rw (← found, k) (go private)
    where
      go : (b : Bool) → cond (b && false) (leaf 9 0 i 0) (body_form scope e i) ≡ body_form scope e i
      go true = refl
      go false = refl

  pub counted_private : public ≡ false → body_count scope e ≡ placed_count scope private e
  counted_private k = rw (← found, k) (go private)
    where
      go : (b : Bool) → body_count scope e ≡ cond (b && false) (circuit_count scope e + 1) (body_count scope e)
      go true = refl
      go false = refl
