-- The links that a condition's node gives, by its kind.
use Rattle.std.specs.Prelude.{◌≡◌, ◌+◌, ◌/◌}
use Rattle.kit.specs.Names.{refl, List, ℕ, zero, suc, length}
use Rattle.definitions.specs.ContractFile.{Expression, Scope, operator_of}
use Rattle.definitions.specs.Owners.{Links, links_of_condition, with_link_of, name_of}
use Rattle.rules_owners.specs.Numbering.{name_with}
use Rattle.rules_scopes.specs.Scopes.{Ready}

-- A condition that is no equality and no "and" links nothing.
other_links : (scope : Scope) (left right : Expression) (linked : Links) (code : ℕ) → (code ≡ 7 → ⊥) → (code ≡ 9 → ⊥)
    → links_of_condition scope (Expression.operator (operator_of code) left right) linked ≡ linked
unfolding links_of_condition
other_links scope left right linked zero a b = refl
other_links scope left right linked (suc zero) a b = refl
other_links scope left right linked (suc (suc zero)) a b = refl
other_links scope left right linked (suc (suc (suc zero))) a b = refl
other_links scope left right linked (suc (suc (suc (suc zero)))) a b = refl
other_links scope left right linked (suc (suc (suc (suc (suc zero))))) a b = refl
other_links scope left right linked (suc (suc (suc (suc (suc (suc zero)))))) a b = refl
other_links scope left right linked (suc (suc (suc (suc (suc (suc (suc zero))))))) a b = absurd (a refl)
other_links scope left right linked (suc (suc (suc (suc (suc (suc (suc (suc zero)))))))) a b = refl
other_links scope left right linked (suc (suc (suc (suc (suc (suc (suc (suc (suc zero))))))))) a b = absurd (b refl)
other_links scope left right linked (suc (suc (suc (suc (suc (suc (suc (suc (suc (suc zero)))))))))) a b = refl
other_links scope left right linked (suc (suc (suc (suc (suc (suc (suc (suc (suc (suc (suc n))))))))))) a b = refl

module _ (scope : Scope) (linked : Links) (e left right : Expression) (code : ℕ) (tree : e ≡ Expression.operator (operator_of code) left right) where
  -- "name == name"
  pub equality_learnt : (l r : ℕ) → code ≡ 7 → name_of scope left ≡ name_with l → name_of scope right ≡ name_with r
      → with_link_of (name_with l) (name_with r) linked ≡ links_of_condition scope e linked
  unfolding links_of_condition
  equality_learnt l r is h k = rw (tree, is, h, k)

  -- "or of an "and" tree holding such"
  pub conjunction_learnt : (between : Links) → code ≡ 9 → between ≡ links_of_condition scope left linked
      → links_of_condition scope right between ≡ links_of_condition scope e linked
  unfolding links_of_condition
  conjunction_learnt between is h = rw (tree, is, h)

  pub no_name_learnt : (code ≡ 7 → ⊥) → (code ≡ 9 → ⊥) → linked ≡ links_of_condition scope e linked
  no_name_learnt a b = rw (tree, other_links scope left right linked code a b)
