-- A list filled from its front on until it is the list meant.
use Rattle.std.specs.Prelude.{◌≡◌, ◌∷◌, ◌++◌, ◌+◌, ◌<◌, ◌≤◌}
use Rattle.kit.specs.Names.{ap, ap₂, sym, ◌∙◌, List, [], ℕ, suc, add-one, length, get_or, take, set, take-suc}
use Rattle.kit.specs.Names.{take-suc-set, take_all}

module _ {A : Type 0} (target : List A) where
  pub filled_more : (held after : List A) (i : ℕ) (item other : A) → i < length held → i < length target → take i held ≡ take i target
      → item ≡ get_or target i other → after ≡ set held i item → take (i + 1) after ≡ take (i + 1) target
  filled_more held after i item other inside within same e put =
      ap (λ (n : ℕ). take n after) (add-one i) ∙ ap (take (suc i)) put ∙ take-suc-set held i item inside
      ∙ ap₂ (λ (front : List A) (last : A). front ++ (last ∷ [])) same e ∙ sym (take-suc target i other within) ∙ ap (λ (n : ℕ). take n target) (sym (add-one i))

  pub filled_all : (held : List A) (i : ℕ) → length target ≤ i → take i held ≡ take i target → take i held ≡ target
  filled_all held i h same = same ∙ take_all i target h

  pub filled_whole : (held : List A) (i : ℕ) → length target ≤ i → length held ≤ i → take i held ≡ take i target → held ≡ target
  filled_whole held i h l same = sym (take_all i held l) ∙ filled_all held i h same
