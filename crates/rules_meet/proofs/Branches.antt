-- Where one branch has added no link, what both have is what was there before.
use Rattle.std.specs.Prelude.{◌≡◌, ◌&&◌}
use mathlib.Core.Bool.{and-false}
use Rattle.kit.specs.Names.{refl, sym, fun_ext, Bool, true, false, List, ℕ}
use Rattle.definitions.specs.Owners.{linked_in_both}
use Rattle.rules_links.specs.Classes.{Classed, linked_by, Learnt}
use Rattle.rules_links.proofs.Growing.{nothing_learnt}
use Rattle.rules_meet.specs.Branches.{GrownFrom}

both_of_less : (few more : Bool) → (few ≡ true → more ≡ true) → few ≡ (few && more)
both_of_less true more h = sym (h refl)
both_of_less false more h = refl

both_of_more : (few more : Bool) → (few ≡ true → more ≡ true) → few ≡ (more && few)
both_of_more true more h = rw (h refl)
both_of_more false more h = sym (and-false more)

module _ (before one other : List ℕ) (a b : Bool) (in_one : GrownFrom before one a) (in_other : GrownFrom before other b) (whole : Classed before) where
  pub one_adds_nothing : a ≡ false → Learnt before one false (linked_in_both (linked_by one) (linked_by other))
  one_adds_nothing h =
      rw (← in_one.unless_added h)
      (nothing_learnt before _ whole (fun_ext (λ x. fun_ext (λ y. both_of_less (linked_by before x y) (linked_by other x y) (in_other.kept x y)))))

  pub other_adds_nothing : b ≡ false → Learnt before before false (linked_in_both (linked_by one) (linked_by other))
  other_adds_nothing h =
      rw (← in_other.unless_added h)
      (nothing_learnt before _ whole (fun_ext (λ x. fun_ext (λ y. both_of_more (linked_by before x y) (linked_by one x y) (in_one.kept x y)))))
