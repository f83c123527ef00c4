-- Links learnt one after the other, and none learnt.
use Rattle.std.specs.Prelude.{◌≡◌, ◌||◌}
use Rattle.kit.specs.Names.{refl, ◌∙◌, Bool, true, true≢false, List, ℕ, length}
use Rattle.definitions.specs.Owners.{Links}
use Rattle.theory_laws.proofs.TruthValues.{or_left, or_right}
use Rattle.rules_links.specs.Classes.{Classed, linked_by, Learnt}

pub nothing_learnt : {added : Bool} (classes : List ℕ) (links : Links) → Classed classes → linked_by classes ≡ links → Learnt classes classes added links
nothing_learnt classes links classed same = record { links = same; classed = classed; long = refl; unless_added = λ h. refl }

pub link_learnt : (before after : List ℕ) (links : Links) → Classed after → length after ≡ length before → linked_by after ≡ links
    → Learnt before after true links
link_learnt before after links classed long same = record { links = same; classed = classed; long = long; unless_added = λ h. absurd (true≢false h) }

pub learnt_as : {before after : List ℕ} {added : Bool} {links same : Links} → Learnt before after added links → links ≡ same
    → Learnt before after added same
learnt_as h e = record { links = h.links ∙ e; classed = h.classed; long = h.long; unless_added = h.unless_added }

pub learnt_both : {before between after : List ℕ} {a b : Bool} {links more : Links} → Learnt before between a links → Learnt between after b more
    → Learnt before after (a || b) more
learnt_both {a = a} {b = b} h k =
    record {
      links = k.links;
      classed = k.classed;
      long = k.long ∙ h.long;
      unless_added = λ e. h.unless_added (or_left a b e) ∙ k.unless_added (or_right a b e);
    }
