-- Links grow along a statement, and more links before it give more behind it.
use Rattle.std.specs.Prelude.{◌≡◌, ◌&&◌, ◌||◌}
use Rattle.kit.specs.Names.{refl, Bool, true, false, cond, false≢true, Option, none, some}
use Rattle.definitions.specs.ContractFile.{Name, equal, conjunction, Expression, constant, me, field, entry, parameter, operator, negation}
use Rattle.definitions.specs.ContractFile.{reveal, Statement, skip, sequence, assign_field, assign_entry, require, conditional, Scope, is_operator}
use Rattle.definitions.specs.Owners.{Links, with_link, with_link_of, linked_in_both, name_of, links_of_condition, links_after}
use Rattle.theory_laws.proofs.TruthValues.{and_left, and_right, and_both}

-- Every pair that is linked in the one relation is linked in the other.
pub record Within (fewer more : Links) : Type 0 where
  pub each : (a b : Name) → fewer a b ≡ true → more a b ≡ true

pub within_itself : (linked : Links) → Within linked linked
within_itself linked = record { each = λ a b h. h }

pub within_chain : {few more most : Links} → Within few more → Within more most → Within few most
within_chain p q = record { each = λ a b h. q.each a b (p.each a b h) }

or_first : (a b : Bool) → a ≡ true → (a || b) ≡ true
or_first true b h = refl
or_first false b h = absurd (false≢true h)

pub or_implied : (a b c d : Bool) → (a ≡ true → c ≡ true) → (b ≡ true → d ≡ true) → (a || b) ≡ true → (c || d) ≡ true
or_implied true b c d f g h = rw (f refl)
or_implied false b true d f g h = refl
or_implied false b false d f g h = g h

within_cond : (b : Bool) {p q s t : Links} → Within p s → Within q t → Within (cond b p q) (cond b s t)
within_cond true h k = h
within_cond false h k = k

within_both : (linked one other : Links) → Within linked one → Within linked other → Within linked (linked_in_both one other)
within_both linked one other p q = record { each = λ a b h. and_both (one a b) (other a b) (p.each a b h) (q.each a b h) }

both_within : (p q s t : Links) → Within p s → Within q t → Within (linked_in_both p q) (linked_in_both s t)
both_within p q s t h k =
    record {
      each = λ a b e. and_both (s a b) (t a b) (h.each a b (and_left (p a b) (q a b) e)) (k.each a b (and_right (p a b) (q a b) e));
    }

link_grows : (x y : Name) (linked : Links) → Within linked (with_link x y linked)
unfolding with_link
link_grows x y linked =
    record {
      each = λ a b h.
          or_first (linked a b || (linked a x && linked y b)) (linked a y && linked x b) (or_first (linked a b) (linked a x && linked y b) h);
    }

link_within : (x y : Name) (fewer more : Links) → Within fewer more → Within (with_link x y fewer) (with_link x y more)
unfolding with_link
link_within x y fewer more within =
    record {
      each = λ a b.
          or_implied (fewer a b || (fewer a x && fewer y b)) (fewer a y && fewer x b) (more a b || (more a x && more y b)) (more a y && more x b)
          (or_implied (fewer a b) (fewer a x && fewer y b) (more a b) (more a x && more y b) (within.each a b) (chained a b x y)) (chained a b y x);
    }
  where
    chained : (a b x y : Name) → (fewer a x && fewer y b) ≡ true → (more a x && more y b) ≡ true
    chained a b x y h =
        and_both (more a x) (more y b) (within.each a x (and_left (fewer a x) (fewer y b) h)) (within.each y b (and_right (fewer a x) (fewer y b) h))

link_of_grows : (left right : Option Name) (linked : Links) → Within linked (with_link_of left right linked)
link_of_grows none right linked = within_itself linked
link_of_grows (some x) none linked = within_itself linked
link_of_grows (some x) (some y) linked = link_grows x y linked

link_of_within : (left right : Option Name) (fewer more : Links) → Within fewer more → Within (with_link_of left right fewer) (with_link_of left right more)
link_of_within none right fewer more within = within
link_of_within (some x) none fewer more within = within
link_of_within (some x) (some y) fewer more within = link_within x y fewer more within

module _ (scope : Scope) where
  pub condition_grows : (e : Expression) (linked : Links) → Within linked (links_of_condition scope e linked)
  unfolding links_of_condition
  condition_grows (constant t v) linked = within_itself linked
  condition_grows me linked = within_itself linked
  condition_grows (field f) linked = within_itself linked
  condition_grows (entry f key) linked = within_itself linked
  condition_grows (parameter k) linked = within_itself linked
  condition_grows (operator o left right) linked =
      go (is_operator o equal) (is_operator o conjunction) (link_of_grows (name_of scope left) (name_of scope right) linked)
      (within_chain (condition_grows left linked) (condition_grows right (links_of_condition scope left linked)))
    where
      go : (b c : Bool) {p q : Links} → Within linked p → Within linked q → Within linked (cond b p (cond c q linked))
      go true c h k = h
      go false true h k = k
      go false false h k = within_itself linked
  condition_grows (negation part) linked = within_itself linked
  condition_grows (reveal part o) linked = within_itself linked

  pub condition_within : (e : Expression) (fewer more : Links) → Within fewer more → Within (links_of_condition scope e fewer) (links_of_condition scope e more)
  unfolding links_of_condition
  condition_within (constant t v) fewer more within = within
  condition_within me fewer more within = within
  condition_within (field f) fewer more within = within
  condition_within (entry f key) fewer more within = within
  condition_within (parameter k) fewer more within = within
  condition_within (operator o left right) fewer more within =
      within_cond (is_operator o equal) (link_of_within (name_of scope left) (name_of scope right) fewer more within)
      (within_cond (is_operator o conjunction)
      (condition_within right (links_of_condition scope left fewer) (links_of_condition scope left more) (condition_within left fewer more within)) within)
  condition_within (negation part) fewer more within = within
  condition_within (reveal part o) fewer more within = within

  -- No statement takes a link away.
  pub links_grow : (s : Statement) (linked : Links) → Within linked (links_after scope s linked)
  unfolding links_after
  links_grow skip linked = within_itself linked
  links_grow (sequence first second) linked = within_chain (links_grow first linked) (links_grow second (links_after scope first linked))
  links_grow (assign_field f value) linked = within_itself linked
  links_grow (assign_entry f key value) linked = within_itself linked
  links_grow (require condition) linked = condition_grows condition linked
  links_grow (conditional condition then else) linked =
      within_both linked (links_after scope then (links_of_condition scope condition linked)) (links_after scope else linked)
      (within_chain (condition_grows condition linked) (links_grow then (links_of_condition scope condition linked))) (links_grow else linked)

  pub after_within : (s : Statement) (fewer more : Links) → Within fewer more → Within (links_after scope s fewer) (links_after scope s more)
  unfolding links_after
  after_within skip fewer more within = within
  after_within (sequence first second) fewer more within =
      after_within second (links_after scope first fewer) (links_after scope first more) (after_within first fewer more within)
  after_within (assign_field f value) fewer more within = within
  after_within (assign_entry f key value) fewer more within = within
  after_within (require condition) fewer more within = condition_within condition fewer more within
  after_within (conditional condition then else) fewer more within =
      both_within (links_after scope then (links_of_condition scope condition fewer)) (links_after scope else fewer)
      (links_after scope then (links_of_condition scope condition more)) (links_after scope else more)
      (after_within then (links_of_condition scope condition fewer) (links_of_condition scope condition more) (condition_within condition fewer more within))
      (after_within else fewer more within)
