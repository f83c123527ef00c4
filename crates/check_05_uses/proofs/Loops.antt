-- The loops that count uses: what is left to count leads to the same counts.
use Rattle.std.specs.Prelude.{◌≡◌, ◌||◌, ◌∷◌, ◌++◌, ◌+◌, ◌*◌, ◌-◌, ◌<◌, ◌≤◌}
use Rattle.kit.specs.Names.{refl, ap, sym, ◌∙◌, Bool, not, or_assoc, or-false, List, [], map, ℕ, zero, suc}
use Rattle.kit.specs.Names.{arith, add-one, eqb, length, get_or, take, replicate, get_or-replicate}
use Rattle.definitions.specs.Basics.{any_numbered, count_if, flat_map}
use Rattle.definitions.specs.ContractFile.{NodeRecord, Sections, node_of, children}
use Rattle.definitions.specs.Numbers.{uses_of, used_other_than_once}
use Rattle.theory_laws.proofs.Lists.{count_append}
use Rattle.file_children.specs.Children.{child_count}
use Rattle.file_children.proofs.Children.{children_are}
use Rattle.file_decoded.specs.Slices.{number_at, functions_from, node_from, nodes_from}
use Rattle.file_decoded.proofs.Records.{functions_step, functions_end_law, nodes_step, nodes_end}
use Rattle.check_05_uses.specs.Counting.{Room, Counted, root_of, children_of, other_than_one, any_from}
use Rattle.check_05_uses.proofs.UseCounts.{counted_none, counted_more, room_after}

-- Whatever counts the rest leads to, the whole leads to from the start.
pub record Leads (start current rest all : List ℕ) : Type 0 where
  pub to : (final : List ℕ) → Counted current final rest → Counted start final all

pub leads_all : (start all : List ℕ) → Leads start start all all
leads_all start all = record { to = λ final c. c }

pub leads_done : (start current rest all : List ℕ) → Leads start current rest all → rest ≡ [] → Counted start current all
leads_done start current rest all inv e = inv.to current (rw e (counted_none current))

pub leads_next : (start current next rest first later all : List ℕ) → Leads start current rest all → rest ≡ first ++ later → Counted current next first
    → Leads start next later all
leads_next start current next rest first later all inv e c =
    record { to = λ final d. inv.to final (rw e (counted_more current next final first later c d)) }

module _ (start current all : List ℕ) (left : ℕ) (functions : List ℕ) (at : ℕ) (parameters : List ℕ)
    (inv : Leads start current (map root_of (functions_from parameters left functions at)) all) where
  pub roots_done : left ≤ 0 → Counted start current all
  roots_done h = leads_done start current _ all inv (ap (map root_of) (functions_end_law parameters functions at left h))

  pub roots_next : 0 < left → (root : ℕ) → root ≡ number_at functions (at + 2) → (counts : List ℕ) → Counted current counts (root ∷ [])
      → Leads start counts (map root_of (functions_from parameters (left - 1) functions (at + 3))) all
  roots_next h root e counts c =
      leads_next start current counts _ (root ∷ []) _ all inv (ap (map root_of) (functions_step parameters functions at left h) ∙ rw e) c

module _ (start current all : List ℕ) (left : ℕ) (nodes : List ℕ) (at : ℕ)
    (inv : Leads start current (flat_map children_of (nodes_from left nodes at)) all) where
  pub nodes_done : left ≤ 0 → Counted start current all
  unfolding flat_map
  nodes_done h = leads_done start current _ all inv (ap (flat_map children_of) (nodes_end nodes at left h))

  pub nodes_next : 0 < left → (counts : List ℕ) → Counted current counts (children_of (node_from nodes at))
      → Leads start counts (flat_map children_of (nodes_from (left - 1) nodes (at + 5))) all
  unfolding flat_map
  nodes_next h counts c =
      leads_next start current counts _ (children_of (node_from nodes at)) (flat_map children_of (nodes_from (left - 1) nodes (at + 5))) all inv
      (ap (flat_map children_of) (nodes_step nodes at left h)) c

take_few : {A : Type 0} (n : ℕ) (a b c : A) → length (take n (a ∷ b ∷ c ∷ [])) ≤ 3
take_few zero a b c = omega arith
take_few (suc zero) a b c = omega arith
take_few (suc (suc zero)) a b c = omega arith
take_few (suc (suc (suc zero))) a b c = omega arith
take_few (suc (suc (suc (suc n)))) a b c = omega arith

-- A node has at most three children.
pub room_after_node : (r : NodeRecord) (a b : List ℕ) (left more : ℕ) → 0 < left → Counted a b (children (node_of r)) → Room a (3 * left + more)
    → Room b (3 * (left - 1) + more)
room_after_node r a b left more h c room =
    room_after a b (children (node_of r)) (3 * left + more) (3 * (left - 1) + more) c room
    (let few : length (children (node_of r)) ≤ 3 = rw (children_are r)
    (take_few (child_count r.kind) r.first r.second r.third) in omega arith)

-- The loop over the counts.
pub from_next : (test : ℕ → Bool) (n left : ℕ) (noted goal : Bool) → noted || any_from test n left ≡ goal → 0 < left
    → (noted || test n) || any_from test (n + 1) (left - 1) ≡ goal
unfolding any_from
from_next test n zero noted goal inv h = absurd (omega arith)
from_next test n (suc left) noted goal inv h =
    let e : suc left - 1 ≡ left = omega arith in
    rw (e, add-one) (or_assoc noted (test n) (any_from test (suc n) left) ∙ inv)

pub from_done : (test : ℕ → Bool) (n left : ℕ) (noted goal : Bool) → noted || any_from test n left ≡ goal → left ≤ 0 → noted ≡ goal
unfolding any_from
from_done test n zero noted goal inv h = sym (or-false noted) ∙ inv
from_done test n (suc left) noted goal inv h = absurd (omega arith)

-- Number 5 in the counts.
numbered_from : {A : Type 0} (test : ℕ → Bool) (n : ℕ) (xs : List A) → any_numbered (λ k x. test k) n xs ≡ any_from test n (length xs)
unfolding any_numbered any_from
numbered_from test n [] = refl
numbered_from test n (x ∷ xs) = ap (λ (b : Bool). test n || b) (numbered_from test (suc n) xs)

from_same : (t u : ℕ → Bool) (n left bound : ℕ) → n + left ≤ bound → ((k : ℕ) → k < bound → t k ≡ u k) → any_from t n left ≡ any_from u n left
unfolding any_from
from_same t u n zero bound h e = refl
from_same t u n (suc left) bound h e = rw (e n (omega arith), from_same t u (suc n) left bound (omega arith) e)

unfoldable pub no_uses : List ℕ
no_uses = replicate 512 0

pub room_start : (more : ℕ) → more ≤ 65535 → Room no_uses more
unfolding no_uses
room_start more h = record { each = λ n k. (let none = get_or-replicate {A = ℕ} 512 n 0 0 k in omega arith); long = refl }

module _ (s : Sections) (count : ℕ) (long : length s.nodes ≡ count) (few : count ≤ 512) (parts counts : List ℕ)
    (a : Counted no_uses parts (flat_map children_of s.nodes)) (b : Counted parts counts (map root_of s.functions)) where
  counts_are : (n : ℕ) → n < 512 → get_or counts n 0 ≡ count_if (eqb n) (uses_of s)
  unfolding no_uses uses_of
  counts_are n h =
      let e = a.each n h in
      let f = b.each n h in
      let whole = count_append (eqb n) (map root_of s.functions) (flat_map children_of s.nodes) in
      let none = get_or-replicate {A = ℕ} 512 n 0 0 h in
      omega arith

  used : ℕ → Bool
  used n = not (eqb (count_if (eqb n) (uses_of s)) 1)

  pub uses_counted : any_from (other_than_one counts) 0 count ≡ used_other_than_once s
  unfolding used_other_than_once used
  uses_counted =
      from_same (other_than_one counts) used 0 count 512 (omega arith) (λ n h. ap (λ (k : ℕ). not (eqb k 1)) (counts_are n h))
      ∙ (ap (any_from used 0) (sym long) ∙ sym (numbered_from used 0 s.nodes))
