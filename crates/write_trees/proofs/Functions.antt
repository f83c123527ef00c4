-- A function's body reads back at the root that the written file gives, behind the nodes of the function's circuits.
use Rattle.std.specs.Prelude.{◌≡◌, ◌∷◌, ◌++◌, ◌+◌, ◌-◌}
use Rattle.kit.specs.Names.{refl, ap, sym, ◌∙◌, List, [], append_assoc, append-nil, ℕ, suc, arith, add-zero}
use Rattle.kit.specs.Names.{add_assoc, length, length-append}
use Rattle.definitions.specs.Basics.{flat_map}
use Rattle.definitions.specs.ContractFile.{NodeRecord}
use Rattle.definitions.specs.Rewriting.{Command, WrittenFunction, Tree, size, sizes, numbered, numbered_all, command_tree, claim_trees, function_trees}
use Rattle.theory_laws.proofs.Written.{sizes_append}
use Rattle.write_trees.specs.Trees.{command_of, command_in}
use Rattle.write_trees.proofs.Numbering.{size_positive, numbered_length, reads_back}
use Rattle.write_trees.proofs.RoundTrip.{command_shaped, command_said}

pub numbered_append : (ts us : List Tree) (n : ℕ) → numbered_all n (ts ++ us) ≡ numbered_all n ts ++ numbered_all (n + sizes ts) us
unfolding numbered_all sizes
numbered_append [] us n = rw add-zero
numbered_append (t ∷ ts) us n =
    ap (λ (l : List NodeRecord). numbered n t ++ l) (numbered_append ts us (n + size t))
    ∙ sym (append_assoc (numbered n t) (numbered_all (n + size t) ts) (numbered_all (n + size t + sizes ts) us))
    ∙ ap (λ (k : ℕ). (numbered n t ++ numbered_all (n + size t) ts) ++ numbered_all k us) (add_assoc n (size t) (sizes ts))

pub all_length : (ts : List Tree) (n : ℕ) → length (numbered_all n ts) ≡ sizes ts
unfolding numbered_all sizes
all_length [] n = refl
all_length (t ∷ ts) n = rw (length-append, numbered_length t n, all_length ts (n + size t)) refl

last_back : (ts : List Tree) (c : Command) (before after : List NodeRecord)
    → command_in (before ++ (numbered_all (length before) (ts ++ (command_tree c ∷ [])) ++ after)) (length before + sizes (ts ++ (command_tree c ∷ [])) - 1) ≡ c
unfolding numbered_all sizes
last_back ts c before after =
    let t = command_tree c in
    let n = length before in
    let m = n + sizes ts in
    let front = numbered_all n ts in
    let p = size_positive t in
    let whole = sizes_append ts (t ∷ []) in
    let root : n + sizes (ts ++ (t ∷ [])) - 1 ≡ m + size t - 1 = omega arith in
    let last : numbered_all n (ts ++ (t ∷ [])) ≡ front ++ numbered m t =
    numbered_append ts (t ∷ []) n ∙ ap (λ (l : List NodeRecord). front ++ l) (append-nil (numbered m t)) in
    let nodes : before ++ (numbered_all n (ts ++ (t ∷ [])) ++ after) ≡ (before ++ front) ++ (numbered m t ++ after) =
    ap (λ (l : List NodeRecord). before ++ (l ++ after)) last ∙ ap (λ (l : List NodeRecord). before ++ l) (append_assoc front (numbered m t) after)
    ∙ sym (append_assoc before front (numbered m t ++ after)) in
    let there : length (before ++ front) ≡ m = rw (length-append, all_length ts n) refl in
    rw root
    (ap command_of (reads_back t (command_shaped c) (suc (m + size t - 1)) m (before ++ front) after _ nodes there (omega arith)) ∙ command_said c)

pub function_body_back : (g : WrittenFunction) (before after : List NodeRecord)
    → command_in (before ++ (numbered_all (length before) (function_trees g) ++ after)) (length before + sizes (function_trees g) - 1) ≡ g.body
function_body_back g before after = last_back (flat_map (λ c. claim_trees c.claim) g.constraints) g.body before after
