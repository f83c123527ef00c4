-- Lists of contents that a party cannot tell apart, and contents made for a reader.
use Rattle.std.specs.Prelude.{◌≡◌, ◌∷◌, ◌++◌}
use Rattle.kit.specs.Names.{refl, ap, ap₂, sym, ◌∙◌, Bool, true, false, cond, List, map-append, ℕ, eqb}
use Rattle.definitions.specs.Original.{Reader, anyone, only, may_read}
use Rattle.definitions.specs.Ledger.{Content, plain, cell, opened_number, content_for}
use Rattle.theory_relations.specs.Secrecy.{hidden, all_hidden}

-- A record, so that the two lists are found where it is used.
pub record AlikeContents (party : ℕ) (contents contents' : List Content) : Type 0 where
  pub equal : all_hidden party contents ≡ all_hidden party contents'

pub alike_itself : (party : ℕ) (contents : List Content) → AlikeContents party contents contents
alike_itself party contents = record { equal = refl }

pub alike_append : {party : ℕ} {l l' m m' : List Content} → AlikeContents party l l' → AlikeContents party m m' → AlikeContents party (l ++ m) (l' ++ m')
alike_append {party} {l} {l'} {m} {m'} h k =
    record { equal = map-append (hidden party) l m ∙ ap₂ ◌++◌ h.equal k.equal ∙ sym (map-append (hidden party) l' m') }

pub alike_cons : {party : ℕ} {l l' : List Content} {c c' : Content} → hidden party c ≡ hidden party c' → AlikeContents party l l'
    → AlikeContents party (c ∷ l) (c' ∷ l')
alike_cons h k = record { equal = ap₂ (λ x y. x ∷ y) h k.equal }

-- Made for one reader, two contents look alike if their values agree where the party is that reader.
pub alike_made : (party : ℕ) (reader : Reader) (call index v v' : ℕ) → (may_read party reader ≡ true → v ≡ v')
    → hidden party (content_for reader call index v) ≡ hidden party (content_for reader call index v')
unfolding hidden
alike_made party anyone call index v v' h = ap plain (h refl)
alike_made party (only x) call index v v' h = ap (λ n. cell (record { owner = x; call = call; index = index; value = n })) (go (eqb x party) h)
  where
    go : (b : Bool) → (b ≡ true → v ≡ v') → cond b v 0 ≡ cond b v' 0
    go true h = h refl
    go false h = refl

-- And back: what looks alike and is made for a reader that the party is has one value.
pub alike_values : (party : ℕ) (reader : Reader) (call call' index index' v v' : ℕ) → may_read party reader ≡ true
    → hidden party (content_for reader call index v) ≡ hidden party (content_for reader call' index' v') → v ≡ v'
unfolding hidden
alike_values party anyone call call' index index' v v' may h = ap opened_number h
alike_values party (only x) call call' index index' v v' may h = ap opened_number (rw may at h)
