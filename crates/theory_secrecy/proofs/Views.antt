-- What a party's view shows is what hiding leaves; and back from hidden places to the numbers that the party may read.
use Rattle.std.specs.Prelude.{◌≡◌, ◌∷◌}
use Rattle.kit.specs.Names.{refl, ap, ap₂, sym, ◌∙◌, Bool, true, false, cond, List, [], map, ℕ, eqb, get_or}
use Rattle.definitions.specs.Basics.{flat_map}
use Rattle.definitions.specs.ContractFile.{Name, Field}
use Rattle.definitions.specs.Original.{anyone}
use Rattle.definitions.specs.Ledger.{Content, plain, cell, Ledger, content_at}
use Rattle.definitions.specs.View.{item_for, items_for, item_bytes, view_bytes}
use Rattle.theory_relations.specs.Standing.{AllStand, readers_of}
use Rattle.theory_relations.specs.Secrecy.{hidden, all_hidden, Agree}
use Rattle.theory_secrecy.proofs.HiddenWalk.{hidden_at}
use Rattle.theory_secrecy.proofs.AlikeContents.{AlikeContents, alike_append, alike_values}

-- An item shows no more than hiding leaves.
pub item_hidden : (party : ℕ) (content : Content) → item_for party (hidden party content) ≡ item_for party content
unfolding item_for hidden
item_hidden party (plain v) = refl
item_hidden party (cell c) =
    ap (λ v. record { mark = cond (eqb c.owner party) 2 1; owner = c.owner; call = c.call; index = c.index; value = v }) (go (eqb c.owner party))
  where
    go : (b : Bool) → cond b (cond b c.value 0) 0 ≡ cond b c.value 0
    go true = refl
    go false = refl

items_hidden : (party : ℕ) (contents : List Content) → map (item_for party) (all_hidden party contents) ≡ map (item_for party) contents
items_hidden party [] = refl
items_hidden party (c ∷ contents) = ap₂ (λ x y. x ∷ y) (item_hidden party c) (items_hidden party contents)

pub alike_items : {party : ℕ} {contents contents' : List Content} → AlikeContents party contents contents'
    → map (item_for party) contents ≡ map (item_for party) contents'
alike_items {party} {contents} {contents'} h = sym (items_hidden party contents) ∙ ap (map (item_for party)) h.equal ∙ items_hidden party contents'

pub alike_bytes : {party : ℕ} {contents contents' : List Content} → AlikeContents party contents contents'
    → flat_map item_bytes (map (item_for party) contents) ≡ flat_map item_bytes (map (item_for party) contents')
alike_bytes h = ap (flat_map item_bytes) (alike_items h)

-- Two ledgers that a party cannot tell apart.
pub record AlikeLedgers (party : ℕ) (l l' : Ledger) : Type 0 where
  pub call : l.call ≡ l'.call
  pub function : l.function ≡ l'.function
  pub caller : l.caller ≡ l'.caller
  pub outcome : l.outcome ≡ l'.outcome
  pub parameters : AlikeContents party l.parameters l'.parameters
  pub variables : AlikeContents party l.variables l'.variables
  pub places : AlikeContents party l.places l'.places

pub alike_views : {party : ℕ} {l l' : Ledger} → AlikeLedgers party l l' → view_bytes party l ≡ view_bytes party l'
unfolding view_bytes items_for
alike_views {party} {l} {l'} h =
    rw (h.call, h.function, h.caller, h.outcome, alike_bytes (alike_append (alike_append h.parameters h.variables) h.places))

-- Places that look alike hold numbers that agree where the party may read.
module _ (party : ℕ) (address_of : Name → ℕ) (fields : List Field) where
  pub alike_agree : (places places' : List Content) (numbers numbers' : List ℕ) → AllStand (readers_of address_of fields) places numbers
      → AllStand (readers_of address_of fields) places' numbers' → AlikeContents party places places' → Agree party address_of fields numbers numbers'
  alike_agree places places' numbers numbers' h h' alike =
      record {
        each = λ p may.
            let s = h.each p in
            let s' = h'.each p in
            let e : hidden party (content_at places p) ≡ hidden party (content_at places' p) =
            sym (hidden_at party places p) ∙ ap (λ c. content_at c p) alike.equal ∙ hidden_at party places' p in
            alike_values party (get_or (readers_of address_of fields) p anyone) s.call s'.call s.index s'.index (get_or numbers p 0) (get_or numbers' p 0) may
            (sym (ap (hidden party) s.is) ∙ e ∙ ap (hidden party) s'.is);
      }
