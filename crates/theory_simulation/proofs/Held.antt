-- The variables of a call in the end: each is plain 0, or holds a content that stands for a number of its type.
use Rattle.std.specs.Prelude.{◌≡◌, ◌||◌, ◌∷◌, ◌++◌}
use Rattle.kit.specs.Names.{refl, ap, true, List, [], map, ℕ, suc, length, replicate}
use Rattle.definitions.specs.ContractFile.{Name, Scope, is_of_type}
use Rattle.definitions.specs.Rewriting.{Variable, variable_owner}
use Rattle.definitions.specs.Original.{reader_of}
use Rattle.definitions.specs.Ledger.{Content, plain, Form, fits, is_plain_zero, all_fit, variable_type}
use Rattle.theory_relations.specs.Standing.{Stands}
use Rattle.theory_typing.proofs.Forms.{stands_fits}
use Rattle.theory_simulation.proofs.Truth.{or_of_right}

module _ (scope : Scope) (address_of : Name → ℕ) where
  pub data Held (v : Variable) (content : Content) : Type 0 where
    unset : content ≡ plain 0 → Held v content
    holding : (n : ℕ) → is_of_type (variable_type scope v) n ≡ true → Stands (reader_of address_of (variable_owner v)) content n → Held v content

  pub data AllHeld : List Variable → List Content → Type 0 where
    none : AllHeld [] []
    next : {v : Variable} {content : Content} {vs : List Variable} {contents : List Content} → Held v content → AllHeld vs contents
        → AllHeld (v ∷ vs) (content ∷ contents)

  pub all_unset : (vs : List Variable) → AllHeld vs (replicate (length vs) (plain 0))
  all_unset [] = none
  all_unset (v ∷ vs) = next (unset refl) (all_unset vs)

pub held_append : {scope : Scope} {address_of : Name → ℕ} {vs ws : List Variable} {xs ys : List Content} → AllHeld scope address_of vs xs
    → AllHeld scope address_of ws ys
    → AllHeld scope address_of (vs ++ ws) (xs ++ ys)
held_append none k = k
held_append (next h hs) k = next h (held_append hs k)

pub held_length : {scope : Scope} {address_of : Name → ℕ} {vs : List Variable} {xs : List Content} → AllHeld scope address_of vs xs
    → length xs ≡ length vs
held_length none = refl
held_length (next h hs) = ap suc (held_length hs)

-- What a ledger asks of a variable.
abbrev pub form_of : Scope → (Name → ℕ) → Variable → Form
form_of scope address_of v = record { type = variable_type scope v; reader = reader_of address_of (variable_owner v) }

held_is_fit : (scope : Scope) (address_of : Name → ℕ) (v : Variable) (content : Content) → Held scope address_of v content
    → is_plain_zero content || fits (form_of scope address_of v) content ≡ true
held_is_fit scope address_of v content (unset e) = rw e
held_is_fit scope address_of v content (holding n t h) =
    or_of_right (is_plain_zero content) (fits (form_of scope address_of v) content)
    (stands_fits (variable_type scope v) (reader_of address_of (variable_owner v)) content n h t)

pub held_fit : {scope : Scope} {address_of : Name → ℕ} {vs : List Variable} {contents : List Content} → AllHeld scope address_of vs contents
    → all_fit (λ form content. is_plain_zero content || fits form content) (map (form_of scope address_of) vs) contents ≡ true
unfolding all_fit
held_fit none = refl
held_fit {scope} {address_of} (next {v} {content} h hs) = rw (held_is_fit scope address_of v content h) (held_fit hs)
