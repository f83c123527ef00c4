-- Contents that stand for numbers: what they open to, who reads them, and places after one of them is written.
use Rattle.std.specs.Prelude.{◌≡◌, ◌∷◌}
use Rattle.kit.specs.Names.{refl, ap, sym, ◌∙◌, true, false, false≢true, true≢false, List, [], zip_with, ℕ, zero, suc, arith}
use Rattle.kit.specs.Names.{length, get_or, set, length-set, eq-eqb}
use Rattle.definitions.specs.ContractFile.{Name, me_name, Owner, everyone, owned_by, is_everyone}
use Rattle.definitions.specs.Owners.{owner_of_parts}
use Rattle.definitions.specs.Original.{Reader, anyone, only, reader_of}
use Rattle.definitions.specs.Ledger.{Content, plain, content_for, content_at, is_content_of, opens_for}
use Rattle.theory_relations.specs.Standing.{Stands, AllStand}

pub plain_stands : {content : Content} {number : ℕ} → content ≡ plain number → Stands anyone content number
plain_stands e = record { call = 0; index = 0; is = e }

pub content_is_of : (reader : Reader) (call index number : ℕ) → is_content_of reader number (content_for reader call index number) ≡ true
content_is_of anyone call index number = eq-eqb number number refl
content_is_of (only x) call index number = rw (eq-eqb x x refl, eq-eqb number number refl)

pub stands_opens : (x : ℕ) {content : Content} {number : ℕ} → Stands (only x) content number → opens_for x content ≡ true
stands_opens x h = rw h.is (eq-eqb x x refl)

pub stands_for_everyone : (address_of : Name → ℕ) (o : Owner) {content : Content} {number : ℕ} → is_everyone o ≡ true
    → Stands (reader_of address_of o) content number → content ≡ plain number
stands_for_everyone address_of everyone e h = h.is
stands_for_everyone address_of (owned_by n) e h = absurd (false≢true e)

pub public_parts : (left right : Owner) → is_everyone (owner_of_parts left right) ≡ true → (is_everyone left ≡ true) × (is_everyone right ≡ true)
public_parts everyone everyone e = (refl, refl)
public_parts everyone (owned_by n) e = absurd (false≢true e)
public_parts (owned_by n) right e = absurd (false≢true e)

pub private_parts : (left right : Owner) → is_everyone (owner_of_parts left right) ≡ false → owner_of_parts left right ≡ owned_by me_name
private_parts everyone everyone e = absurd (true≢false e)
private_parts everyone (owned_by n) e = refl
private_parts (owned_by n) right e = refl

pub stands_written :
    (reader : Reader) (contents : List Content) (numbers : List ℕ) (content : Content) (number : ℕ) (written p : ℕ) → length contents ≡ length numbers
    → Stands reader (content_at contents p) (get_or numbers p 0) → (written ≡ p → Stands reader content number)
    → Stands reader (content_at (set contents written content) p) (get_or (set numbers written number) p 0)
stands_written reader [] [] content number written p e before new = before
stands_written reader [] (n ∷ ns) content number written p e before new = let z : ◌≡◌ {A = ℕ} 0 1 = cc in absurd (omega arith)
stands_written reader (c ∷ cs) [] content number written p e before new = let z : ◌≡◌ {A = ℕ} 0 1 = cc in absurd (omega arith)
stands_written reader (c ∷ cs) (n ∷ ns) content number zero zero e before new = new refl
stands_written reader (c ∷ cs) (n ∷ ns) content number zero (suc p) e before new = before
stands_written reader (c ∷ cs) (n ∷ ns) content number (suc written) zero e before new = before
stands_written reader (c ∷ cs) (n ∷ ns) content number (suc written) (suc p) e before new =
    stands_written reader cs ns content number written p (cc) before (λ h. new (ap suc h))

pub all_stand_written :
    (readers : List Reader) (contents : List Content) (numbers : List ℕ) (content : Content) (number : ℕ) (written : ℕ)
    → AllStand readers contents numbers
    → Stands (get_or readers written anyone) content number → AllStand readers (set contents written content) (set numbers written number)
all_stand_written readers contents numbers content number written before new =
    record {
      extent = length-set contents written content ∙ before.extent ∙ sym (length-set numbers written number);
      each = λ p. stands_written (get_or readers p anyone) contents numbers content number written p before.extent (before.each p)
          (λ h. rw h at new);
    }

-- Contents made for their readers stand for their numbers, as those of a deployment do.
pub made_contents_stand : (readers : List Reader) (numbers : List ℕ) → length readers ≡ length numbers
    → AllStand readers (zip_with (λ reader n. content_for reader 0 0 n) readers numbers) numbers
unfolding zip_with
made_contents_stand [] [] e = record { extent = refl; each = λ p. plain_stands refl }
made_contents_stand [] (n ∷ ns) e = absurd (omega arith)
made_contents_stand (r ∷ rs) [] e = absurd (omega arith)
made_contents_stand (r ∷ rs) (n ∷ ns) e =
    let rest = made_contents_stand rs ns (omega arith) in
    record { extent = ap suc rest.extent; each = at rest }
  where
    at : AllStand rs (zip_with (λ reader n. content_for reader 0 0 n) rs ns) ns → (p : ℕ)
        → Stands (get_or (r ∷ rs) p anyone) (content_at (content_for r 0 0 n ∷ zip_with (λ reader n. content_for reader 0 0 n) rs ns) p) (get_or (n ∷ ns) p 0)
    at rest zero = record { call = 0; index = 0; is = refl }
    at rest (suc p) = rest.each p
