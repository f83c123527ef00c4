-- The contents of all places at deployment, field by field and key by key.
use Rattle.std.specs.Prelude.{◌≡◌, ◌∷◌, ◌++◌, ◌+◌, ◌-◌, ◌<◌, ◌≤◌}
use Rattle.kit.specs.Names.{refl, ap, sym, ◌∙◌, subst, List, [], map, zip_with, append-nil, append_assoc, ℕ, suc}
use Rattle.kit.specs.Names.{arith, add-one, length, get_or, set, take, drop, replicate, length-append, length-map, length-drop}
use Rattle.kit.specs.Names.{drop_of_length-le, drop-cons, drop-drop, take-suc-set, append_snoc, length-take-le}
use Rattle.definitions.specs.ContractFile.{Field, FieldOwner, to_everyone, to_key, to_final, field_at}
use Rattle.definitions.specs.Original as original
use Rattle.definitions.specs.Original.{numbers_from, place_count, per_place, place_reader, final_address}
use Rattle.definitions.specs.Ledger as ledger
use Rattle.theory_laws.proofs.Lists.{map-append, numbers_length}
use Rattle.ledger_contents.specs.declared.Content.{Content}
use Rattle.ledger_contents.specs.declared.Place.{Place}
use Rattle.ledger_contents.specs.Contents.{content_of_code, content_of_place}
use Rattle.ledger_struct.specs.Ledgers.{contents_in}
use Rattle.ledger_struct.specs.Whole.{zero_place, places_for}
use Rattle.ledger_struct.proofs.Flat.{places_none, place_next}
use Rattle.ledger_readers.specs.declared.Reader.{Reader}
use Rattle.ledger_readers.specs.declared.Reader.TheVariants.{Anyone, Only}
use Rattle.ledger_readers.specs.Readers.{reader_of_code, Short}
use Rattle.deploy_ledger.specs.Deployments.{contents_for, readers_of, field_contents, Tidy}
use Rattle.deploy_ledger.proofs.Numbers.{opened}

-- An address of a place's reader is a byte.
abbrev ShortReader : original.Reader → Type 0
ShortReader original.Reader.anyone = Unit
ShortReader (original.Reader.only x) = x < 256

short_code : (r : Reader) → ShortReader (reader_of_code r) → Short r
short_code Anyone h = h
short_code (Only x) h = h

short_place : (final : ℕ → ℕ) (owner : FieldOwner) (key : ℕ) → ((g : ℕ) → final g < 256) → key < 256 → ShortReader (place_reader final owner key)
short_place final to_everyone key below k = tt
short_place final to_key key below k = k
short_place final (to_final g) key below k = below g

pub short_reader : (r : Reader) (final : ℕ → ℕ) (owner : FieldOwner) (key : ℕ) → reader_of_code r ≡ place_reader final owner key → ((g : ℕ) → final g < 256)
    → key < 256 → Short r
short_reader r final owner key e below k = short_code r (subst ShortReader (sym e) (short_place final owner key below k))

contents_first : (r : original.Reader) (rs : List original.Reader) (n : ℕ) (ns : List ℕ) → contents_for (r ∷ rs) (n ∷ ns) ≡ ledger.content_for r 0 0 n ∷ contents_for rs ns
unfolding contents_for zip_with
contents_first r rs n ns = refl

contents_none : (ns : List ℕ) → contents_for [] ns ≡ []
unfolding contents_for zip_with
contents_none ns = refl

pub contents_length : (rs : List original.Reader) (ns : List ℕ) → length rs ≡ length ns → length (contents_for rs ns) ≡ length ns
contents_length [] [] h = ap length (contents_none [])
contents_length [] (n ∷ ns) h = absurd (omega arith)
contents_length (r ∷ rs) [] h = absurd (omega arith)
contents_length (r ∷ rs) (n ∷ ns) h = ap length (contents_first r rs n ns) ∙ ap suc (contents_length rs ns (omega arith))

contents_append : (rs ss : List original.Reader) (ns : List ℕ) → length rs ≤ length ns → contents_for (rs ++ ss) ns ≡ contents_for rs ns ++ contents_for ss (drop (length rs) ns)
contents_append [] ss ns h = rw (contents_none ns)
contents_append (r ∷ rs) ss [] h = absurd (omega arith)
contents_append (r ∷ rs) ss (n ∷ ns) h =
    contents_first r (rs ++ ss) n ns ∙ ap (λ (l : List ledger.Content). ledger.content_for r 0 0 n ∷ l) (contents_append rs ss ns (omega arith))
    ∙ ap (λ (l : List ledger.Content). l ++ contents_for ss (drop (length rs) ns)) (sym (contents_first r rs n ns))

-- A place more is given its content.
place_more : (places : List Place) (n m : ℕ) (content : Content) → n < length places → m ≡ suc n
    → contents_in m (set places n (record { content = content })) ≡ contents_in n places ++ (content_of_code content ∷ [])
place_more places n m content h e =
    rw (e, take-suc-set places n (record { content = content }) h) (map-append content_of_place (take n places) (record { content = content } ∷ []))

-- Places that nothing stands behind, before the first is given its content and after one more is.
pub tidy_none : (places : List Place) → places ≡ replicate 1024 zero_place → Tidy 0 places
tidy_none places e = e ∙ places_none 1024

pub tidy_next : (places : List Place) (n m : ℕ) (content : Content) → length places ≡ 1024 → n < 1024 → m ≡ suc n → Tidy n places
    → Tidy m (set places n (record { content = content }))
tidy_next places n m content long inside e tidy =
    let contents = contents_in n places in
    let count : length contents ≡ n = length-map (take n places) content_of_place ∙ length-take-le n places (omega arith) in
    let put : set (places_for 1024 contents) n (record { content = content }) ≡ places_for 1024 (contents ++ (content_of_code content ∷ [])) =
    rw count at (place_next 1024 contents content (omega arith)) in
    ap (λ (l : List Place). set l n (record { content = content })) tidy ∙ put
    ∙ ap (places_for 1024) (sym (place_more places n m content (omega arith) e))

pub tidy_first : (p : ℕ) (places : List Place) → Tidy p places → Tidy (p + 0) places
tidy_first p places h =
    let same : p + 0 ≡ p = omega arith in
    rw same h

pub tidy_last : (p count key : ℕ) (places : List Place) → key ≤ count → count ≤ key → Tidy (p + key) places → Tidy (p + count) places
tidy_last p count key places a b h =
    let same : key ≡ count = omega arith in
    rw same at h

module _ (fields : List Field) (numbers : List ℕ) (f p count key : ℕ) where
  abbrev reader_at : ℕ → original.Reader
  reader_at k = place_reader (final_address fields numbers) (field_at fields f).owner k

  field_step : key < count → p + key < length numbers
      → contents_for (readers_of fields numbers f key (count - key)) (drop (p + key) numbers)
      ≡ ledger.content_for (reader_at key) 0 0 (get_or numbers (p + key) 0)
      ∷ contents_for (readers_of fields numbers f (key + 1) (count - (key + 1))) (drop (p + (key + 1)) numbers)
  unfolding numbers_from
  field_step h room =
      let left : count - key ≡ suc (count - (key + 1)) = omega arith in
      let next : p + (key + 1) ≡ suc (p + key) = omega arith in
      rw (left, next, drop-cons numbers (p + key) 0 room, add-one key)
      (contents_first (reader_at key) (map reader_at (numbers_from (suc key) (count - suc key))) (get_or numbers (p + key) 0) (drop (suc (p + key)) numbers))

  pub field_next : (places : List Place) (content : Content) (goal : List ledger.Content) → key < count → p + key < length numbers → p + key < length places
      → content_of_code content ≡ ledger.content_for (reader_at key) 0 0 (get_or numbers (p + key) 0)
      → contents_in (p + key) places ++ contents_for (readers_of fields numbers f key (count - key)) (drop (p + key) numbers) ≡ goal
      → contents_in (p + (key + 1)) (set places (p + key) (record { content = content }))
      ++ contents_for (readers_of fields numbers f (key + 1) (count - (key + 1))) (drop (p + (key + 1)) numbers) ≡ goal
  field_next places content goal h room inside e inv =
      let rest = contents_for (readers_of fields numbers f (key + 1) (count - (key + 1))) (drop (p + (key + 1)) numbers) in
      let step : contents_in (p + key) places ++ (content_of_code content ∷ rest) ≡ goal =
      ap (λ (l : List ledger.Content). contents_in (p + key) places ++ l) (ap (λ (c : ledger.Content). c ∷ rest) e ∙ sym (field_step h room)) ∙ inv in
      ap (λ (l : List ledger.Content). l ++ rest) (place_more places (p + key) (p + (key + 1)) content inside (omega arith))
      ∙ append_snoc (contents_in (p + key) places) (content_of_code content) rest ∙ step

  pub field_done : (places : List Place) (goal : List ledger.Content) → key ≤ count → count ≤ key
      → contents_in (p + key) places ++ contents_for (readers_of fields numbers f key (count - key)) (drop (p + key) numbers) ≡ goal
      → contents_in (p + count) places ≡ goal
  unfolding numbers_from
  field_done places goal a b inv =
      let none : count - key ≡ 0 = omega arith in
      let same : p + key ≡ p + count = omega arith in
      sym (append-nil (contents_in (p + count) places)) ∙ (rw (none, same, contents_none (drop (p + count) numbers)) at inv)

pub field_start : (fields : List Field) (numbers : List ℕ) (f p count : ℕ) (places : List Place)
    → contents_in (p + 0) places ++ contents_for (readers_of fields numbers f 0 (count - 0)) (drop (p + 0) numbers)
    ≡ contents_in p places ++ field_contents fields numbers f p count
field_start fields numbers f p count places =
    let a : p + 0 ≡ p = omega arith in
    let b : count - 0 ≡ count = omega arith in
    rw (a, b)

-- One field more is given its contents.
module _ (fields : List Field) (numbers : List ℕ) where
  abbrev pub asked : Field → ℕ → original.Reader
  asked d key = place_reader (final_address fields numbers) d.owner key

  readers_step : (f : ℕ) → f < length fields
      → per_place asked (drop f fields) ≡ readers_of fields numbers f 0 (place_count (field_at fields f)) ++ per_place asked (drop (f + 1) fields)
  unfolding per_place
  readers_step f inside = rw (opened fields f inside, add-one f)

  readers_long : (f count : ℕ) → length (readers_of fields numbers f 0 count) ≡ count
  readers_long f count = length-map (numbers_from 0 count) (place_reader (final_address fields numbers) (field_at fields f).owner) ∙ numbers_length 0 count

  module _ (f p many : ℕ) (inside : f < length fields) (same : many ≡ place_count (field_at fields f)) where
    pub field_counted : p + length (per_place asked (drop f fields)) ≡ length numbers → p + many + length (per_place asked (drop (f + 1) fields)) ≡ length numbers
    field_counted inv =
        let step = ap length (readers_step f inside) in
        let both = length-append (readers_of fields numbers f 0 (place_count (field_at fields f))) (per_place asked (drop (f + 1) fields)) in
        let long = readers_long f (place_count (field_at fields f)) in
        omega arith

    pub field_given : (before after : List Place) (goal : List ledger.Content) → p + many ≤ length numbers
        → contents_in (p + many) after ≡ contents_in p before ++ field_contents fields numbers f p many
        → contents_in p before ++ contents_for (per_place asked (drop f fields)) (drop p numbers) ≡ goal
        → contents_in (p + many) after ++ contents_for (per_place asked (drop (f + 1) fields)) (drop (p + many) numbers) ≡ goal
    field_given before after goal room stands inv =
        let own = readers_of fields numbers f 0 many in
        let rest = per_place asked (drop (f + 1) fields) in
        let long : length own ≡ many = readers_long f many in
        let left = length-drop p numbers in
        let step : per_place asked (drop f fields) ≡ own ++ rest = readers_step f inside ∙ ap (λ (n : ℕ). readers_of fields numbers f 0 n ++ rest) (sym same) in
        let split : contents_for (own ++ rest) (drop p numbers) ≡ contents_for own (drop p numbers) ++ contents_for rest (drop (p + many) numbers) =
        contents_append own rest (drop p numbers) (omega arith)
        ∙ ap (λ (ns : List ℕ). contents_for own (drop p numbers) ++ contents_for rest ns) (ap (λ (n : ℕ). drop n (drop p numbers)) long ∙ drop-drop many p numbers) in
        ap (λ (l : List ledger.Content). l ++ contents_for rest (drop (p + many) numbers)) stands
        ∙ append_assoc (contents_in p before) (contents_for own (drop p numbers)) (contents_for rest (drop (p + many) numbers))
        ∙ ap (λ (l : List ledger.Content). contents_in p before ++ l) (sym split ∙ ap (λ (rs : List original.Reader). contents_for rs (drop p numbers)) (sym step)) ∙ inv

  pub fields_whole : (f p : ℕ) (made : List Place) (goal : List ledger.Content) → length fields ≤ f → p + length (per_place asked (drop f fields)) ≡ length numbers
      → contents_in p made ++ contents_for (per_place asked (drop f fields)) (drop p numbers) ≡ goal → Tidy p made → made ≡ places_for 1024 goal
  unfolding per_place
  fields_whole f p made goal out counted inv tidy =
      tidy ∙ ap (places_for 1024) (sym (append-nil (contents_in p made)) ∙ (rw (drop_of_length-le fields out, contents_none (drop p numbers)) at inv))
