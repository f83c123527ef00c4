-- Steps of the loops between places and flat numbers.
use Rattle.std.specs.Prelude.{◌≡◌, ◌∷◌, ◌++◌, ◌+◌, ◌*◌, ◌/◌, ◌<◌, ◌≤◌}
use Rattle.kit.specs.Names.{refl, ap, sym, ◌∙◌, Bool, true, false, List, [], map, ℕ, min, arith}
use Rattle.kit.specs.Names.{add-one, leb, length, get_or, set, take, drop, replicate, length-map, length-append, length-drop, take-suc}
use Rattle.kit.specs.Names.{take-suc-set, take_all, take_at, length-take-le, leb-true, leb-false, get_or_map}
use Rattle.definitions.specs.Ledger as ledger
use Rattle.theory_laws.proofs.Lists.{map-append}
use Rattle.ledger_contents.specs.declared.Content.{Content}
use Rattle.ledger_contents.specs.declared.Content.TheVariants.{Plain, Cell}
use Rattle.ledger_contents.specs.declared.Place.{Place}
use Rattle.ledger_contents.specs.Contents.{content_of_code, content_of_place, contents_of}
use Rattle.ledger_contents.proofs.FlatContents.{length_contents_of}
use Rattle.ledger_struct.specs.Ledgers.{Flat}
use Rattle.ledger_struct.specs.Whole.{padded, code_of, place_of, zero_place, places_for}
use Rattle.ledger_struct.proofs.Padding.{padded_none, padded_next, padded_more}

-- As many as there are, or all.
pub take_many : {A : Type 0} (count many : ℕ) (l : List A) → many ≡ min count (length l) → take many l ≡ take count l
take_many count many l e = go (leb count (length l)) refl
  where
    go : (b : Bool) → leb count (length l) ≡ b → take many l ≡ take count l
    go true t =
        let few : count ≤ length l = leb-true count (length l) t in
        let same : many ≡ count = omega arith in
        ap (λ (n : ℕ). take n l) same
    go false t =
        let few : length l < count = leb-false count (length l) t in
        take_all many l (omega arith) ∙ sym (take_all count l (omega arith))

-- One place more is flat.
pub flatten_next : (places : List Place) (i : ℕ) (d : Place) (flat after : List ℕ) → i < length places → i < length flat / 5
    → contents_of after ≡ set (contents_of flat) i (content_of_place (get_or places i d))
    → take i (contents_of flat) ≡ map content_of_place (take i places)
    → take (i + 1) (contents_of after) ≡ map content_of_place (take (i + 1) places)
flatten_next places i d flat after h k put inv =
    let l = length_contents_of flat in
    let inside : i < length (contents_of flat) = omega arith in
    rw (put, add-one, take-suc-set (contents_of flat) i (content_of_place (get_or places i d)) inside, inv, take-suc places i d h, map-append content_of_place (take i places) (get_or places i d ∷ []))

pub flatten_done : (places : List Place) (count : ℕ) (many i : ℕ) (flat : List ℕ) → many ≡ min count (length places) → length flat ≡ 5 * many
    → length (take many places) ≤ i → take i (contents_of flat) ≡ map content_of_place (take i (take many places))
    → contents_of flat ≡ map content_of_place (take count places)
flatten_done places count many i flat e n out inv =
    let l = length_contents_of flat in
    let long = length-take-le many places (omega arith) in
    let all : length (contents_of flat) ≤ i = omega arith in
    (rw (take_all i (contents_of flat) all, take_all i (take many places) out) at inv) ∙ ap (map content_of_place) (take_many count many places e)

-- A place is told by its content.
pub code_back : (content : Content) → code_of (content_of_code content) ≡ content
code_back (Plain v) = refl
code_back (Cell k) = refl

-- Places that are all plain 0 hold nothing yet.
pub places_none : (n : ℕ) → replicate n zero_place ≡ places_for n []
unfolding places_for
places_none n = padded_none n zero_place

-- One place more is filled.
pub fill_next : (flat : List ℕ) (i n : ℕ) (content : Content) → i < length flat / 5 → length flat / 5 ≤ n
    → content_of_code content ≡ ledger.content_at (contents_of flat) i
    → set (padded n zero_place (take i (map place_of (contents_of flat)))) i (record { content = content })
    ≡ padded n zero_place (take (i + 1) (map place_of (contents_of flat)))
fill_next flat i n content h k same =
    let few : length (map place_of (contents_of flat)) ≡ length flat / 5 = length-map (contents_of flat) place_of ∙ length_contents_of flat in
    let there : get_or (map place_of (contents_of flat)) i zero_place ≡ place_of (ledger.content_at (contents_of flat) i) =
    get_or_map place_of (contents_of flat) i (ledger.Content.plain 0) in
    let put : record { content = content } ≡ get_or (map place_of (contents_of flat)) i zero_place =
    sym (there ∙ ap place_of (sym same) ∙ ap (λ (x : Content). record { content = x }) (code_back content)) in
    rw put (padded_next n zero_place zero_place (map place_of (contents_of flat)) i (omega arith) (omega arith))

pub fill_done : (flat : List ℕ) (i n : ℕ) → i ≤ length flat / 5 → length flat / 5 ≤ i
    → padded n zero_place (take i (map place_of (contents_of flat))) ≡ places_for n (contents_of flat)
unfolding places_for
fill_done flat i n a b =
    let few : length (map place_of (contents_of flat)) ≡ length flat / 5 = length-map (contents_of flat) place_of ∙ length_contents_of flat in
    rw (take_all i (map place_of (contents_of flat)) (omega arith))

-- One place more stands behind those that are filled.
pub place_next : (n : ℕ) (contents : List ledger.Content) (content : Content) → length contents < n
    → set (places_for n contents) (length contents) (record { content = content }) ≡ places_for n (contents ++ (content_of_code content ∷ []))
unfolding places_for
place_next n contents content h =
    let count : length (map place_of contents) ≡ length contents = length-map contents place_of in
    let more : map place_of (contents ++ (content_of_code content ∷ [])) ≡ map place_of contents ++ (record { content = content } ∷ []) =
    map-append place_of contents (content_of_code content ∷ [])
    ∙ ap (λ (x : Content). map place_of contents ++ (record { content = x } ∷ [])) (code_back content) in
    rw (← count, more) (padded_more n zero_place (record { content = content }) (map place_of contents) (omega arith))

pub unmapped : {X Y : Type 0} (f : X → Y) (l : List X) (n : ℕ) → length (map f l) ≡ n → length l ≡ n
unmapped f l n e = sym (length-map l f) ∙ e

-- The front of a buffer that holds the contents of so many places, or of as many as there is room for.
module _ (many size room : ℕ) (flat : List ℕ) (e : many ≡ min size room) (l : length flat ≡ 5 * room) where
  pub front_long : length (take (5 * many) flat) ≡ 5 * many
  front_long = length-take-le (5 * many) flat (omega arith)

  pub front_due : length (take (5 * many) flat) ≡ 5 * min size room
  front_due = front_long ∙ ap (λ (n : ℕ). 5 * n) e

  pub flat_put : (contents : List ledger.Content) (part : List ℕ) → length part ≡ length (take (5 * many) flat) → contents_of part ≡ contents
      → Flat contents (part ++ drop (5 * many) flat) room (5 * many)
  flat_put contents part kept stand =
      let long = kept ∙ front_long in
      let both = length-append part (drop (5 * many) flat) in
      let left = length-drop (5 * many) flat in
      record {
        stand = ap contents_of (take_at part (drop (5 * many) flat) (5 * many) long) ∙ stand;
        size = omega arith;
        fits = omega arith;
      }

pub flat_cut : (contents : List ledger.Content) (flat : List ℕ) (room count : ℕ) → Flat contents flat room count → length (take count flat) ≡ count
flat_cut contents flat room count f = length-take-le count flat (omega (arith, f.size, f.fits))
