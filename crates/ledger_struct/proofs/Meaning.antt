-- What the structs mean: contents that are put into places are read back, and what is laid over such a struct is one.
use Rattle.std.specs.Prelude.{◌≡◌, ◌∷◌}
use Rattle.kit.specs.Names.{refl, sym, Bool, true, false, cond, List, [], map, ℕ, length, take, length-map}
use Rattle.definitions.specs.Basics.{is_zero}
use Rattle.definitions.specs.Ledger as ledger
use Rattle.ledger_contents.specs.Contents.{content_of_code, content_of_place}
use Rattle.ledger_struct.specs.declared.Ledger.{Ledger}
use Rattle.ledger_struct.specs.Ledgers.{contents_in, ledger_of}
use Rattle.ledger_struct.specs.Whole.{padded, code_of, place_of, zero_place, places_for, struct_of, laid_over, Laid}
use Rattle.ledger_struct.proofs.Padding.{take_padded}

content_back : (content : ledger.Content) → content_of_code (code_of content) ≡ content
content_back (ledger.Content.plain v) = refl
content_back (ledger.Content.cell k) = refl

map_back : (contents : List ledger.Content) → map content_of_place (map place_of contents) ≡ contents
map_back [] = refl
map_back (content ∷ contents) =
    let same = content_back content in
    rw (map_back contents, same)

pub contents_back : (room : ℕ) (contents : List ledger.Content) → contents_in (length contents) (places_for room contents) ≡ contents
unfolding places_for
contents_back room contents =
    let taken = take_padded room zero_place (map place_of contents) in
    let front : take (length contents) (padded room zero_place (map place_of contents)) ≡ map place_of contents = rw (length-map contents place_of) at taken in
    rw front (map_back contents)

-- The struct of a ledger means that ledger.
pub struct_means : (l : ledger.Ledger) → ledger_of (struct_of l) ≡ l
unfolding ledger_of struct_of
struct_means l =
    rw (take_padded 4596 0 l.file, contents_back 8 l.parameters, contents_back 1024 l.variables, contents_back 1024 l.places)

-- A ledger with the file of the struct that is given, and with its places where the call failed, is read back as it was laid over.
pub laid : (given : Ledger) (after : ledger.Ledger) → after.file ≡ (ledger_of given).file
    → (is_zero after.outcome ≡ false → after.places ≡ (ledger_of given).places) → Laid given after (laid_over given after)
unfolding ledger_of laid_over
laid given after same_file_law restored =
    record {
      means =
          λ i. record {
            file = sym same_file_law i;
            call = after.call;
            function = after.function;
            caller = after.caller;
            outcome = after.outcome;
            parameters = contents_back 8 after.parameters i;
            variables = contents_back 1024 after.variables i;
            places = placed (is_zero after.outcome) refl i;
          };
      whole = refl;
    }
  where
    placed : (b : Bool) → is_zero after.outcome ≡ b
        → contents_in (cond b (length after.places) given.place_count) (cond b (places_for 1024 after.places) given.places) ≡ after.places
    placed true e = contents_back 1024 after.places
    placed false e = sym (restored e)

pub laid_same : (given : Ledger) (a b : ledger.Ledger) (r : Ledger) → Laid given a r → a ≡ b → Laid given b r
laid_same given a b r h e = rw (← e) h

-- "From deployment on": what is laid over the struct of a ledger is the struct of the ledger after it.
pub struct_kept : (before after : ledger.Ledger) → after.file ≡ before.file → (is_zero after.outcome ≡ false → after.places ≡ before.places)
    → laid_over (struct_of before) after ≡ struct_of after
unfolding laid_over struct_of
struct_kept before after same_file_law restored = go (is_zero after.outcome) refl
  where
    placed : (b : Bool) → is_zero after.outcome ≡ b → cond b (places_for 1024 after.places) (places_for 1024 before.places) ≡ places_for 1024 after.places
    placed true e = refl
    placed false e = rw (restored e)

    counted : (b : Bool) → is_zero after.outcome ≡ b → cond b (length after.places) (length before.places) ≡ length after.places
    counted true e = refl
    counted false e = rw (restored e)

    go : (b : Bool) → is_zero after.outcome ≡ b → laid_over (struct_of before) after ≡ struct_of after
    go b e = rw (same_file_law, placed (is_zero after.outcome) refl, counted (is_zero after.outcome) refl)
