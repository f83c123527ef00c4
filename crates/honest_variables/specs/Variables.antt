-- The contents of a call's variables, by their owner codes and numbers.
use Rattle.std.specs.Prelude.{◌≡◌, ◌∷◌, ◌++◌, ◌+◌, ◌*◌, ◌≤◌, ◌<◌}
use Rattle.kit.specs.Names.{false, cond, List, [], ℕ, zero, suc, length, get_or, take, drop, replicate}
use Rattle.definitions.specs.ContractFile.{Name, Owner, owner_of_code}
use Rattle.definitions.specs.Original.{Reader, anyone, only, reader_of}
use Rattle.definitions.specs.Ledger.{Content, plain, content_for}
use Rattle.rewrite_log.specs.Entries.{makes_none}
use Rattle.ledger_contents.specs.Contents.{contents_of}
use Rattle.write_variables.specs.PerEntry.{FromEntry, per_entry}
use Rattle.ledger_circuits.specs.Circuits.{address_from}

-- The owner code of the variable that an entry makes, if any.
abbrev pub code_of : FromEntry
code_of tag variable owner node last = cond (makes_none tag) [] (owner ∷ [])

-- "First, each private parameter is read", for the caller; then those of the body's log.
abbrev pub codes_of : ℕ → List ℕ → List ℕ
codes_of private log = replicate private 1 ++ per_entry code_of log

-- "A supplied cell's serial is the call and 8 + variable": 0 is plain 0, and one more than a value that value.
abbrev pub content_of_slot : (Name → ℕ) → ℕ → ℕ → Owner → ℕ → Content
content_of_slot address call i o zero = plain 0
content_of_slot address call i o (suc x) = content_for (reader_of address o) call (8 + i) x

unfoldable pub contents_of_codes : (Name → ℕ) → ℕ → ℕ → List ℕ → List ℕ → List Content
contents_of_codes address call i [] slots = []
contents_of_codes address call i (code ∷ codes) [] = []
contents_of_codes address call i (code ∷ codes) (x ∷ slots) =
    content_of_slot address call i (owner_of_code code) x ∷ contents_of_codes address call (suc i) codes slots

-- The address of an owner is a byte.
abbrev pub NarrowReader : Reader → Type 0
NarrowReader anyone = Unit {0}
NarrowReader (only x) = x < 256

abbrev pub NarrowCode : List ℕ → ℕ → Type 0
NarrowCode addresses code = NarrowReader (reader_of (address_from addresses) (owner_of_code code))

-- One number a variable, none above that of the largest value, few enough for serials; one content a variable; addresses are bytes.
pub record VariablesRoom (log : List ℕ) (private : ℕ) (slots addresses flat : List ℕ) : Type 0 where
  pub count : length slots ≡ length (codes_of private log)
  pub room : length flat ≡ 5 * length slots
  pub few : length slots ≤ 1024
  pub small : (k : ℕ) → get_or slots k 0 ≤ 4294967296
  pub narrow : (k : ℕ) → NarrowCode addresses (get_or (codes_of private log) k 0)

-- Where an address of a code stands.
pub record AddressPlace (code place : ℕ) : Type 0 where
  pub reads : (addresses : List ℕ) → reader_of (address_from addresses) (owner_of_code code) ≡ only (get_or addresses place 0)

pub record SlotReady (slot code : ℕ) (addresses : List ℕ) (n : ℕ) : Type 0 where
  pub small : slot ≤ 4294967296
  pub narrow : NarrowCode addresses code
  pub few : n ≤ 1024

-- The first n contents are put, and with those of the codes left they are all.
pub record Left (address : Name → ℕ) (call : ℕ) (slots addresses : List ℕ) (all : List Content) (codes flat : List ℕ) (n : ℕ) : Type 0 where
  pub same : take n (contents_of flat) ++ contents_of_codes address call n codes (drop n slots) ≡ all
  pub count : n + length codes ≡ length slots
  pub room : length flat ≡ 5 * length slots
  pub narrow : (k : ℕ) → NarrowCode addresses (get_or codes k 0)

-- An entry's variable has a number, and its owner's address is a byte.
pub record EntryReady (tag code : ℕ) (slots addresses : List ℕ) (n : ℕ) : Type 0 where
  pub small : (k : ℕ) → get_or slots k 0 ≤ 4294967296
  pub few : length slots ≤ 1024
  pub narrow : makes_none tag ≡ false → NarrowCode addresses code
  pub inside : n + length (code_of tag 0 code 0 0) ≤ length slots

-- What was left with the entry's code is left without it.
pub record EntryPut (call : ℕ) (slots addresses : List ℕ) (tag code : ℕ) (before after : List ℕ) (n next : ℕ) : Type 0 where
  pub passes : (all : List Content) (codes : List ℕ)
      → Left (address_from addresses) call slots addresses all (code_of tag 0 code 0 0 ++ codes) before n
      → Left (address_from addresses) call slots addresses all codes after next
