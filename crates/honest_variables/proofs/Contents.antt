-- The contents of a call's variables, put one after another.
use Rattle.std.specs.Prelude.{◌≡◌, ◌∷◌, ◌++◌, ◌+◌, ◌*◌, ◌-◌, ◌<◌, ◌≤◌}
use Rattle.kit.specs.Names.{refl, ap, sym, ◌∙◌, true, false, List, [], append_assoc, append-nil, ℕ, suc}
use Rattle.kit.specs.Names.{arith, add-one, length, get_or, take, drop, set, length-append, drop-cons, take-suc-set, take_all}
use Rattle.definitions.specs.ContractFile.{Name, owner_of_code}
use Rattle.definitions.specs.Ledger.{Content}
use Rattle.rewrite_log.specs.Entries.{makes_none}
use Rattle.ledger_contents.specs.Contents.{contents_of}
use Rattle.ledger_contents.proofs.FlatContents.{length_contents_of}
use Rattle.write_variables.specs.PerEntry.{per_entry}
use Rattle.write_variables.proofs.PerEntry.{entry_next, entry_none}
use Rattle.ledger_circuits.specs.Circuits.{address_from}
use Rattle.honest_variables.specs.Variables.{code_of, codes_of, content_of_slot, contents_of_codes, VariablesRoom, Left, EntryReady, EntryPut}

codes_first : (address : Name → ℕ) (call i code : ℕ) (codes : List ℕ) (x : ℕ) (slots : List ℕ)
    → contents_of_codes address call i (code ∷ codes) (x ∷ slots) ≡ content_of_slot address call i (owner_of_code code) x ∷ contents_of_codes address call (suc i) codes slots
unfolding contents_of_codes
codes_first address call i code codes x slots = refl

codes_none : (address : Name → ℕ) (call i : ℕ) (slots : List ℕ) → contents_of_codes address call i [] slots ≡ []
unfolding contents_of_codes
codes_none address call i slots = refl

-- One more content is put.
module _ (address : Name → ℕ) (call : ℕ) (slots addresses : List ℕ) (all : List Content) (code : ℕ) (codes flat after : List ℕ) (n : ℕ)
    (left : Left address call slots addresses all (code ∷ codes) flat n) (content : Content)
    (what : content ≡ content_of_slot address call n (owner_of_code code) (get_or slots n 0)) (put : contents_of after ≡ set (contents_of flat) n content)
    (size : length after ≡ length flat) where
  left_all : take (n + 1) (contents_of after) ++ contents_of_codes address call (n + 1) codes (drop (n + 1) slots) ≡ all
  left_all =
      let c = left.count in
      let room = left.room in
      let m = length_contents_of flat in
      let front : take (suc n) (contents_of after) ≡ take n (contents_of flat) ++ (content ∷ []) =
      ap (take (suc n)) put ∙ take-suc-set (contents_of flat) n content (omega arith) in
      ap (λ (k : ℕ). take k (contents_of after) ++ contents_of_codes address call k codes (drop k slots)) (add-one n)
      ∙ ap (λ (l : List Content). l ++ contents_of_codes address call (suc n) codes (drop (suc n) slots)) front
      ∙ append_assoc (take n (contents_of flat)) (content ∷ []) (contents_of_codes address call (suc n) codes (drop (suc n) slots))
      ∙ ap (λ (x : Content). take n (contents_of flat) ++ (x ∷ contents_of_codes address call (suc n) codes (drop (suc n) slots))) what
      ∙ ap (λ (l : List Content). take n (contents_of flat) ++ l)
      (sym (codes_first address call n code codes (get_or slots n 0) (drop (suc n) slots)) ∙ ap (contents_of_codes address call n (code ∷ codes)) (sym (drop-cons slots n 0 (omega arith))))
      ∙ left.same

  pub left_more : Left address call slots addresses all codes after (n + 1)
  left_more =
      record {
        same = left_all;
        count = omega (arith, left.count);
        room = size ∙ left.room;
        narrow = λ k. left.narrow (suc k);
      }

module _ (call : ℕ) (slots addresses : List ℕ) (tag code : ℕ) where
  no_codes : (codes : List ℕ) → makes_none tag ≡ true → code_of tag 0 code 0 0 ++ codes ≡ codes
  no_codes codes e = rw e

  other_codes : (codes : List ℕ) → makes_none tag ≡ false → code_of tag 0 code 0 0 ++ codes ≡ code ∷ codes
  other_codes codes n = rw n

  pub entry_passed : (flat : List ℕ) (n : ℕ) → makes_none tag ≡ true → EntryPut call slots addresses tag code flat flat n n
  entry_passed flat n e =
      record { passes = λ all codes left. rw (no_codes codes e) at left }

  pub entry_inside : (n : ℕ) → makes_none tag ≡ false → n + length (code_of tag 0 code 0 0) ≤ length slots → n < length slots
  entry_inside n o h = let e = ap length (other_codes [] o) in let l = length-append (code_of tag 0 code 0 0) [] in omega arith

  pub entry_other : (flat after : List ℕ) (n slot : ℕ) (content : Content) → makes_none tag ≡ false → slot ≡ get_or slots n 0
      → content ≡ content_of_slot (address_from addresses) call n (owner_of_code code) slot → contents_of after ≡ set (contents_of flat) n content → length after ≡ length flat
      → EntryPut call slots addresses tag code flat after n (n + 1)
  entry_other flat after n slot content o e c put size =
      record {
        passes = λ all codes left.
            left_more (address_from addresses) call slots addresses all code codes flat after n (rw (other_codes codes o) at left) content
            (c ∙ ap (content_of_slot (address_from addresses) call n (owner_of_code code)) e) put size;
      }

  pub entry_ready : (address : Name → ℕ) (all : List Content) (codes flat : List ℕ) (n : ℕ) → ((k : ℕ) → get_or slots k 0 ≤ 4294967296) → length slots ≤ 1024
      → Left address call slots addresses all (code_of tag 0 code 0 0 ++ codes) flat n → EntryReady tag code slots addresses n
  entry_ready address all codes flat n small few left =
      record {
        small = small;
        few = few;
        narrow = λ o. (rw (other_codes codes o) at left).narrow 0;
        inside = omega (arith, left.count, length-append (code_of tag 0 code 0 0) codes);
      }

-- The reads of private parameters, and then the log's entries.
module _ (log : List ℕ) (private : ℕ) (slots addresses flat₀ : List ℕ) (call : ℕ) where
  abbrev goal : List Content
  goal = contents_of_codes (address_from addresses) call 0 (codes_of private log) slots

  abbrev pub Opening : ℕ → List ℕ → ℕ → Type 0
  Opening left flat n = Left (address_from addresses) call slots addresses (contents_of_codes (address_from addresses) call 0 (codes_of private log) slots) (codes_of left log) flat n

  abbrev pub Entering : ℕ → List ℕ → ℕ → Type 0
  Entering i flat n =
      Left (address_from addresses) call slots addresses (contents_of_codes (address_from addresses) call 0 (codes_of private log) slots) (per_entry code_of (drop i log)) flat n

  pub opening_start : VariablesRoom log private slots addresses flat₀ → Opening (private - 0) flat₀ 0
  opening_start ready = let all : private - 0 ≡ private = omega arith in rw all record { same = refl; count = omega (arith, ready.count); room = ready.room; narrow = ready.narrow }

  -- One read fewer is left, and five numbers of the log fewer.
  pub opening_less : (count passed : ℕ) (flat : List ℕ) (n : ℕ) → Opening (count - passed - 1) flat n → Opening (count - (passed + 1)) flat n
  opening_less count passed flat n h =
      let e : count - (passed + 1) ≡ count - passed - 1 = omega arith in
      rw e h

  pub entering_less : (e : ℕ) (flat : List ℕ) (n : ℕ) → Entering (5 * e + 5) flat n → Entering (5 * (e + 1)) flat n
  entering_less e flat n h =
      let next : 5 * (e + 1) ≡ 5 * e + 5 = omega arith in
      rw next h

  pub opening_next : (left : ℕ) (flat : List ℕ) (n : ℕ) → 0 < left → Opening left flat n
      → Left (address_from addresses) call slots addresses goal (code_of 2 0 1 0 0 ++ codes_of (left - 1) log) flat n
  opening_next left flat n some h =
      let e : left ≡ suc (left - 1) = omega arith in
      rw e at h

  pub opening_done : (left : ℕ) (flat : List ℕ) (n : ℕ) → left ≡ 0 → Opening left flat n → Entering 0 flat n
  opening_done left flat n e h = rw e at h

  pub entering_next : (i : ℕ) (flat : List ℕ) (n : ℕ) → i + 4 < length log → Entering i flat n
      → Left (address_from addresses) call slots addresses goal (code_of (get_or log i 0) 0 (get_or log (i + 2) 0) 0 0 ++ per_entry code_of (drop (i + 5) log)) flat n
  entering_next i flat n h left = rw (entry_next code_of log i h) at left

  pub entering_done : (i : ℕ) (flat : List ℕ) (n : ℕ) → length log ≤ i + 4 → Entering i flat n → contents_of flat ≡ goal
  entering_done i flat n h left =
      let nothing : per_entry code_of (drop i log) ≡ [] = entry_none code_of log i h in
      let whole = rw nothing at left.count in
      let m = length_contents_of flat in
      let room = left.room in
      sym (take_all n (contents_of flat) (omega arith)) ∙ sym (append-nil (take n (contents_of flat)))
      ∙ ap (λ (l : List Content). take n (contents_of flat) ++ l)
      (sym (ap (λ (codes : List ℕ). contents_of_codes (address_from addresses) call n codes (drop n slots)) nothing ∙ codes_none (address_from addresses) call n (drop n slots)))
      ∙ left.same
