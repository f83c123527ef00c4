-- Laws of the report's lines: from the functions' counts, line by line, and how long they are at most.
use Rattle.std.specs.Prelude.{◌≡◌, ◌∷◌, ◌++◌, ◌+◌, ◌<◌, ◌≤◌}
use Rattle.kit.specs.Names.{ap, sym, ◌∙◌, List, [], append-nil, ℕ, suc, arith, add-one, length, get_or, take}
use Rattle.kit.specs.Names.{drop, length-append, length-map, take-append-drop, get_or_map, take-suc, take_all, length-take-le, get_or-take}
use Rattle.definitions.specs.Basics.{flat_map}
use Rattle.definitions.specs.Report.{Tally, sorted, decimal, heading, tally_line, total_line, refused_line, tallies, report_lines}
use Rattle.theory_laws.proofs.Lists.{flat_append}
use Rattle.memory_append.specs.Append.{Appended}
use Rattle.memory_append.proofs.Appending.{appended_nothing, appended_length, appended_then, second_room, third_room, three_appended}
use Rattle.theory_crossings.specs.Crossings.{sum}
use Rattle.report_total.specs.Totals.{total_of}
use Rattle.report_total.proofs.Sums.{lines_total}
use Rattle.report_order.specs.Counts.{tally_of, ordered_tallies}
use Rattle.report_text.proofs.Digits.{digits_length}

-- One line more.
flat_next : {A : Type 0} (f : A → List ℕ) (ts : List A) (i : ℕ) (d : A) → i < length ts → flat_map f (take (suc i) ts) ≡ flat_map f (take i ts) ++ f (get_or ts i d)
unfolding flat_map
flat_next f ts i d l =
    ap (flat_map f) (take-suc ts i d l) ∙ flat_append f (take i ts) (get_or ts i d ∷ []) ∙ ap (λ ys. flat_map f (take i ts) ++ ys) (append-nil (f (get_or ts i d)))

flat_front : {A : Type 0} (f : A → List ℕ) (ts : List A) (i : ℕ) → length (flat_map f (take i ts)) ≤ length (flat_map f ts)
flat_front f ts i =
    let h = ap length (ap (flat_map f) (sym (take-append-drop i ts)) ∙ flat_append f (take i ts) (drop i ts)) in
    omega (arith, length-append (flat_map f (take i ts)) (flat_map f (drop i ts)))

-- The loop over the lines of an order.
module _ (counts order : List ℕ) (enough : length counts ≤ length order) where
  abbrev pub ordered : List Tally
  ordered = ordered_tallies counts (length counts) order

  abbrev pub lines_to : ℕ → List ℕ
  lines_to i = flat_map tally_line (take i ordered)

  ordered_length : length ordered ≡ length counts
  unfolding ordered_tallies
  ordered_length = length-map (take (length counts) order) (tally_of counts) ∙ length-take-le (length counts) order enough

  line_at : (i : ℕ) → i < length counts → get_or ordered i (tally_of counts 0) ≡ tally_of counts (get_or order i 0)
  unfolding ordered_tallies
  line_at i l = get_or_map (tally_of counts) (take (length counts) order) i 0 ∙ ap (tally_of counts) (get_or-take (length counts) order i 0 l)

  lines_next : (i : ℕ) → i < length counts → lines_to (i + 1) ≡ lines_to i ++ tally_line (tally_of counts (get_or order i 0))
  lines_next i l =
      let n = ordered_length in
      ap lines_to (add-one i) ∙ flat_next tally_line ordered i (tally_of counts 0) (omega arith) ∙ ap (λ t. lines_to i ++ tally_line t) (line_at i l)

  module _ (held : List ℕ) (from : ℕ) (fits : from + length (flat_map tally_line ordered) ≤ length held) where
    pub lines_start : Appended held held from (lines_to 0) from
    unfolding flat_map
    lines_start = appended_nothing held from

    pub line_room : (between : List ℕ) (i at count : ℕ) → i < length counts → count ≡ get_or counts (get_or order i 0) 0 → Appended held between from (lines_to i) at
        → at + length (tally_line (record { function = get_or order i 0; count = count })) ≤ length between
    line_room between i at count l e a =
        rw e (let front = flat_front tally_line ordered (i + 1) in
        let next = ap length (lines_next i l) in
        let both = length-append (lines_to i) (tally_line (tally_of counts (get_or order i 0))) in
        let same = appended_length held from between (lines_to i) at a (omega arith) in
        let place = a.place in
        omega arith)

    pub line_appended : (between after : List ℕ) (i at count end : ℕ) → i < length counts → count ≡ get_or counts (get_or order i 0) 0 → Appended held between from (lines_to i) at
        → Appended between after at (tally_line (record { function = get_or order i 0; count = count })) end → Appended held after from (lines_to (i + 1)) end
    line_appended between after i at count end l e a c =
        let b : Appended between after at (tally_line (tally_of counts (get_or order i 0))) end = rw e at c in
        let front = flat_front tally_line ordered i in
        rw (lines_next i l) (appended_then held from between after (lines_to i) (tally_line (tally_of counts (get_or order i 0))) at end a (omega arith) b)

    pub lines_done : (after : List ℕ) (i end : ℕ) → length counts ≤ i → Appended held after from (lines_to i) end → Appended held after from (flat_map tally_line ordered) end
    lines_done after i end l a = let n = ordered_length in rw (ap (flat_map tally_line) (take_all i ordered (omega arith))) at a

-- The heading, then the lines in sorted order, then the total.
module _ (counts order held : List ℕ) (fits : length (report_lines counts (sum counts)) ≤ length held)
    (is_sorted : ordered_tallies counts (length counts) order ≡ sorted (tallies 0 counts)) where
  abbrev in_order : List ℕ
  in_order = flat_map tally_line (ordered_tallies counts (length counts) order)

  same_lines : in_order ≡ flat_map tally_line (sorted (tallies 0 counts))
  same_lines = ap (flat_map tally_line) is_sorted

  fits_in_order : 0 + length (heading ++ in_order ++ total_line (sum counts)) ≤ length held
  fits_in_order = rw same_lines (omega arith)

  -- What is added up line by line.
  module _ (functions total : ℕ) (all : functions ≡ length counts) (added : total ≡ total_of (ordered_tallies counts functions order)) where
    total_is : total ≡ sum counts
    total_is =
        added ∙ ap (λ (n : ℕ). total_of (ordered_tallies counts n order)) all ∙ ap total_of is_sorted ∙ lines_total counts

    pub lines_room : (between : List ℕ) (at : ℕ) → Appended held between 0 heading at → at + length in_order ≤ length between
    lines_room = second_room held 0 heading in_order (total_line (sum counts)) fits_in_order

    pub total_room : (between later : List ℕ) (at next : ℕ) → Appended held between 0 heading at → Appended between later at in_order next
        → next + length (total_line total) ≤ length later
    total_room between later at next a b =
        rw total_is (third_room held 0 heading in_order (total_line (sum counts)) fits_in_order between later at next a b)

    pub report_appended : (between later after : List ℕ) (at next end : ℕ) → Appended held between 0 heading at → Appended between later at in_order next
        → Appended later after next (total_line total) end → Appended held after 0 (report_lines counts (sum counts)) end
    report_appended between later after at next end a b c =
        let d : Appended later after next (total_line (sum counts)) end = rw total_is at c in
        rw same_lines at (three_appended held 0 heading in_order (total_line (sum counts)) fits_in_order between later after at next end a b d)

-- At most twenty digits a number.
pub refused_length : (n : ℕ) → length (refused_line n) ≤ 29
refused_length n = let h = digits_length 20 n in omega (arith, length-append (decimal n) (10 ∷ []))
