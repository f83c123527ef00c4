-- The decoder's loops: what is stored already and what is left to store make the whole.
use Rattle.std.specs.Prelude.{◌≡◌, ◌++◌, ◌+◌, ◌*◌, ◌-◌, ◌/◌, ◌<◌, ◌≤◌}
use Rattle.kit.specs.Names.{ap, sym, ◌∙◌, List, ℕ, zero, suc, arith, length, drop, length-drop, length-take-le}
use Rattle.definitions.specs.ContractFile.{byte_at, function_end, functions_end}
use Rattle.definitions.specs.Reading.{functions_passed}
use Rattle.theory_laws.proofs.Records.{force_is}
use Rattle.memory_buffer.specs.Buffer.{stored}
use Rattle.memory_buffer.proofs.Storing.{stored_length, stored_nothing, stored_then}
use Rattle.file_node_decoder.specs.Numbers.{node_numbers}
use Rattle.file_decoder.specs.Decoding.{nodes_numbers, function_numbers, own_numbers, functions_numbers, parameters_numbers, FunctionRoom, FunctionsRoom}

stored_more : (held after piece later whole : List ℕ) (at next : ℕ) → after ≡ stored held at piece → next ≡ at + length piece
    → at + length piece ≤ length held → stored held at (piece ++ later) ≡ whole → stored after next later ≡ whole
stored_more held after piece later whole at next put behind fits inv = rw (put, behind) (stored_then held at piece later fits ∙ inv)

module _ (file nodes whole : List ℕ) (place at : ℕ) where
  pub nodes_more : (left : ℕ) (after : List ℕ) → 0 < left → after ≡ stored nodes at (node_numbers file place) → at + 5 ≤ length nodes
      → stored nodes at (nodes_numbers left file place) ≡ whole → stored after (at + 5) (nodes_numbers (left - 1) file (place + 8)) ≡ whole
  unfolding nodes_numbers
  nodes_more zero after h put fits inv = absurd (omega arith)
  nodes_more (suc k) after h put fits inv =
      let e : suc k - 1 ≡ k = omega arith in
      rw e (stored_more nodes after (node_numbers file place) (nodes_numbers k file (place + 8)) whole at (at + 5) put (omega arith) fits inv)

  pub nodes_done : (left : ℕ) → left ≤ 0 → stored nodes at (nodes_numbers left file place) ≡ whole → nodes ≡ whole
  unfolding nodes_numbers
  nodes_done zero h inv = sym (stored_nothing nodes at) ∙ inv
  nodes_done (suc k) h inv = absurd (omega arith)

-- Each function has three bytes at least.
pub ends_grow : (k : ℕ) (file : List ℕ) (at : ℕ) → at + 3 * k ≤ functions_end k file at
unfolding functions_passed
ends_grow zero file at = omega arith
ends_grow (suc k) file at = rw (force_is (function_end file at) (functions_end k file)) (omega (arith, ends_grow k file (function_end file at)))

-- Functions are left: their numbers and their parameters' are still to store, and the places in file and slices belong together.
pub record FunctionsLeft (file : List ℕ) (from : ℕ) (functions₀ parameters₀ : List ℕ) (left place at first : ℕ) (functions parameters : List ℕ) : Type 0 where
  pub numbers : stored functions at (functions_numbers left file place first) ≡ stored functions₀ 0 (functions_numbers (length functions₀ / 3) file from 0)
  pub own : stored parameters first (parameters_numbers left file place) ≡ stored parameters₀ 0 (parameters_numbers (length functions₀ / 3) file from)
  pub end : functions_end left file place ≡ functions_end (length functions₀ / 3) file from
  pub together : place ≡ from + at + first
  pub inside : at + 3 * left ≡ 3 * (length functions₀ / 3)
  pub long_functions : length functions ≡ length functions₀
  pub long_parameters : length parameters ≡ length parameters₀

module _ (file : List ℕ) (from : ℕ) (functions₀ parameters₀ : List ℕ) (place at first : ℕ) (functions parameters : List ℕ)
    (room : FunctionsRoom file from functions₀ parameters₀) where
  end_next : (k : ℕ) → functions_end (suc k) file place ≡ functions_end k file (function_end file place)
  unfolding functions_passed
  end_next k = force_is (function_end file place) (functions_end k file)

  -- Room for the next function.
  pub next_room : (left : ℕ) → 0 < left → FunctionsLeft file from functions₀ parameters₀ left place at first functions parameters
      → FunctionRoom file place functions at parameters first
  next_room zero h so = absurd (omega arith)
  next_room (suc k) h so =
      let grown = ends_grow k file (function_end file place) in
      let next = end_next k in
      record {
        there = omega (arith, room.there, room.exact, so.end);
        numbers = omega (arith, so.inside, so.long_functions);
        for_parameters = omega (arith, room.exact, so.end, so.together, so.inside, so.long_parameters);
        small = omega (arith, room.exact, room.small, so.end, so.together, so.inside);
      }

  pub functions_more : (left own : ℕ) (functions' parameters' : List ℕ) → 0 < left → own ≡ byte_at file place
      → FunctionsLeft file from functions₀ parameters₀ left place at first functions parameters
      → functions' ≡ stored functions at (function_numbers file place first) → parameters' ≡ stored parameters first (own_numbers file place)
      → FunctionsLeft file from functions₀ parameters₀ (left - 1) (place + (1 + 2 * own + 2)) (at + 3) (first + 2 * own) functions' parameters'
  unfolding functions_numbers parameters_numbers
  functions_more zero own functions' parameters' h own_is so put copied = absurd (omega arith)
  functions_more (suc k) own functions' parameters' h own_is so put copied =
      let room_here = next_room (suc k) h so in
      let long = length-take-le (2 * byte_at file place) (drop (place + 1) file) (omega (arith, length-drop (place + 1) file, room_here.there)) in
      let less : suc k - 1 ≡ k = omega arith in
      let place_is : place + (1 + 2 * byte_at file place + 2) ≡ function_end file place = omega arith in
      rw (less, own_is, place_is) (record {
        numbers = stored_more functions functions' (function_numbers file place first) _ _ at (at + 3) put (omega arith) room_here.numbers so.numbers;
        own = stored_more parameters parameters' (own_numbers file place) _ _ first (first + 2 * byte_at file place) copied (omega arith)
            (omega (arith, room_here.for_parameters)) so.own;
        end = sym (end_next k) ∙ so.end;
        together = omega (arith, so.together);
        inside = omega (arith, so.inside);
        long_functions = ap length put ∙ stored_length functions at (function_numbers file place first) room_here.numbers ∙ so.long_functions;
        long_parameters = ap length copied ∙ stored_length parameters first (own_numbers file place) (omega (arith, room_here.for_parameters)) ∙ so.long_parameters;
      })

  pub functions_done : (left : ℕ) → left ≤ 0 → FunctionsLeft file from functions₀ parameters₀ left place at first functions parameters
      → (functions ≡ stored functions₀ 0 (functions_numbers (length functions₀ / 3) file from 0))
      × (parameters ≡ stored parameters₀ 0 (parameters_numbers (length functions₀ / 3) file from))
  unfolding functions_numbers parameters_numbers
  functions_done zero h so = (sym (stored_nothing functions at) ∙ so.numbers, sym (stored_nothing parameters first) ∙ so.own)
  functions_done (suc k) h so = absurd (omega arith)
