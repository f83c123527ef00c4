-- A record of a program as it is read, and records one by one.
use Rattle.std.specs.Prelude.{◌≡◌, ◌+◌, ◌-◌, ◌<◌, ◌≤◌}
use Rattle.kit.specs.Names.{ap, sym, subst, ◌∙◌, Bool, true, false, cond, not, List, ℕ, arith, zero-add, leb}
use Rattle.kit.specs.Names.{length, eq-eqb, ne_eqb, le-leb, lt-leb}
use Rattle.definitions.specs.Basics.{count_if}
use Rattle.definitions.specs.ContractFile.{byte_at}
use Rattle.rehearse_scripts.specs.Scripts.{four_bytes_at}
use Rattle.test_shared.specs.Parts.{part_in}
use Rattle.test_programs.specs.declared.programs.Record.{Record}
use Rattle.test_programs.specs.Records.{starts, starts_from}
use Rattle.test_programs.specs.ProgramRecords.{printed_for, is_expected, name_end, options_end, input_end, expected_end, IsRecord, program_agrees}
use Rattle.test_programs.specs.ProgramRecords.{rest_from, program_end, ProgramsTally}
use Rattle.test_programs.proofs.Records.{starts_left, count_next, count_done, many_next, many_done}

pub record_is : (s : List ℕ) (a b c d : ℕ) → a ≡ byte_at s 0 → b ≡ byte_at s (1 + a) → c ≡ four_bytes_at s (1 + a + 1 + b)
    → d ≡ four_bytes_at s (1 + a + 1 + b + 4 + c)
    → IsRecord s (record {
      name_end = 1 + a;
      options_end = 1 + a + 1 + b;
      input_end = 1 + a + 1 + b + 4 + c;
      end = 1 + a + 1 + b + 4 + c + 4 + d;
    })
unfolding name_end options_end input_end expected_end
record_is s a b c d is_a is_b is_c is_d =
    let name : 1 + a ≡ name_end s = ap (λ (n : ℕ). 1 + n) is_a in
    let options : 1 + a + 1 + b ≡ options_end s =
    ap (λ (n : ℕ). 1 + a + 1 + n) is_b ∙ ap (λ (n : ℕ). n + 1 + byte_at s n) name in
    let input : 1 + a + 1 + b + 4 + c ≡ input_end s =
    ap (λ (n : ℕ). 1 + a + 1 + b + 4 + n) is_c ∙ ap (λ (n : ℕ). n + 4 + four_bytes_at s n) options in
    record {
      name = name;
      options = options;
      input = input;
      expected = ap (λ (n : ℕ). 1 + a + 1 + b + 4 + c + 4 + n) is_d ∙ ap (λ (n : ℕ). n + 4 + four_bytes_at s n) input;
    }

module _ (s : List ℕ) (r : Record) (is : IsRecord s r) where
  pub record_cut : length s < r.end → false ≡ program_agrees s
  unfolding program_agrees
  record_cut h = rw (lt-leb (expected_end s) (length s) (omega (arith, is.expected)))

  module _ (fits : r.end ≤ length s) (options : List ℕ) (is_options : options ≡ part_in (r.name_end + 1) r.options_end s) where
    options_are : length options ≡ length (part_in (name_end s + 1) (options_end s) s)
    options_are =
        ap length (is_options ∙ ap (λ (n : ℕ). part_in (n + 1) r.options_end s) is.name ∙ ap (λ (n : ℕ). part_in (name_end s + 1) n s) is.options)

    whole : leb (expected_end s) (length s) ≡ true
    whole = le-leb (expected_end s) (length s) (omega (arith, is.expected))

    pub record_options : (length options ≡ 0 → ⊥) → false ≡ program_agrees s
    unfolding program_agrees
    record_options some = rw (whole, ne_eqb (length (part_in (name_end s + 1) (options_end s) s)) 0 (λ z. some (options_are ∙ z)))

    pub record_agrees_law : length options ≡ 0 → (name input expected : List ℕ) → name ≡ part_in 1 r.name_end s
        → input ≡ part_in (r.options_end + 4) r.input_end s → expected ≡ part_in (r.input_end + 4) r.end s
        → (b : Bool) → b ≡ is_expected (printed_for name input) expected → b ≡ program_agrees s
    unfolding program_agrees
    record_agrees_law none name input expected is_name is_input is_expected' b e =
        let the_name : name ≡ part_in 1 (name_end s) s = is_name ∙ ap (λ (n : ℕ). part_in 1 n s) is.name in
        let the_input : input ≡ part_in (options_end s + 4) (input_end s) s =
        is_input ∙ ap (λ (n : ℕ). part_in (n + 4) r.input_end s) is.options ∙ ap (λ (n : ℕ). part_in (options_end s + 4) n s) is.input in
        let the_expected : expected ≡ part_in (input_end s + 4) (expected_end s) s =
        is_expected' ∙ ap (λ (n : ℕ). part_in (n + 4) r.end s) is.input ∙ ap (λ (n : ℕ). part_in (input_end s + 4) n s) is.expected in
        e ∙ ap (λ (l : List ℕ). is_expected (printed_for l input) expected) the_name
        ∙ ap (λ (l : List ℕ). is_expected (printed_for (part_in 1 (name_end s) s) l) expected) the_input
        ∙ ap (λ (l : List ℕ). is_expected (printed_for (part_in 1 (name_end s) s) (part_in (options_end s + 4) (input_end s) s)) l) the_expected
        ∙ rw (whole, eq-eqb (length (part_in (name_end s + 1) (options_end s) s)) 0 (sym options_are ∙ none))

-- Record by record.
module _ (s : List ℕ) where
  further : (at : ℕ) → at < program_end s at
  unfolding expected_end
  further at = omega arith

  abbrev pub differs : ℕ → Bool
  differs at = not (program_agrees (rest_from s at))

  -- What is counted so far, and what is left to count.
  pub record Counting (at records different : ℕ) : Type 0 where
    pub all : records + length (starts_left (program_end s) (length s) at) ≡ length (starts (program_end s) (length s))
    pub others : different + count_if differs (starts_left (program_end s) (length s) at) ≡ count_if differs (starts (program_end s) (length s))

  pub counting_start : Counting 0 0 0
  counting_start =
      let same : length s - 0 ≡ length s = omega arith in
      record {
        all = ap (λ (n : ℕ). 0 + length (starts_from (program_end s) (length s) n 0)) same ∙ zero-add _;
        others = ap (λ (n : ℕ). 0 + count_if differs (starts_from (program_end s) (length s) n 0)) same ∙ zero-add _;
      }

  module _ (at records different : ℕ) (so_far : Counting at records different) where
    pub counting_done : length s ≤ at → ProgramsTally s (record { records = records; different = different })
    counting_done h =
        record {
          records = many_done (program_end s) (length s) further records _ at so_far.all h;
          different = count_done (program_end s) (length s) further differs different _ at so_far.others h;
        }

    module _ (inside : at < length s) (rest : List ℕ) (r : Record) (a : Bool) (lent : rest ≡ rest_from s at) (is : IsRecord rest r)
        (agrees : a ≡ program_agrees rest) where
      next_at : at + r.end ≡ program_end s at
      next_at = ap (λ (n : ℕ). at + n) (is.expected ∙ ap expected_end lent)

      counting_next : Counting (at + r.end) (records + 1) (different + cond (not a) 1 0)
      counting_next =
          record {
            all = ap (λ (n : ℕ). records + 1 + length (starts_left (program_end s) (length s) n)) next_at
                ∙ many_next (program_end s) (length s) further records _ at so_far.all inside;
            others = ap (λ (n : ℕ). different + cond (not a) 1 0 + count_if differs (starts_left (program_end s) (length s) n)) next_at
                ∙ ap (λ (b : Bool). different + cond (not b) 1 0 + count_if differs (starts_left (program_end s) (length s) (program_end s at)))
                (agrees ∙ ap program_agrees lent)
                ∙ count_next (program_end s) (length s) further differs different _ at so_far.others inside;
          }

      pub counting_same : a ≡ true → Counting (at + r.end) (records + 1) different
      counting_same e =
          let none : different + 0 ≡ different = omega arith in
          subst (λ (n : ℕ). Counting (at + r.end) (records + 1) n) (ap (λ (b : Bool). different + cond (not b) 1 0) e ∙ none) counting_next

      pub counting_other : a ≡ false → Counting (at + r.end) (records + 1) (different + 1)
      counting_other e =
          subst (λ (n : ℕ). Counting (at + r.end) (records + 1) n) (ap (λ (b : Bool). different + cond (not b) 1 0) e) counting_next
