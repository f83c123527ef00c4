-- Recorded inputs of our programs. A record is: length of the program's name (1), the name, length of the options (1), the options, length
-- of the input (4), the input, length of the expected output (4), that output.
use Rattle.std.specs.Prelude.{◌≡◌, ◌&&◌, ◌∷◌, ◌++◌, ◌+◌}
use Rattle.kit.specs.Names.{Bool, cond, not, List, [], ℕ, zero, suc, eqb, leb, ltb, length, take, drop}
use Rattle.definitions.specs.Basics.{is_zero, count_if}
use Rattle.definitions.specs.ContractFile.{byte_at}
use Rattle.definitions.specs.Numbers.{check_number}
use Rattle.definitions.specs.Report.{report_text, refused_line}
use Rattle.definitions.specs.Rewriting.{written_file}
use Rattle.definitions.specs.Ledger as ledger
use Rattle.definitions.specs.Ledger.{deploy_number, deployed, call_number, ledger_after_call}
use Rattle.definitions.specs.View.{view_bytes, view_number}
use Rattle.rehearse_scripts.specs.Scripts.{four_bytes_at, addresses_end, call_count, call_at, arguments_of, is_script, file_of, addresses_of}
use Rattle.rehearse_lines.specs.Lines.{view_line}
use Rattle.test_shared.specs.Bytes.{same_bytes}
use Rattle.test_shared.specs.Parts.{part_in}
use Rattle.test_shared.specs.declared.Tally.{Tally}
use Rattle.test_programs.specs.declared.programs.Record.{Record}
use Rattle.test_programs.specs.Records.{starts}

-- The text of an answer whose number is 0; otherwise the line that tells the number.
unfoldable pub answer_text : ℕ → List ℕ → List ℕ
answer_text number text = cond (is_zero number) text (refused_line number)

-- `accepted`, `bad script`, each with the line's end; and the names of the programs.
abbrev pub accepted_line : List ℕ
accepted_line = 97 ∷ 99 ∷ 99 ∷ 101 ∷ 112 ∷ 116 ∷ 101 ∷ 100 ∷ 10 ∷ []

abbrev pub bad_script_line : List ℕ
bad_script_line = 98 ∷ 97 ∷ 100 ∷ 32 ∷ 115 ∷ 99 ∷ 114 ∷ 105 ∷ 112 ∷ 116 ∷ 10 ∷ []

abbrev pub verdict_name : List ℕ
verdict_name = 118 ∷ 101 ∷ 114 ∷ 100 ∷ 105 ∷ 99 ∷ 116 ∷ []

abbrev pub compile_name : List ℕ
compile_name = 99 ∷ 111 ∷ 109 ∷ 112 ∷ 105 ∷ 108 ∷ 101 ∷ []

abbrev pub report_name : List ℕ
report_name = 114 ∷ 101 ∷ 112 ∷ 111 ∷ 114 ∷ 116 ∷ []

abbrev pub rehearse_name : List ℕ
rehearse_name = 114 ∷ 101 ∷ 104 ∷ 101 ∷ 97 ∷ 114 ∷ 115 ∷ 101 ∷ []

-- What the named program prints for a contract file; nothing where the name is none of these.
unfoldable pub printed_by : List ℕ → List ℕ → List ℕ
printed_by name file =
    cond (same_bytes verdict_name name)
    (answer_text (check_number file) accepted_line)
    (cond (same_bytes compile_name name)
    (answer_text (check_number file) (written_file file))
    (cond (same_bytes report_name name) (answer_text (check_number file) (report_text file)) []))

-- A line of a rehearsal: the number, and the party's view, which is empty where it is refused.
unfoldable pub view_shown : ℕ → ledger.Ledger → List ℕ
view_shown party l = cond (is_zero (view_number party l 20565)) (view_bytes party l) []

abbrev pub line_of : ℕ → ℕ → ledger.Ledger → List ℕ
line_of number party l = view_line number (view_shown party l)

-- Call k of a script on a ledger: its number, and the ledger after it.
unfoldable pub call_number_at : List ℕ → ℕ → ledger.Ledger → ℕ
call_number_at s k l = call_number l (byte_at s (call_at s k)) (byte_at s (call_at s k + 1)) (arguments_of s k)

unfoldable pub ledger_after_call_at : List ℕ → ℕ → ledger.Ledger → ledger.Ledger
ledger_after_call_at s k l = ledger_after_call l (byte_at s (call_at s k)) (byte_at s (call_at s k + 1)) (arguments_of s k)

-- The lines of so many calls, from call k on.
unfoldable pub call_lines : ℕ → List ℕ → ℕ → ℕ → ledger.Ledger → List ℕ
call_lines zero s party k l = []
call_lines (suc left) s party k l =
    line_of (call_number_at s k l) party (ledger_after_call_at s k l) ++ call_lines left s party (k + 1) (ledger_after_call_at s k l)

-- All lines of a script, from the ledger that it deploys on.
unfoldable pub script_lines : List ℕ → ledger.Ledger → List ℕ
script_lines s l = line_of 0 (byte_at s (addresses_end s)) l ++ call_lines (call_count s) s (byte_at s (addresses_end s)) 0 l

unfoldable pub rehearsed : List ℕ → List ℕ
rehearsed s =
    cond (is_script s)
    (answer_text (deploy_number (file_of s) (addresses_of s)) (script_lines s (deployed (file_of s) (addresses_of s))))
    bad_script_line

-- What the named program prints for its input.
unfoldable pub printed_for : List ℕ → List ℕ → List ℕ
printed_for name input = cond (same_bytes rehearse_name name) (rehearsed input) (printed_by name input)

-- Every program prints something, so that nothing is never right.
unfoldable pub is_expected : List ℕ → List ℕ → Bool
is_expected text expected = ltb 0 (length text) && same_bytes text expected

-- Where the parts of the record end with which some bytes begin.
unfoldable pub name_end : List ℕ → ℕ
name_end s = 1 + byte_at s 0

unfoldable pub options_end : List ℕ → ℕ
options_end s = name_end s + 1 + byte_at s (name_end s)

unfoldable pub input_end : List ℕ → ℕ
input_end s = options_end s + 4 + four_bytes_at s (options_end s)

unfoldable pub expected_end : List ℕ → ℕ
expected_end s = input_end s + 4 + four_bytes_at s (input_end s)

pub record IsRecord (s : List ℕ) (r : Record) : Type 0 where
  pub name : r.name_end ≡ name_end s
  pub options : r.options_end ≡ options_end s
  pub input : r.input_end ≡ input_end s
  pub expected : r.end ≡ expected_end s

-- The record is all there, none of its programs takes an option, and the one that it names prints what is expected.
unfoldable pub program_agrees : List ℕ → Bool
program_agrees s =
    leb (expected_end s) (length s)
    && (eqb (length (part_in (name_end s + 1) (options_end s) s)) 0
    && is_expected (printed_for (part_in 1 (name_end s) s) (part_in (options_end s + 4) (input_end s) s))
    (part_in (input_end s + 4) (expected_end s) s))

-- The bytes from a place on, and where the record ends that begins there.
abbrev pub rest_from : List ℕ → ℕ → List ℕ
rest_from s at = part_in at (length s) s

abbrev pub program_end : List ℕ → ℕ → ℕ
program_end s at = at + expected_end (rest_from s at)

-- All records are counted, and as different those that do not agree; one that is cut short is among these.
pub record ProgramsTally (s : List ℕ) (t : Tally) : Type 0 where
  pub records : t.records ≡ length (starts (program_end s) (length s))
  pub different : t.different ≡ count_if (λ at. not (program_agrees (rest_from s at))) (starts (program_end s) (length s))

-- A text stands at the front of an output, which is told by its length.
pub record Shown (text out : List ℕ) (r : ℕ) : Type 0 where
  pub long : r ≡ length text
  pub front : take r out ≡ text

-- A text stands at a place of some bytes; the place behind it, 0 where it does not.
unfoldable pub stands_at : List ℕ → List ℕ → ℕ → Bool
stands_at text bytes at = leb (at + length text) (length bytes) && same_bytes text (take (length text) (drop at bytes))

unfoldable pub behind_text : List ℕ → List ℕ → ℕ → ℕ
behind_text text bytes at = cond (stands_at text bytes at) (at + length text) 0
