-- Recorded contract files. A record is: length of the file (2), the file, its number (1), length of the written file (2), that file, length
-- of the report (2), the report.
use Rattle.std.specs.Prelude.{◌≡◌, ◌&&◌, ◌+◌}
use Rattle.kit.specs.Names.{Bool, true, cond, not, List, ℕ, eqb, leb, length}
use Rattle.definitions.specs.Basics.{is_zero, count_if}
use Rattle.definitions.specs.ContractFile.{byte_at, two_bytes_at}
use Rattle.definitions.specs.Numbers.{check_number}
use Rattle.definitions.specs.Report.{report_text, refused_line}
use Rattle.definitions.specs.Rewriting.{written_file}
use Rattle.rehearse_scripts.specs.Scripts.{part}
use Rattle.test_shared.specs.Bytes.{same_bytes}
use Rattle.test_shared.specs.declared.Tally.{Tally}
use Rattle.test_programs.specs.Records.{starts}

-- Where a part that begins at a place, with its length, ends.
unfoldable pub part_end : List ℕ → ℕ → ℕ
part_end s at = at + 2 + two_bytes_at s at

-- Of the record that begins at a place: where its file ends, where its written file does, and where it ends itself.
abbrev pub written_end : List ℕ → ℕ → ℕ
written_end s at = part_end s (part_end s at + 1)

abbrev pub record_end : List ℕ → ℕ → ℕ
record_end s at = part_end s (written_end s at)

-- What is written of a file with this number: where it is accepted, the recorded file. No written file is longer than 49,152 bytes.
unfoldable pub is_written_as : List ℕ → ℕ → List ℕ → Bool
is_written_as file number written = leb (length written) 49152 && cond (is_zero number) (same_bytes (written_file file) written) true

-- What is reported of it: where it is accepted, its report, otherwise the line that tells the number.
unfoldable pub is_reported_as : List ℕ → ℕ → List ℕ → Bool
is_reported_as file number text = same_bytes (cond (is_zero number) (report_text file) (refused_line number)) text

-- A file has the number that is recorded, and is written and reported as recorded.
unfoldable pub file_agrees : List ℕ → ℕ → List ℕ → List ℕ → Bool
file_agrees file number written text =
    eqb (check_number file) number && (is_written_as file number written && is_reported_as file number text)

-- The record that begins at a place is all there, and its file agrees.
abbrev pub is_whole : List ℕ → ℕ → Bool
is_whole s at = leb (record_end s at) (length s)

unfoldable pub record_agrees : List ℕ → ℕ → Bool
record_agrees s at =
    is_whole s at
    && file_agrees (part (at + 2) (part_end s at) s) (byte_at s (part_end s at)) (part (part_end s at + 3) (written_end s at) s)
    (part (written_end s at + 2) (record_end s at) s)

-- The records that are all there are counted, and as different those that do not agree; one that is cut short is among these.
pub record FilesTally (s : List ℕ) (t : Tally) : Type 0 where
  pub records : t.records ≡ count_if (is_whole s) (starts (record_end s) (length s))
  pub different : t.different ≡ count_if (λ at. not (record_agrees s at)) (starts (record_end s) (length s))
