-- What entries leave in an output, held against what is due.
use Rattle.std.specs.Prelude.{◌&&◌, ◌++◌, ◌-◌}
use Rattle.kit.specs.Names.{Bool, true, cond, List, ℕ, eqb, ltb, length, replicate}
use Rattle.definitions.specs.Basics.{is_zero}
use Rattle.definitions.specs.Rewriting.{written_file}
use Rattle.test_shared.specs.Bytes.{same_bytes}

-- What stands in an output of so many bytes before anything is written, and what stands there with some bytes written to its front.
unfoldable pub unwritten : ℕ → List ℕ
unwritten room = replicate room 170

unfoldable pub output_with : List ℕ → ℕ → List ℕ
output_with bytes room = bytes ++ unwritten (room - length bytes)

-- An answer is the number that is due, and the bytes that are due are what it gave.
unfoldable pub is_answer : ℕ → ℕ → List ℕ → ℕ → List ℕ → Bool
is_answer number long out due bytes = eqb number due && (eqb long (length bytes) && same_bytes out (output_with bytes (length out)))

-- What is due of writing a file with this number into so many bytes: where these are too few for the recorded file, they are too few for
-- the written one.
unfoldable pub writes_in : List ℕ → ℕ → List ℕ → ℕ → Bool
writes_in file number written room =
    cond (is_zero number)
    (cond (ltb room (length written)) (ltb room (length (written_file file))) (same_bytes (written_file file) written))
    true
