-- A rehearsal script: "length of a contract file (2 bytes), the file, count of addresses (1), the addresses, party (1), count of calls (1),
-- then each call: function (1), caller (1), count of arguments (1), each argument (4). Numbers are low byte first."
use Rattle.std.specs.Prelude.{◌∷◌, ◌+◌, ◌*◌, ◌-◌}
use Rattle.kit.specs.Names.{Bool, cond, List, [], ℕ, zero, suc, eqb, length, take, drop}
use Rattle.definitions.specs.Basics.{force}
use Rattle.definitions.specs.ContractFile.{byte_at, two_bytes_at}

abbrev pub four_bytes_at : List ℕ → ℕ → ℕ
four_bytes_at s at = two_bytes_at s at + 65536 * two_bytes_at s (at + 2)

-- Where the contract file ends, and the count of addresses stands.
abbrev pub file_end : List ℕ → ℕ
file_end s = 2 + two_bytes_at s 0

-- Where the addresses end, and the party stands; the count of calls is behind it.
abbrev pub addresses_end : List ℕ → ℕ
addresses_end s = file_end s + 1 + byte_at s (file_end s)

abbrev pub call_count : List ℕ → ℕ
call_count s = byte_at s (addresses_end s + 1)

abbrev pub calls_at : List ℕ → ℕ
calls_at s = addresses_end s + 2

-- Where the call that begins at a place ends.
abbrev pub call_end : List ℕ → ℕ → ℕ
call_end s at = at + 3 + 4 * byte_at s (at + 2)

unfoldable pub calls_end : ℕ → List ℕ → ℕ → ℕ
calls_end zero s at = at
calls_end (suc n) s at = force (call_end s at) (calls_end n s)

-- "a script that ends too early or runs on" is none. A byte that is not there reads as 0, and its own place alone then lies past the end.
unfoldable pub is_script : List ℕ → Bool
is_script s = eqb (length s) (calls_end (call_count s) s (calls_at s))

-- Where call k begins.
abbrev pub call_at : List ℕ → ℕ → ℕ
call_at s k = calls_end k s (calls_at s)

-- Argument j of call k.
abbrev pub argument_at : List ℕ → ℕ → ℕ → ℕ
argument_at s k j = four_bytes_at s (call_at s k + 3 + 4 * j)

-- Numbers of four bytes, as many as told, from a place on.
unfoldable pub numbers_at : ℕ → List ℕ → ℕ → List ℕ
numbers_at zero s at = []
numbers_at (suc n) s at = four_bytes_at s at ∷ numbers_at n s (at + 4)

-- The arguments of call k.
abbrev pub arguments_of : List ℕ → ℕ → List ℕ
arguments_of s k = numbers_at (byte_at s (call_at s k + 2)) s (call_at s k + 3)

-- The bytes from one place up to another.
abbrev pub part : ℕ → ℕ → List ℕ → List ℕ
part start end s = take (end - start) (drop start s)

-- The parts that a script lends; bytes that are no script lend nothing.
unfoldable pub file_of : List ℕ → List ℕ
file_of s = cond (is_script s) (part 2 (file_end s) s) []

unfoldable pub addresses_of : List ℕ → List ℕ
addresses_of s = cond (is_script s) (part (file_end s + 1) (addresses_end s) s) []
