-- The numbers that the decoder makes of a file's bytes.
use Rattle.std.specs.Prelude.{◌∷◌, ◌+◌}
use Rattle.kit.specs.Names.{List, [], ℕ, take, drop}
use Rattle.definitions.specs.ContractFile.{byte_at, two_bytes_at}

-- So many bytes from a place on, each by itself.
abbrev pub bytes_at : List ℕ → ℕ → ℕ → List ℕ
bytes_at file from count = take count (drop from file)

abbrev pub node_numbers : List ℕ → ℕ → List ℕ
node_numbers file at =
    byte_at file at ∷ byte_at file (at + 1) ∷ two_bytes_at file (at + 2) ∷ two_bytes_at file (at + 4) ∷ two_bytes_at file (at + 6) ∷ []
