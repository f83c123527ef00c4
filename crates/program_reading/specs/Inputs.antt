-- What a program is handed of an input: nothing of one that could not be read, and the beginning of a long one at the front of its room.
use Rattle.std.specs.Prelude.{◌≡◌}
use Rattle.kit.specs.Names.{Bool, cond, List, ℕ, min, length, take}

abbrev pub where_ready : Bool → ℕ → ℕ
where_ready ready long = cond ready long 0

-- How many of these bytes a room has room for.
abbrev pub fitting : List ℕ → List ℕ → ℕ
fitting start room = min (length start) (length room)

-- These bytes stand at the front of the room, as many of them as it has room for.
abbrev pub Begins : List ℕ → List ℕ → Type 0
Begins start room = take (fitting start room) room ≡ take (fitting start room) start
