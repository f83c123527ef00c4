-- Hexadecimal digits, two for each byte, appended one byte after another.
use Rattle.std.specs.Prelude.{◌≡◌, ◌∷◌, ◌++◌, ◌+◌, ◌*◌, ◌/◌, ◌%◌, ◌<◌, ◌≤◌}
use Rattle.kit.specs.Names.{refl, List, [], ℕ, arith, add-one, length, get_or, drop}
use Rattle.kit.specs.Names.{drop_of_length-le, drop-cons, lt-ltb, le-ltb}
use Rattle.definitions.specs.Basics.{flat_map}
use Rattle.memory_append.specs.Append.{Appended, Appending}
use Rattle.memory_append.proofs.Appending.{appended_then, appending_start, appending_room, appending_next, appending_done}
use Rattle.rehearse_lines.specs.Lines.{hex_digit, hex_byte, hex_text}

pub low_digit : (n : ℕ) → n < 10 → 48 + n ≡ hex_digit n
low_digit n h = rw (lt-ltb n 10 h)

pub high_digit : (n : ℕ) → 10 ≤ n → 87 + n ≡ hex_digit n
high_digit n h = rw (le-ltb n 10 h)

pub hex_length : (bytes : List ℕ) → length (hex_text bytes) ≡ 2 * length bytes
unfolding flat_map
hex_length [] = refl
hex_length (b ∷ bytes) = omega (arith, hex_length bytes)

pub byte_appended : (held between after : List ℕ) (at middle end byte high low : ℕ) → at + 2 ≤ length held → high ≡ hex_digit (byte / 16) → low ≡ hex_digit (byte % 16)
    → Appended held between at (high ∷ []) middle → Appended between after middle (low ∷ []) end → Appended held after at (hex_byte byte) end
byte_appended held between after at middle end byte high low fits h l a b =
    rw (← h, ← l) (appended_then held at between after (high ∷ []) (low ∷ []) middle end a (omega arith) b)

-- One byte more.
module _ (held : List ℕ) (from : ℕ) (bytes : List ℕ) (fits : from + 2 * length bytes ≤ length held) where
  whole_fits : from + length (hex_text bytes) ≤ length held
  whole_fits = omega (arith, hex_length bytes)

  pub hex_start : Appending held held from from (hex_text bytes) (hex_text (drop 0 bytes))
  hex_start = appending_start held from (hex_text bytes)

  module _ (now : List ℕ) (at i : ℕ) (a : Appending held now from at (hex_text bytes) (hex_text (drop i bytes))) where
    hex_step : i < length bytes → hex_text (drop i bytes) ≡ hex_byte (get_or bytes i 0) ++ hex_text (drop (i + 1) bytes)
    unfolding flat_map
    hex_step inside = rw (drop-cons bytes i 0 inside, add-one i)

    pub hex_room : i < length bytes → at + 2 ≤ length now
    hex_room inside = appending_room held from (hex_text bytes) now (hex_byte (get_or bytes i 0)) _ (hex_text (drop (i + 1) bytes)) at (hex_step inside) a whole_fits

    pub hex_next : (after : List ℕ) (end : ℕ) → i < length bytes → Appended now after at (hex_byte (get_or bytes i 0)) end
        → Appending held after from end (hex_text bytes) (hex_text (drop (i + 1) bytes))
    hex_next after end inside b =
        appending_next held from (hex_text bytes) now (hex_byte (get_or bytes i 0)) _ (hex_text (drop (i + 1) bytes)) at (hex_step inside) a whole_fits after end b

    pub hex_done : length bytes ≤ i → Appended held now from (hex_text bytes) at
    unfolding flat_map
    hex_done out = appending_done held from (hex_text bytes) now (hex_text (drop i bytes)) at (rw (drop_of_length-le bytes out)) a
