-- Values in decimal, each after a space, appended one after another.
use Rattle.std.specs.Prelude.{◌≡◌, ◌∷◌, ◌++◌, ◌+◌, ◌*◌, ◌<◌, ◌≤◌}
use Rattle.kit.specs.Names.{List, [], ℕ, arith, add-one, length, get_or, drop, drop_of_length-le}
use Rattle.kit.specs.Names.{length-append, drop-cons}
use Rattle.definitions.specs.Basics.{flat_map}
use Rattle.memory_append.specs.Append.{Appended, Appending}
use Rattle.memory_append.proofs.Appending.{appending_start, appending_next, appending_done}
use Rattle.report_text.proofs.Digits.{digits_length}
use Rattle.disclose_lines.specs.Lines.{spaced_value}

abbrev text : List ℕ → List ℕ
text values = flat_map spaced_value values

pub value_short : (v : ℕ) → length (spaced_value v) ≤ 21
value_short v = omega (arith, digits_length 20 v)

pub text_short : (values : List ℕ) → length (text values) ≤ 21 * length values
unfolding flat_map
text_short [] = omega arith
text_short (v ∷ values) = omega (arith, value_short v, text_short values, length-append (spaced_value v) (text values))

-- One value more. The room that is left is counted in values.
module _ (held : List ℕ) (from : ℕ) (values : List ℕ) (fits : from + 21 * length values ≤ length held) where
  whole_fits : from + length (text values) ≤ length held
  whole_fits = omega (arith, text_short values)

  pub text_start : Appending held held from from (text values) (text (drop 0 values))
  text_start = appending_start held from (text values)

  module _ (now : List ℕ) (at i : ℕ) (a : Appending held now from at (text values) (text (drop i values))) where
    text_step : i < length values → text (drop i values) ≡ spaced_value (get_or values i 0) ++ text (drop (i + 1) values)
    unfolding flat_map
    text_step inside = rw (drop-cons values i 0 inside, add-one i)

    pub text_next : (after : List ℕ) (end : ℕ) → i < length values → Appended now after at (spaced_value (get_or values i 0)) end
        → Appending held after from end (text values) (text (drop (i + 1) values))
    text_next after end inside b =
        appending_next held from (text values) now (spaced_value (get_or values i 0)) _ (text (drop (i + 1) values)) at (text_step inside) a whole_fits after end b

    pub text_done : length values ≤ i → Appended held now from (text values) at
    unfolding flat_map
    text_done out = appending_done held from (text values) now (text (drop i values)) at (rw (drop_of_length-le values out)) a
