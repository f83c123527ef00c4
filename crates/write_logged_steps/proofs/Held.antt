-- Reading the five numbers of an entry that a log holds, and what it holds behind them.
use Rattle.std.specs.Prelude.{◌≡◌, ◌∷◌, ◌++◌, ◌+◌, ◌≤◌}
use Rattle.kit.specs.Names.{ap, sym, ◌∙◌, List, [], append_assoc, ℕ, arith, add-zero, length, get_or, take, drop}
use Rattle.kit.specs.Names.{length-append, get_or-append-add, length-take-le}
use Rattle.memory_buffer.specs.Buffer.{stored}
use Rattle.write_logged_steps.specs.Held.{Holds}

pub stored_holds : (held after numbers : List ℕ) (from : ℕ) → from ≤ length held → after ≡ stored held from numbers → Holds after numbers from
unfolding stored
stored_holds held after numbers from inside h =
    record {
      front = take from held;
      back = drop (from + length numbers) held;
      split = h ∙ append_assoc (take from held) numbers (drop (from + length numbers) held);
      place = sym (length-take-le from held inside);
    }

module _ (log numbers : List ℕ) (from a b c d e : ℕ) (holds : Holds log (a ∷ b ∷ c ∷ d ∷ e ∷ numbers) from) where
  at_place : (k : ℕ) → get_or log (from + k) 0 ≡ get_or ((a ∷ b ∷ c ∷ d ∷ e ∷ numbers) ++ holds.back) k 0
  at_place k = rw (holds.split, holds.place) (get_or-append-add holds.front ((a ∷ b ∷ c ∷ d ∷ e ∷ numbers) ++ holds.back) k 0)

  pub holds_tag : get_or log from 0 ≡ a
  holds_tag = ap (λ (n : ℕ). get_or log n 0) (sym (add-zero from)) ∙ at_place 0

  pub holds_variable : get_or log (from + 1) 0 ≡ b
  holds_variable = at_place 1

  pub holds_node : get_or log (from + 3) 0 ≡ d
  holds_node = at_place 3

  pub holds_last : get_or log (from + 4) 0 ≡ e
  holds_last = at_place 4

  pub holds_rest : Holds log numbers (from + 5)
  holds_rest =
      let long = length-append holds.front (a ∷ b ∷ c ∷ d ∷ e ∷ []) in
      record {
        front = holds.front ++ (a ∷ b ∷ c ∷ d ∷ e ∷ []);
        back = holds.back;
        split = holds.split ∙ sym (append_assoc holds.front (a ∷ b ∷ c ∷ d ∷ e ∷ []) (numbers ++ holds.back));
        place = omega (arith, holds.place);
      }
