-- Reading the owner code of an entry that a log holds, and the four numbers of a claim.
use Rattle.std.specs.Prelude.{◌≡◌, ◌∷◌, ◌++◌, ◌+◌}
use Rattle.kit.specs.Names.{ap, sym, ◌∙◌, List, append_assoc, ℕ, arith, add-zero, get_or, length-append, get_or-append-add}
use Rattle.write_logged_steps.specs.Held.{Holds}
use Rattle.write_circuits.specs.Circuits.{four}

module _ (log numbers : List ℕ) (from : ℕ) (holds : Holds log numbers from) where
  held_at : (k : ℕ) → get_or log (from + k) 0 ≡ get_or (numbers ++ holds.back) k 0
  held_at k = rw (holds.split, holds.place) (get_or-append-add holds.front (numbers ++ holds.back) k 0)

module _ (log numbers : List ℕ) (from a b c d e : ℕ) (holds : Holds log (a ∷ b ∷ c ∷ d ∷ e ∷ numbers) from) where
  pub holds_owner : get_or log (from + 2) 0 ≡ c
  holds_owner = held_at log (a ∷ b ∷ c ∷ d ∷ e ∷ numbers) from holds 2

-- The same of four numbers.
module _ (log numbers : List ℕ) (from a b c d : ℕ) (holds : Holds log (four a b c d ++ numbers) from) where
  pub four_first : get_or log from 0 ≡ a
  four_first = ap (λ (n : ℕ). get_or log n 0) (sym (add-zero from)) ∙ held_at log (four a b c d ++ numbers) from holds 0

  pub four_second : get_or log (from + 1) 0 ≡ b
  four_second = held_at log (four a b c d ++ numbers) from holds 1

  pub four_last : get_or log (from + 3) 0 ≡ d
  four_last = held_at log (four a b c d ++ numbers) from holds 3

  pub four_rest : Holds log numbers (from + 4)
  four_rest =
      let long = length-append holds.front (four a b c d) in
      record {
        front = holds.front ++ four a b c d;
        back = holds.back;
        split = holds.split ∙ sym (append_assoc holds.front (four a b c d) (numbers ++ holds.back));
        place = omega (arith, holds.place);
      }
