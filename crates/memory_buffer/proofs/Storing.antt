-- Laws of `stored`: its length, nothing stored, one value, a part written whole, and one run stored right behind another.
use Rattle.std.specs.Prelude.{◌≡◌, ◌∷◌, ◌++◌, ◌+◌, ◌<◌, ◌≤◌}
use Rattle.std.proofs.lemmas.Slice.{put_mid-paste}
use Rattle.kit.specs.Names.{refl, ap, sym, ◌∙◌, List, [], append-nil, append_assoc, ℕ, arith, add-zero, add_assoc}
use Rattle.kit.specs.Names.{length, set, take, drop, length-append, length-drop, take-append-drop, sets-eq, length-take-le, take_at}
use Rattle.kit.specs.Names.{take_all, drop-append-add, drop-drop}
use borrow.Rule.Slice.PartMut.{put_mid}
use Rattle.memory_buffer.specs.Buffer.{stored}

module _ (held : List ℕ) (at : ℕ) where
  front_length : (values : List ℕ) → at + length values ≤ length held → length (take at held ++ values) ≡ at + length values
  front_length values fits =
      let inside : at ≤ length held = omega arith in
      length-append (take at held) values ∙ ap (λ (n : ℕ). n + length values) (length-take-le at held inside)

  pub stored_length : (values : List ℕ) → at + length values ≤ length held → length (stored held at values) ≡ length held
  unfolding stored
  stored_length values fits =
      let front = front_length values fits in
      let whole = length-append (take at held ++ values) (drop (at + length values) held) in
      let rest = length-drop (at + length values) held in
      omega arith

  pub stored_nothing : stored held at [] ≡ held
  unfolding stored
  stored_nothing = rw (append-nil, add-zero, take-append-drop)

  pub stored_one : (value : ℕ) → at < length held → stored held at (value ∷ []) ≡ set held at value
  unfolding stored
  stored_one value inside = sym (sets-eq (value ∷ []) held at (omega arith))

  -- As `copy_from_slice` leaves a buffer whose part of k values it wrote.
  pub stored_part : (part values : List ℕ) (k : ℕ) → part ≡ values → k ≡ length values → put_mid at k held part ≡ stored held at values
  unfolding stored
  stored_part part values k same long =
      put_mid-paste at k held part values (length values) same (omega arith) refl
      ∙ ap (λ (l : List ℕ). take at held ++ l ++ drop (at + length values) held) (take_all (length values) values (omega arith))

  pub stored_then : (first second : List ℕ) → at + length first ≤ length held
      → stored (stored held at first) (at + length first) second ≡ stored held at (first ++ second)
  unfolding stored
  stored_then first second fits =
      let front = front_length first fits in
      let behind = take at held ++ first in
      let rest : drop (at + length first + length second) (behind ++ drop (at + length first) held) ≡ drop (at + length (first ++ second)) held =
      ap (λ (n : ℕ). drop (n + length second) (behind ++ drop (at + length first) held)) (sym front)
      ∙ drop-append-add behind (drop (at + length first) held) (length second) ∙ drop-drop (length second) (at + length first) held
      ∙ ap (λ (n : ℕ). drop n held) (add_assoc at (length first) (length second) ∙ ap (λ (n : ℕ). at + n) (sym (length-append first second))) in
      rw (take_at behind (drop (at + length first) held) (at + length first) front, rest, append_assoc (take at held) first second)

-- What is stored from the start on is what stands at the front.
pub front_stored : (held after values : List ℕ) (n : ℕ) → after ≡ stored held 0 values → n ≡ length values → take n after ≡ values
unfolding stored
front_stored held after values n e l = rw e (take_at values (drop (0 + length values) held) n (sym l))
