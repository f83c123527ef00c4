-- Laws of appending: nothing, one run behind another, and what room is left.
use Rattle.std.specs.Prelude.{◌≡◌, ◌∷◌, ◌++◌, ◌+◌, ◌<◌, ◌≤◌}
use Rattle.kit.specs.Names.{refl, ap, sym, ◌∙◌, List, [], append-nil, append_assoc, ℕ, arith, add-one}
use Rattle.kit.specs.Names.{add_assoc, length, get_or, take, drop, length-append, length-take-le, take-suc, take_all, take-append-le}
use Rattle.kit.specs.Names.{take-take, drop_at}
use Rattle.memory_buffer.specs.Buffer.{stored}
use Rattle.memory_buffer.proofs.Storing.{stored_length, stored_nothing, stored_then}
use Rattle.memory_append.specs.Append.{Appended, Appending}

module _ (held : List ℕ) (at : ℕ) where
  pub appended_nothing : Appended held held at [] at
  appended_nothing = record { contents = sym (stored_nothing held at); place = omega arith }

  pub appended_length : (after values : List ℕ) (end : ℕ) → Appended held after at values end → at + length values ≤ length held → length after ≡ length held
  appended_length after values end a fits = ap length a.contents ∙ stored_length held at values fits

  pub appended_then : (between after first second : List ℕ) (middle end : ℕ) → Appended held between at first middle → at + length first ≤ length held
      → Appended between after middle second end → Appended held after at (first ++ second) end
  appended_then between after first second middle end a fits b =
      record {
        contents =
            b.contents ∙ ap (λ (d : List ℕ). stored d middle second) a.contents ∙ ap (λ (n : ℕ). stored (stored held at first) n second) a.place
            ∙ stored_then held at first second fits;
        place = let h = a.place in let k = b.place in omega (arith, length-append first second);
      }

  -- Room for both runs is room for the second.
  pub room_then : (between first second : List ℕ) (middle : ℕ) → Appended held between at first middle → at + length (first ++ second) ≤ length held
      → middle + length second ≤ length between
  room_then between first second middle a fits =
      let h = length-append first second in
      let k = a.place in
      let l = appended_length between first middle a (omega arith) in
      omega arith

  -- Three runs.
  module _ (first second third : List ℕ) (fits : at + length (first ++ second ++ third) ≤ length held) where
    three_lengths : length (first ++ second ++ third) ≡ length first + length second + length third
    three_lengths = simp length-append

    pub first_room : at + length first ≤ length held
    first_room = let n = three_lengths in omega arith

    pub second_room : (between : List ℕ) (middle : ℕ) → Appended held between at first middle → middle + length second ≤ length between
    second_room between middle a =
        let n = three_lengths in room_then between first second middle a (omega (arith, length-append first second))

    pub third_room : (between later : List ℕ) (middle end : ℕ) → Appended held between at first middle → Appended between later middle second end → end + length third ≤ length later
    third_room between later middle end a b =
        let n = three_lengths in
        room_then later (first ++ second) third end (appended_then between later first second middle end a (omega arith) b) fits

    pub three_appended : (between later after : List ℕ) (middle next end : ℕ) → Appended held between at first middle → Appended between later middle second next
        → Appended later after next third end → Appended held after at (first ++ second ++ third) end
    three_appended between later after middle next end a b c =
        let n = three_lengths in
        let m = length-append first second in
        appended_then later after (first ++ second) third next end (appended_then between later first second middle next a (omega arith) b) (omega arith) c

  -- One value more.
  stored_next : (values : List ℕ) (value : ℕ) → at + length values < length held
      → stored (stored held at values) (at + length values) (value ∷ []) ≡ stored held at (values ++ (value ∷ []))
  stored_next values value inside = stored_then held at values (value ∷ []) (omega arith)

  stored_take_next : (bytes : List ℕ) (i : ℕ) → i < length bytes → at + length bytes ≤ length held
      → stored (stored held at (take i bytes)) (at + i) (get_or bytes i 0 ∷ []) ≡ stored held at (take (i + 1) bytes)
  stored_take_next bytes i inside fits =
      let l = length-take-le i bytes (omega arith) in
      let room : at + length (take i bytes) < length held = omega arith in
      ap (λ (n : ℕ). stored (stored held at (take i bytes)) (at + n) (get_or bytes i 0 ∷ [])) (sym l) ∙ stored_next (take i bytes) (get_or bytes i 0) room
      ∙ ap (stored held at) (sym (take-suc bytes i 0 inside)) ∙ ap (λ (n : ℕ). stored held at (take n bytes)) (sym (add-one i))

  pub copied_start : (bytes : List ℕ) → held ≡ stored held at (take 0 bytes)
  copied_start bytes = sym (stored_nothing held at)

  pub copied_next : (bytes before after : List ℕ) (i : ℕ) → before ≡ stored held at (take i bytes) → after ≡ stored before (at + i) (get_or bytes i 0 ∷ []) → i < length bytes
      → at + length bytes ≤ length held → after ≡ stored held at (take (i + 1) bytes)
  copied_next bytes before after i h g inside fits =
      g ∙ ap (λ (d : List ℕ). stored d (at + i) (get_or bytes i 0 ∷ [])) h ∙ stored_take_next bytes i inside fits

  pub copied_all : (bytes after : List ℕ) (i : ℕ) → after ≡ stored held at (take i bytes) → i ≤ length bytes → length bytes ≤ i → Appended held after at bytes (at + i)
  copied_all bytes after i h a b =
      record { contents = h ∙ ap (stored held at) (take_all i bytes b); place = omega arith }

-- A loop that appends a piece in each turn.
module _ (held : List ℕ) (from : ℕ) (whole : List ℕ) where
  pub appending_start : Appending held held from from whole whole
  appending_start = record { done = []; so_far = appended_nothing held from; left = refl }

  module _ (now piece rest later : List ℕ) (at : ℕ) (next : rest ≡ piece ++ later) (a : Appending held now from at whole rest) (fits : from + length whole ≤ length held) where
    whole_is : (a.done ++ piece) ++ later ≡ whole
    whole_is = append_assoc a.done piece later ∙ ap (λ (l : List ℕ). a.done ++ l) (sym next) ∙ a.left

    piece_fits : from + length (a.done ++ piece) ≤ length held
    piece_fits = let h = ap length whole_is in omega (arith, length-append (a.done ++ piece) later)

    pub appending_room : at + length piece ≤ length now
    appending_room = room_then held from now a.done piece at a.so_far piece_fits

    pub appending_next : (after : List ℕ) (end : ℕ) → Appended now after at piece end → Appending held after from end whole later
    appending_next after end b =
        let inside : from + length a.done ≤ length held = let h = piece_fits in omega (arith, length-append a.done piece) in
        record { done = a.done ++ piece; so_far = appended_then held from now after a.done piece at end a.so_far inside b; left = whole_is }

  pub appending_same : (now rest later : List ℕ) (at : ℕ) → rest ≡ later → Appending held now from at whole rest → Appending held now from at whole later
  appending_same now rest later at e a = record { done = a.done; so_far = a.so_far; left = ap (λ (l : List ℕ). a.done ++ l) (sym e) ∙ a.left }

  pub appending_done : (now rest : List ℕ) (at : ℕ) → rest ≡ [] → Appending held now from at whole rest → Appended held now from whole at
  appending_done now rest at e a =
      let whole_done : a.done ≡ whole = sym (append-nil a.done) ∙ ap (λ (l : List ℕ). a.done ++ l) (sym e) ∙ a.left in
      record { contents = a.so_far.contents ∙ ap (stored held from) whole_done; place = let p = a.so_far.place in let n = ap length whole_done in omega arith }

-- A run stored before one that already stands, as a count before what it counts.
pub stored_before : (held : List ℕ) (at : ℕ) (first second : List ℕ) → at + length first + length second ≤ length held
    → stored (stored held (at + length first) second) at first ≡ stored held at (first ++ second)
unfolding stored
stored_before held at first second fits =
    let n = at + length first in
    let front = take n held in
    let rest = drop (n + length second) held in
    let long : length front ≡ n = length-take-le n held (omega arith) in
    let whole : (front ++ second) ++ rest ≡ front ++ (second ++ rest) = append_assoc front second rest in
    let head : take at ((front ++ second) ++ rest) ≡ take at held =
    ap (take at) whole ∙ take-append-le at front (second ++ rest) (omega arith) ∙ take-take at n held (omega arith) in
    let tail : drop n ((front ++ second) ++ rest) ≡ second ++ rest = ap (drop n) whole ∙ drop_at front (second ++ rest) n long in
    let end : drop (at + length (first ++ second)) held ≡ rest =
    ap (λ (m : ℕ). drop m held) (ap (λ (m : ℕ). at + m) (length-append first second) ∙ sym (add_assoc at (length first) (length second))) in
    (λ t. (head t ++ first) ++ tail t)
    ∙ sym (append_assoc (take at held ++ first) second rest)
    ∙ ap (λ (l : List ℕ). l ++ rest) (append_assoc (take at held) first second)
    ∙ ap (λ (l : List ℕ). (take at held ++ (first ++ second)) ++ l) (sym end)

-- Five runs.
module _ (held : List ℕ) (from : ℕ) (p v k c r : List ℕ) (fits : from + length (p ++ (v ++ (k ++ (c ++ r)))) ≤ length held) where
  abbrev whole : List ℕ
  whole = p ++ (v ++ (k ++ (c ++ r)))

  pub one_of_five : from + length p ≤ length held
  one_of_five = appending_room held from whole held p whole (v ++ (k ++ (c ++ r))) from refl (appending_start held from whole) fits

  module _ (h₁ : List ℕ) (a : ℕ) (one : Appended held h₁ from p a) where
    left₁ : Appending held h₁ from a whole (v ++ (k ++ (c ++ r)))
    left₁ = appending_next held from whole held p whole (v ++ (k ++ (c ++ r))) from refl (appending_start held from whole) fits h₁ a one

    pub two_of_five : a + length v ≤ length h₁
    two_of_five = appending_room held from whole h₁ v (v ++ (k ++ (c ++ r))) (k ++ (c ++ r)) a refl left₁ fits

    module _ (h₂ : List ℕ) (b : ℕ) (two : Appended h₁ h₂ a v b) where
      left₂ : Appending held h₂ from b whole (k ++ (c ++ r))
      left₂ = appending_next held from whole h₁ v (v ++ (k ++ (c ++ r))) (k ++ (c ++ r)) a refl left₁ fits h₂ b two

      pub three_of_five : b + length k ≤ length h₂
      three_of_five = appending_room held from whole h₂ k (k ++ (c ++ r)) (c ++ r) b refl left₂ fits

      module _ (h₃ : List ℕ) (d : ℕ) (three : Appended h₂ h₃ b k d) where
        left₃ : Appending held h₃ from d whole (c ++ r)
        left₃ = appending_next held from whole h₂ k (k ++ (c ++ r)) (c ++ r) b refl left₂ fits h₃ d three

        pub four_of_five : d + length c ≤ length h₃
        four_of_five = appending_room held from whole h₃ c (c ++ r) r d refl left₃ fits

        module _ (h₄ : List ℕ) (e : ℕ) (four : Appended h₃ h₄ d c e) where
          left₄ : Appending held h₄ from e whole r
          left₄ = appending_next held from whole h₃ c (c ++ r) r d refl left₃ fits h₄ e four

          pub five_of_five : e + length r ≤ length h₄
          five_of_five = appending_room held from whole h₄ r r [] e (sym (append-nil r)) left₄ fits

          pub five_appended : (h₅ : List ℕ) (f : ℕ) → Appended h₄ h₅ e r f → Appended held h₅ from whole f
          five_appended h₅ f five =
              appending_done held from whole h₅ [] f refl (appending_next held from whole h₄ r r [] e (sym (append-nil r)) left₄ fits h₅ f five)
