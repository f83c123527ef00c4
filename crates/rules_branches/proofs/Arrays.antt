-- An array whose front was lent and came back as some list: its length, and its front.
use Rattle.std.specs.Prelude.{◌≡◌, ◌++◌, ◌≤◌}
use Rattle.kit.specs.Names.{ap, sym, ◌∙◌, List, ℕ, arith, length, take, drop, length-append, length-drop, take-append_seam}

pub array_long : (front room : List ℕ) (count : ℕ) → length front ≡ count → count ≤ length room → length (front ++ drop count room) ≡ length room
array_long front room count e h =
    let a = length-append front (drop count room) in
    let b = length-drop count room in
    omega arith

pub array_front : (front rest : List ℕ) (count : ℕ) → length front ≡ count → take count (front ++ rest) ≡ front
array_front front rest count e = ap (λ (n : ℕ). take n (front ++ rest)) (sym e) ∙ take-append_seam front rest
