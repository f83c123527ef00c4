-- The text stands at the place where the bytes from there on start with it.
use Rattle.std.specs.Prelude.{◌≡◌, ◌-◌, ◌≤◌}
use Rattle.std.specs.List.{starts_with}
use Rattle.kit.specs.Names.{ap, sym, ◌∙◌, Bool, List, ℕ, arith, eqb, length, take, drop, take_all, length-drop}
use Rattle.test_shared.specs.Bytes.{same_bytes}
use Rattle.test_shared.proofs.Bytes.{same_as_compared}
use Rattle.test_programs.proofs.Texts.{window, text_past, text_stands, text_differs}
use Rattle.test_programs.proofs.programs.behind.Goals as goal

pub returns-then-bytes-at : goal.returns-then-bytes-at
returns-then-bytes-at c = text_past c.args.text.now c.args.bytes.now c.args.at (omega arith)

-- The bytes from the place on are lent to their end.
compared : (text bytes : List ℕ) (at : ℕ) (r b : Bool) → at ≤ length bytes → r ≡ starts_with eqb (take (length bytes - at) (drop at bytes)) text → r ≡ b
    → same_bytes text (window text bytes at) ≡ b
compared text bytes at r b inside e is =
    let whole = take_all (length bytes - at) (drop at bytes) (omega (arith, length-drop at bytes)) in
    sym (same_as_compared text (window text bytes at)) ∙ ap (λ (l : List ℕ). starts_with eqb l text) (sym whole) ∙ sym e ∙ is

pub returns-then-starts_with : goal.returns-then-starts_with
returns-then-starts_with c =
    text_stands _ _ _ (omega arith) (compared c.args.text.now c.args.bytes.now c.args.at _ _ (omega arith) c.starts_with.ensures.value c.if-starts_with.true)

pub returns-else-starts_with : goal.returns-else-starts_with
returns-else-starts_with c =
    text_differs _ _ _ (compared c.args.text.now c.args.bytes.now c.args.at _ _ (omega arith) c.starts_with.ensures.value c.if-starts_with.false)
