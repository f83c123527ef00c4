-- A part that is not all there, one that ends before it starts, and any other.
use Rattle.std.specs.Prelude.{◌≡◌, ◌-◌, ◌<◌, ◌≤◌}
use Rattle.kit.specs.Names.{ap, sym, ◌∙◌, List, [], ℕ, arith, length, take, drop, le-leb, lt-leb}
use Rattle.rehearse_scripts.specs.Scripts.{part}
use Rattle.test_shared.specs.Parts.{part_in}

module _ (start end : ℕ) (s : List ℕ) where
  pub part_past : length s < end → [] ≡ part_in start end s
  part_past h = rw (lt-leb end (length s) h)

  pub part_inside : end ≤ length s → part start end s ≡ part_in start end s
  part_inside h = rw (le-leb end (length s) h)

  pub part_none : end ≤ length s → end < start → [] ≡ part_in start end s
  part_none h less =
      let none : end - start ≡ 0 = omega arith in
      sym (ap (λ (n : ℕ). take n (drop start s)) none) ∙ part_inside h
