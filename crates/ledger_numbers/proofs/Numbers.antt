-- The numbers of contents, one after another.
use Rattle.std.specs.Prelude.{◌≡◌, ◌+◌, ◌/◌, ◌<◌, ◌≤◌}
use Rattle.kit.specs.Names.{ap, sym, ◌∙◌, List, map, ℕ, arith, length, take, set, length-map, get_or_map}
use Rattle.kit.specs.Names.{take_all}
use Rattle.definitions.specs.Ledger.{Content, plain, content_at}
use Rattle.ledger_contents.specs.Contents.{contents_of}
use Rattle.ledger_contents.proofs.FlatContents.{length_contents_of}
use Rattle.ledger_numbers.specs.Numbers.{Numbered}
use Rattle.ledger_numbers.proofs.Filling.{filled_more, filled_all}

module _ (number : Content → ℕ) (flat : List ℕ) where
  pub numbers_count : length (map number (contents_of flat)) ≡ length flat / 5
  numbers_count = length-map (contents_of flat) number ∙ length_contents_of flat

  pub numbers_more : (out after : List ℕ) (i n : ℕ) → i < length flat / 5 → length flat / 5 ≤ length out → take i out ≡ take i (map number (contents_of flat))
      → n ≡ number (content_at (contents_of flat) i) → after ≡ set out i n → take (i + 1) after ≡ take (i + 1) (map number (contents_of flat))
  numbers_more out after i n inside room same e put =
      filled_more (map number (contents_of flat)) out after i n (number (plain 0)) (omega arith) (omega (arith, numbers_count)) same
      (e ∙ sym (get_or_map number (contents_of flat) i (plain 0))) put

  pub numbers_done : (before after : List ℕ) (i : ℕ) → i ≡ length flat / 5 → length after ≡ length before
      → take i after ≡ take i (map number (contents_of flat)) → Numbered number flat before after
  numbers_done before after i whole size same =
      record {
        first = ap (λ (n : ℕ). take n after) (sym whole) ∙ filled_all (map number (contents_of flat)) after i (omega (arith, numbers_count)) same;
        size = size;
      }

  -- Where there is one number for each content, they are all.
  pub numbers_whole : (before after : List ℕ) → length before ≡ length flat / 5 → Numbered number flat before after → after ≡ map number (contents_of flat)
  numbers_whole before after e numbered =
      sym (take_all (length flat / 5) after (omega (arith, numbered.size))) ∙ numbered.first
