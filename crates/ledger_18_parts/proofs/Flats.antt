-- Flat contents: their plain numbers, and none shown.
use Rattle.std.specs.Prelude.{◌≡◌, ◌∷◌, ◌/◌}
use Rattle.kit.specs.Names.{refl, ap, sym, ◌∙◌, List, [], ℕ, arith, ltb, length, take, length-map, le-ltb}
use Rattle.definitions.specs.Ledger.{plain_number, fits, all_fit}
use Rattle.ledger_contents.specs.Contents.{contents_of}
use Rattle.ledger_contents.proofs.FlatContents.{length_contents_of}
use Rattle.ledger_numbers.specs.Numbers.{Numbered}

pub numbers_long : (flat before after : List ℕ) → Numbered plain_number flat before after → length (take (length flat / 5) after) ≡ length flat / 5
numbers_long flat before after numbered = ap length numbered.first ∙ length-map (contents_of flat) plain_number ∙ length_contents_of flat

-- No contents are shown where five numbers are not there.
pub none_shown : (flat : List ℕ) → all_fit fits [] (contents_of flat) ≡ ltb (length flat) 5
unfolding all_fit contents_of
none_shown [] = refl
none_shown (a ∷ []) = refl
none_shown (a ∷ b ∷ []) = refl
none_shown (a ∷ b ∷ c ∷ []) = refl
none_shown (a ∷ b ∷ c ∷ d ∷ []) = refl
none_shown (a ∷ b ∷ c ∷ d ∷ e ∷ rest) = sym (le-ltb (length (a ∷ b ∷ c ∷ d ∷ e ∷ rest)) 5 (omega arith))
