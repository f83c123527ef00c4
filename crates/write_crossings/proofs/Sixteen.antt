-- A log has no more entries of a tag than numbers; sixteen counts, of which one more is told.
use Rattle.std.specs.Prelude.{◌≡◌, ◌∷◌, ◌++◌, ◌-◌, ◌<◌, ◌≤◌}
use Rattle.kit.specs.Names.{ap, sym, ◌∙◌, Bool, true, false, cond, List, [], append_assoc, ℕ, suc}
use Rattle.kit.specs.Names.{arith, eqb, length, replicate, set, length-append, set_at}
use Rattle.definitions.specs.Crossings.{sixteen}
use Rattle.write_variables.specs.PerEntry.{per_entry, of_tag, count_tag}

one_length : (b : Bool) → length {A = ℕ} (cond b (0 ∷ []) []) ≤ 1
one_length true = omega arith
one_length false = omega arith

pub tags_few : (tag : ℕ) (log : List ℕ) → count_tag tag log ≤ length log
unfolding per_entry
tags_few tag [] = omega arith
tags_few tag (a ∷ []) = omega arith
tags_few tag (a ∷ b ∷ []) = omega arith
tags_few tag (a ∷ b ∷ c ∷ []) = omega arith
tags_few tag (a ∷ b ∷ c ∷ d ∷ []) = omega arith
tags_few tag (a ∷ b ∷ c ∷ d ∷ e ∷ log) =
    omega (arith, tags_few tag log, one_length (eqb a tag), length-append (of_tag tag a b c d e) (per_entry (of_tag tag) log))

-- The count of the next function takes the place of the first 0 behind those that are told.
pub sixteen_next : (counts : List ℕ) (n f : ℕ) → length counts ≡ f → f < 16 → set (sixteen counts) f n ≡ sixteen (counts ++ (n ∷ []))
sixteen_next counts n f long inside =
    let one : 16 - length counts ≡ suc (16 - suc (length counts)) = omega arith in
    let left : 16 - suc (length counts) ≡ 16 - length (counts ++ (n ∷ [])) = omega (arith, length-append counts (n ∷ [])) in
    ap (λ (k : ℕ). set (counts ++ replicate k 0) f n) one
    ∙ set_at counts 0 (replicate (16 - suc (length counts)) 0) n f long
    ∙ sym (append_assoc counts (n ∷ []) (replicate (16 - suc (length counts)) 0))
    ∙ ap (λ (k : ℕ). (counts ++ (n ∷ [])) ++ replicate k 0) left
