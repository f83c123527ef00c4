-- 01, Runs and views: disclosed values in the lent output.
use Rattle.std.specs.Prelude.{◌≡◌, ◌++◌}
use Rattle.kit.specs.Names.{cond, List, ℕ, ltb, length, drop}
use Rattle.memory_answer.specs.declared.Answer.{Answer}

-- Values are handed over where there is room for them.
pub record HandedOver (values before after : List ℕ) (r : Answer) : Type 0 where
  pub number : r.number ≡ cond (ltb (length before) (length values)) 21 0
  pub long : r.length ≡ cond (ltb (length before) (length values)) 0 (length values)
  pub output : after ≡ cond (ltb (length before) (length values)) before (values ++ drop (length values) before)
