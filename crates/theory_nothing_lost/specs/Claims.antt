-- 02, Note 1: "files accepted before stay accepted and are written as before"
use Rattle.std.specs.Prelude.{◌≡◌}
use Rattle.kit.specs.Names.{true, List, ℕ, eqb}
use Rattle.definitions.specs.Basics.{any}
use Rattle.definitions.specs.Numbers.{check_number}
use Rattle.definitions.specs.Rewriting.{write_number, output_after_writing}
use Rattle.theory_nothing_lost.specs.Base.{base_write_number, base_output_after_writing}

-- What holds now of a file that was accepted before.
pub record StaysAccepted (file : List ℕ) : Type 0 where
  pub accepted : check_number file ≡ 0
  pub number : (room : ℕ) → write_number file room ≡ base_write_number file room
  pub written : (out : List ℕ) → output_after_writing file out ≡ base_output_after_writing file out

-- Every number of the one list is in the other.
pub record Among (few many : List ℕ) : Type 0 where
  pub each : (n : ℕ) → any (eqb n) few ≡ true → any (eqb n) many ≡ true
