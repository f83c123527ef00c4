-- Values appended in turn, where what comes second is appended only if what comes first went through.
use Rattle.std.specs.Prelude.{◌≡◌, ◌++◌, ◌+◌, ◌≤◌}
use Rattle.kit.specs.Names.{ap, ◌∙◌, Bool, true, false, cond, List, [], append-nil, ℕ, arith, length, length-append}
use Rattle.memory_append.specs.Append.{Appended}
use Rattle.memory_append.proofs.Appending.{appended_then, room_then}

pub same_appended : (before after whole values : List ℕ) (at end : ℕ) → whole ≡ values → Appended before after at values end → Appended before after at whole end
same_appended before after whole values at end e a = rw e a

-- The whole is the first, and the second where the first went through.
module _ (before whole first second : List ℕ) (at : ℕ) (through : Bool) (parts : whole ≡ first ++ cond through second []) where
  stopped_is : through ≡ false → whole ≡ first
  stopped_is stop = parts ∙ rw stop (append-nil first)

  both_are : through ≡ true → whole ≡ first ++ second
  both_are go = parts ∙ rw go

  pub appended_stopped : (after : List ℕ) (end : ℕ) → through ≡ false → Appended before after at first end → Appended before after at whole end
  appended_stopped after end stop a = same_appended before after whole first at end (stopped_is stop) a

  module _ (room : at + length whole ≤ length before) where
    pub room_first : at + length first ≤ length before
    room_first = let size = ap length parts ∙ length-append first (cond through second []) in omega arith

    module _ (between : List ℕ) (middle : ℕ) (a : Appended before between at first middle) (go : through ≡ true) where
      pub room_second : middle + length second ≤ length between
      room_second = room_then before at between first second middle a (rw (both_are go) at room)

      pub appended_both : (after : List ℕ) (end : ℕ) → Appended between after middle second end → Appended before after at whole end
      appended_both after end b =
          same_appended before after whole (first ++ second) at end (both_are go) (appended_then before at between after first second middle end a room_first b)
