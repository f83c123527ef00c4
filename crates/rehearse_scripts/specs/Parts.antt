-- What the parts that are read say of their script, and how far they can lie.
use Rattle.std.specs.Prelude.{◌≡◌, ◌+◌, ◌≤◌}
use Rattle.kit.specs.Names.{List, ℕ, length, take}
use Rattle.definitions.specs.ContractFile.{byte_at}
use Rattle.rehearse_scripts.specs.Scripts.{file_end, addresses_end, call_count, calls_at, call_at, arguments_of}
use Rattle.rehearse_scripts.specs.declared.Script.{Script}
use Rattle.rehearse_scripts.specs.declared.Call.{Call}

-- The file stands from 2 on, the addresses behind their count.
pub record IsScriptParts (s : List ℕ) (r : Script) : Type 0 where
  pub file_ends : r.file_end ≡ file_end s
  pub addresses_ends : r.addresses_end ≡ addresses_end s
  pub party : r.party ≡ byte_at s (addresses_end s)
  pub calls : r.calls ≡ call_count s
  pub calls_start : r.calls_at ≡ calls_at s
  pub near : r.calls_at ≤ 65795

pub record IsCall (s : List ℕ) (k : ℕ) (r : Call) : Type 0 where
  pub function : r.function ≡ byte_at s (call_at s k)
  pub caller : r.caller ≡ byte_at s (call_at s k + 1)
  pub arguments : r.arguments ≡ byte_at s (call_at s k + 2)
  pub arguments_start : r.arguments_at ≡ call_at s k + 3
  pub near : r.arguments_at ≤ 400000

-- The arguments stand at the front of an array that has room for the most that a call can have.
pub record ArgumentsStand (s : List ℕ) (k : ℕ) (made : List ℕ) : Type 0 where
  pub room : 255 ≡ length made
  pub stand : take (byte_at s (call_at s k + 2)) made ≡ arguments_of s k
