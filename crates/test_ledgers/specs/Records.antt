-- What is read of a recorded run: its deployment, and its calls one after another. It serves document 01's "Runs and views".
use Rattle.std.specs.Prelude.{◌≡◌, ◌&&◌, ◌+◌, ◌*◌, ◌-◌, ◌≤◌}
use Rattle.kit.specs.Names.{cond, List, ℕ, eqb, length, take}
use Rattle.definitions.specs.Basics.{is_zero}
use Rattle.definitions.specs.ContractFile.{byte_at}
use Rattle.definitions.specs.Ledger.{deploy_number, deployed, call_number, ledger_after_call}
use Rattle.ledger_struct.specs.Ledgers.{ledger_of}
use Rattle.deploy.specs.Deployments.{nothing_deployed}
use Rattle.rehearse_scripts.specs.Scripts.{file_end, addresses_end, call_count, calls_at, numbers_at}
use Rattle.test_shared.specs.Parts.{part_in}
use Rattle.test_ledgers.specs.declared.recorded.Run.{Run}
use Rattle.test_ledgers.specs.declared.recorded.RecordedCall.{RecordedCall}

abbrev pub file_in : List ℕ → List ℕ
file_in s = part_in 2 (file_end s) s

abbrev pub addresses_in : List ℕ → List ℕ
addresses_in s = part_in (file_end s + 1) (addresses_end s) s

-- The record's contract is deployed, and its calls are to follow.
pub record IsBegun (s : List ℕ) (r : Run) : Type 0 where
  pub start : r.place ≡ calls_at s
  pub calls : r.left ≡ call_count s
  pub party : r.party ≡ byte_at s (addresses_end s)
  pub same : r.same ≡ is_zero (deploy_number (file_in s) (addresses_in s))
  pub ledger : ledger_of r.ledger ≡ cond r.same (deployed (file_in s) (addresses_in s)) nothing_deployed
  pub near : (2 ≤ r.place) × (r.place ≤ 65795)
  pub few : r.left ≤ 255

-- The arguments of the call with which some bytes begin.
abbrev pub arguments_in : List ℕ → List ℕ
arguments_in s = numbers_at (byte_at s 2) s 3

-- The number that is recorded behind them.
abbrev pub number_in : List ℕ → ℕ
number_in s = byte_at s (3 + 4 * byte_at s 2)

pub record IsRecordedCall (s : List ℕ) (r : RecordedCall) : Type 0 where
  pub function : r.function ≡ byte_at s 0
  pub caller : r.caller ≡ byte_at s 1
  pub counted : r.count ≡ byte_at s 2
  pub room : 255 ≡ length r.arguments
  pub stand : take r.count r.arguments ≡ arguments_in s
  pub behind : r.end ≡ 3 + 4 * r.count
  pub few : r.count ≤ 255

-- The call with which some bytes begin is made on a run's ledger, and its number is the one behind its arguments.
pub record CalledIn (s : List ℕ) (run r : Run) : Type 0 where
  pub behind : r.place ≡ run.place + (4 + 4 * byte_at s 2)
  pub fewer : r.left ≡ run.left - 1
  pub party : r.party ≡ run.party
  pub same : r.same ≡ (run.same && eqb (call_number (ledger_of run.ledger) (byte_at s 0) (byte_at s 1) (arguments_in s)) (number_in s))
  pub ledger : ledger_of r.ledger ≡ ledger_after_call (ledger_of run.ledger) (byte_at s 0) (byte_at s 1) (arguments_in s)
  pub near : (run.place ≤ r.place) × (r.place ≤ run.place + 1024)
