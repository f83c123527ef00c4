-- What is read of a recorded run, step by step, is what the record says.
use Rattle.std.specs.Prelude.{◌≡◌, ◌&&◌, ◌+◌, ◌*◌, ◌-◌, ◌≤◌}
use Rattle.kit.specs.Names.{refl, ap, ◌∙◌, Bool, cond, List, ℕ, arith, eqb, take}
use Rattle.definitions.specs.Basics.{is_zero}
use Rattle.definitions.specs.ContractFile.{byte_at}
use Rattle.definitions.specs.Ledger.{deploy_number, deployed, call_number, ledger_after_call}
use Rattle.ledger_struct.specs.Ledgers.{ledger_of}
use Rattle.deploy.specs.declared.Deployment.{Deployment}
use Rattle.deploy.specs.Deployments.{nothing_deployed, Deployed}
use Rattle.call.specs.declared.Called.{Called}
use Rattle.call.specs.Calls.{CalledOn}
use Rattle.rehearse_scripts.specs.declared.Script.{Script}
use Rattle.rehearse_scripts.specs.Scripts.{file_end}
use Rattle.rehearse_scripts.specs.Parts.{IsScriptParts}
use Rattle.test_shared.specs.Parts.{part_in}
use Rattle.test_ledgers.specs.declared.recorded.Run.{Run}
use Rattle.test_ledgers.specs.declared.recorded.RecordedCall.{RecordedCall}
use Rattle.test_ledgers.specs.Records.{file_in, addresses_in, arguments_in, IsBegun, IsRecordedCall, CalledIn}

pub begun_is : (s file addresses : List ℕ) (r : Script) (d : Deployment) → IsScriptParts s r → file ≡ part_in 2 r.file_end s
    → addresses ≡ part_in (r.file_end + 1) r.addresses_end s → Deployed file addresses d → r.calls ≤ 255
    → IsBegun s (record { place = r.calls_at; left = r.calls; party = r.party; same = eqb d.number 0; ledger = d.ledger })
begun_is s file addresses r d is f a on few =
    let whole : file ≡ file_in s = f ∙ ap (λ (n : ℕ). part_in 2 n s) is.file_ends in
    let all : addresses ≡ addresses_in s = a ∙ ap (λ (n : ℕ). part_in (n + 1) r.addresses_end s) is.file_ends
    ∙ ap (λ (n : ℕ). part_in (file_end s + 1) n s) is.addresses_ends in
    record {
      start = is.calls_start;
      calls = is.calls;
      party = is.party;
      same = ap is_zero on.number ∙ ap (λ (l : List ℕ). is_zero (deploy_number l addresses)) whole
          ∙ ap (λ (l : List ℕ). is_zero (deploy_number (file_in s) l)) all;
      ledger = on.ledger ∙ ap (λ (l : List ℕ). cond (is_zero d.number) (deployed l addresses) nothing_deployed) whole
          ∙ ap (λ (l : List ℕ). cond (is_zero d.number) (deployed (file_in s) l) nothing_deployed) all;
      near = (omega (arith, is.calls_start), is.near);
      few = few;
    }

-- A call that is read from the rest of a record, and made.
module _ (s rest : List ℕ) (run : Run) (r : RecordedCall) (made : Called) (n : ℕ) (same : Bool) (lent : rest ≡ s)
    (is : IsRecordedCall rest r)
    (on : CalledOn run.ledger r.function r.caller (take r.count r.arguments) made) (e : n ≡ byte_at rest r.end)
    (compared : same ≡ (run.same && eqb made.number n)) where
  end_is : r.end ≡ 3 + 4 * byte_at rest 2
  end_is = is.behind ∙ ap (λ (m : ℕ). 3 + 4 * m) is.counted

  number_is : made.number ≡ call_number (ledger_of run.ledger) (byte_at rest 0) (byte_at rest 1) (arguments_in rest)
  number_is = rw (← is.function, ← is.caller, ← is.stand) on.number

  ledger_is : ledger_of made.ledger ≡ ledger_after_call (ledger_of run.ledger) (byte_at rest 0) (byte_at rest 1) (arguments_in rest)
  ledger_is = rw (← is.function, ← is.caller, ← is.stand) on.ledger

  called_rest : CalledIn rest run
      (record { place = run.place + r.end + 1; left = run.left - 1; party = run.party; same = same; ledger = made.ledger })
  called_rest =
      record {
        behind = omega (arith, end_is);
        fewer = refl;
        party = refl;
        same = compared ∙ ap (λ (m : ℕ). run.same && eqb m n) number_is
            ∙ ap (λ (m : ℕ). run.same && eqb (call_number (ledger_of run.ledger) (byte_at rest 0) (byte_at rest 1) (arguments_in rest)) m)
            (e ∙ ap (byte_at rest) end_is);
        ledger = ledger_is;
        near = (omega arith, omega (arith, is.behind, is.few));
      }

  pub called_is : CalledIn s run
      (record { place = run.place + r.end + 1; left = run.left - 1; party = run.party; same = same; ledger = made.ledger })
  called_is = rw (← lent) called_rest
