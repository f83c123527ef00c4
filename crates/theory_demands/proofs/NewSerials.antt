-- From deployment on, the cells of a ledger have serials of calls up to its last, so the next call's serials are new.
use Rattle.std.specs.Prelude.{◌∷◌}
use Rattle.kit.specs.Names.{Bool, true, false, cond, List, [], zip_with, ℕ, suc, arith}
use Rattle.definitions.specs.Basics.{is_zero}
use Rattle.definitions.specs.ContractFile.{contract_in}
use Rattle.definitions.specs.Original.{Reader, anyone, only}
use Rattle.definitions.specs.Ledger.{Content, plain, cell, Ledger, content_at, content_for, call_number, function_of_ledger, call_with, deployed, honest_parameters_of, honest_variables_of, ledger_after_call}
use Rattle.definitions.specs.View.{Request, Run, run_after}
use Rattle.theory_demands.specs.Claims.{SerialUpTo, SerialOf, EveryContent, SerialsUpTo, MadeSerials, run_after_all}
use Rattle.theory_demands.proofs.Serials.{every_none, every_cons, every_append, every_public, walked_state, made_parameters, made_contents, made_variables}
use Rattle.theory_demands.proofs.CallParts.{written_function, start_of_call, address_in_call, is_done, after_done, after_failed}

plain_up_to : (n v : ℕ) → SerialUpTo n (plain v)
plain_up_to n v = tt

earlier_up_to : (n : ℕ) (contents : List Content) → EveryContent (SerialUpTo n) contents → EveryContent (SerialUpTo (suc n)) contents
earlier_up_to n contents h = record { at = λ i. one (content_at contents i) (h.at i) }
  where
    one : (c : Content) → SerialUpTo n c → SerialUpTo (suc n) c
    one (plain v) k = tt
    one (cell c) k = omega arith

of_up_to : (n : ℕ) (contents : List Content) → EveryContent (SerialOf n) contents → EveryContent (SerialUpTo n) contents
of_up_to n contents h = record { at = λ i. one (content_at contents i) (h.at i) }
  where
    one : (c : Content) → SerialOf n c → SerialUpTo n c
    one (plain v) k = tt
    one (cell c) k = omega arith

-- A call makes cells of its own number alone.
pub made_serials : (l : Ledger) (r : Request) → MadeSerials l r
made_serials l r =
    record {
      parameters = made_parameters r.caller (suc l.call) 0 (function_of_ledger l r.function).parameters r.arguments;
      variables =
          every_append (SerialOf (suc l.call)) (λ v. tt) _ _ (made_contents _ _ (suc l.call) r.arguments _ 0 _)
          (made_variables _ _ (suc l.call) r.arguments (function_of_ledger l r.function).body _ _ _);
    }

serials_of_deployed : (readers : List Reader) (numbers : List ℕ) → EveryContent (SerialUpTo 0) (zip_with (λ reader n. content_for reader 0 0 n) readers numbers)
unfolding zip_with
serials_of_deployed [] numbers = every_none (SerialUpTo 0) (plain_up_to 0)
serials_of_deployed (reader ∷ readers) [] = every_none (SerialUpTo 0) (plain_up_to 0)
serials_of_deployed (reader ∷ readers) (n ∷ numbers) =
    every_cons (SerialUpTo 0) (plain_up_to 0) (content_for reader 0 0 n) _ (one reader) (serials_of_deployed readers numbers)
  where
    one : (reader : Reader) → SerialUpTo 0 (content_for reader 0 0 n)
    one anyone = tt
    one (only x) = omega arith

pub serials_at_deployment : (file addresses : List ℕ) → SerialsUpTo 0 (deployed file addresses)
unfolding deployed
serials_at_deployment file addresses =
    record {
      parameters = every_none (SerialUpTo 0) (plain_up_to 0);
      variables = every_none (SerialUpTo 0) (plain_up_to 0);
      places = serials_of_deployed _ _;
    }

-- A ledger's own number bounds its serials, before and after each call.
pub serials_after : (l : Ledger) → SerialsUpTo l.call l → (f c : ℕ) (a : List ℕ) → SerialsUpTo (ledger_after_call l f c a).call (ledger_after_call l f c a)
unfolding ledger_after_call call_with
serials_after l h f c a =
    go (is_zero (call_number l f c a)) (is_done l f c (honest_parameters_of l f c a) (honest_variables_of l f c a))
  where
    made : MadeSerials l (record { function = f; caller = c; arguments = a })
    made = made_serials l (record { function = f; caller = c; arguments = a })

    given : EveryContent (SerialUpTo (suc l.call)) (honest_parameters_of l f c a)
    given = of_up_to (suc l.call) (honest_parameters_of l f c a) (made_parameters c (suc l.call) 0 (function_of_ledger l f).parameters a)

    supplied : EveryContent (SerialUpTo (suc l.call)) (honest_variables_of l f c a)
    supplied = of_up_to (suc l.call) (honest_variables_of l f c a) (made_serials l (record { function = f; caller = c; arguments = a })).variables

    go : (taken done : Bool)
        → SerialsUpTo
        (cond taken (cond done (after_done l f c (honest_parameters_of l f c a) (honest_variables_of l f c a)) (after_failed l f c (honest_parameters_of l f c a) (honest_variables_of l f c a))) l).call
        (cond taken (cond done (after_done l f c (honest_parameters_of l f c a) (honest_variables_of l f c a)) (after_failed l f c (honest_parameters_of l f c a) (honest_variables_of l f c a))) l)
    go true true =
        let parameters = honest_parameters_of l f c a in
        let variables = honest_variables_of l f c a in
        let end =
        walked_state (SerialUpTo (suc l.call)) (plain_up_to (suc l.call)) (address_in_call l f c parameters variables) (contract_in l.file).fields parameters given
        (start_of_call l f c parameters variables) (earlier_up_to l.call l.places h.places) supplied (written_function l f c parameters variables).body in
        record { parameters = given; variables = end.1; places = end.0 }
    go true false =
        record {
          parameters = every_public (SerialUpTo (suc l.call)) (plain_up_to (suc l.call)) (function_of_ledger l f).parameters (honest_parameters_of l f c a) given;
          variables = every_none (SerialUpTo (suc l.call)) (plain_up_to (suc l.call));
          places = earlier_up_to l.call l.places h.places;
        }
    go false done = h

pub serials_after_all : (run : Run) → SerialsUpTo run.ledger.call run.ledger → (requests : List Request)
    → SerialsUpTo (run_after_all run requests).ledger.call (run_after_all run requests).ledger
unfolding run_after_all run_after
serials_after_all run h [] = h
serials_after_all run h (r ∷ rs) = serials_after_all (run_after run r) (serials_after run.ledger h r.function r.caller r.arguments) rs
