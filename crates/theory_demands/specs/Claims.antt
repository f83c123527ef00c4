-- What the theorems claim of a run: that its ledger stands for the original, and that a call's cells have new serials.
use Rattle.std.specs.Prelude.{◌≡◌, ◌∷◌, ◌≤◌}
use Rattle.kit.specs.Names.{true, cond, List, [], ℕ, suc}
use Rattle.definitions.specs.Basics.{all}
use Rattle.definitions.specs.ContractFile.{contract_in}
use Rattle.definitions.specs.Original.{place_readers, original_completes}
use Rattle.definitions.specs.Ledger.{Content, plain, cell, Ledger, content_at, constraint_holds, last_address, function_of_ledger}
use Rattle.definitions.specs.Ledger.{call_number, honest_parameters_of, honest_variables_of}
use Rattle.definitions.specs.Rewriting.{rewrite_function}
use Rattle.definitions.specs.View.{Request, Run, run_after}
use Rattle.theory_relations.specs.Standing.{AllStand}

-- A whole list of calls, one after the other.
unfoldable pub run_after_all : Run → List Request → Run
run_after_all run [] = run
run_after_all run (r ∷ rs) = run_after_all (run_after run r) rs

-- The numbers of a list's calls.
unfoldable pub call_numbers : Run → List Request → List ℕ
call_numbers run [] = []
call_numbers run (r ∷ rs) =
    call_number run.ledger r.function r.caller r.arguments
    ∷ call_numbers (run_after run r) rs

-- "every place then stands for the same value": private ones as a cell of the right owner address, public ones plain.
abbrev pub PlacesStand : Run → Type 0
PlacesStand run =
    AllStand (place_readers (contract_in run.ledger.file).fields run.original) run.ledger.places run.original

-- "completes exactly the calls the original completes": a taken call is done where the original completes, and failed elsewhere;
-- and where it is done every constraint holds of its variables.
pub record CallFaithful (run : Run) (r : Request) : Type 0 where
  pub outcome :
      (run_after run r).ledger.outcome
      ≡ cond (original_completes (contract_in run.ledger.file) run.original r.function r.caller r.arguments) 0 1
  pub constraints : (run_after run r).ledger.outcome ≡ 0
      → all (constraint_holds (last_address (run_after run r).ledger) (run_after run r).ledger.variables)
      (rewrite_function (contract_in run.ledger.file).fields
      (function_of_ledger (run_after run r).ledger (run_after run r).ledger.function)).constraints
      ≡ true

-- Every cell among the contents has a serial whose call is at most, or is, a number.
abbrev pub SerialUpTo : ℕ → Content → Type 0
SerialUpTo n (plain v) = Unit {0}
SerialUpTo n (cell c) = c.call ≤ n

abbrev pub SerialOf : ℕ → Content → Type 0
SerialOf n (plain v) = Unit {0}
SerialOf n (cell c) = c.call ≡ n

-- All contents of a list have it; past the end stands plain 0.
pub record EveryContent (P : Content → Type 0) (contents : List Content) : Type 0 where
  pub at : (i : ℕ) → P (content_at contents i)

-- The cells of a ledger have serials of calls up to its last; those that the next call makes have that call's.
pub record SerialsUpTo (n : ℕ) (l : Ledger) : Type 0 where
  pub parameters : EveryContent (SerialUpTo n) l.parameters
  pub variables : EveryContent (SerialUpTo n) l.variables
  pub places : EveryContent (SerialUpTo n) l.places

pub record MadeSerials (l : Ledger) (r : Request) : Type 0 where
  pub parameters : EveryContent (SerialOf (suc l.call)) (honest_parameters_of l r.function r.caller r.arguments)
  pub variables : EveryContent (SerialOf (suc l.call)) (honest_variables_of l r.function r.caller r.arguments)
