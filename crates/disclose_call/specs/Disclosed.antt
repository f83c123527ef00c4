-- 01, Runs and views: what a request for a call's disclosures gives.
use Rattle.std.specs.Prelude.{◌≡◌, ◌<◌, ◌≤◌}
use Rattle.kit.specs.Names.{List, ℕ, length}
use Rattle.definitions.specs.ContractFile.{node_count}
use Rattle.definitions.specs.Numbers.{check_number}
use Rattle.definitions.specs.Original.{address_in, disclosed_by}
use Rattle.definitions.specs.Ledger as ledger
use Rattle.definitions.specs.View.{disclosed_number, disclosed_length, output_after_disclosing}
use Rattle.theory_trees.specs.Trees.{statement_in}
use Rattle.file_accepted.specs.Context.{Known, nodes_in, fields_in, scope_in}
use Rattle.file_accepted.specs.Functions.{root_at}
use Rattle.memory_answer.specs.declared.Answer.{Answer}

-- What the body of the function that begins at a place discloses, where the places hold these numbers.
unfoldable pub body_discloses : List ℕ → ℕ → ℕ → List ℕ → List ℕ → ℕ → List ℕ
body_discloses file at caller arguments numbers party =
    disclosed_by (fields_in file) (address_in (scope_in file at) caller arguments numbers) arguments party numbers
    (statement_in (nodes_in file) (root_at file at))

-- The function that begins at a place can be worked out, and there is room for all that its body discloses.
pub record BodyReady (file : List ℕ) (at caller : ℕ) (arguments numbers : List ℕ) (party : ℕ) (values : List ℕ) : Type 0 where
  pub accepted : check_number file ≡ 0
  pub context : Known file at
  pub root : root_at file at < node_count file
  pub room : length (body_discloses file at caller arguments numbers party) ≤ length values

pub record DisclosedTo (l : ledger.Ledger) (function caller : ℕ) (arguments : List ℕ) (party : ℕ) (before after : List ℕ)
    (r : Answer) : Type 0 where
  pub number : r.number ≡ disclosed_number l function caller arguments party (length before)
  pub long : r.length ≡ disclosed_length l function caller arguments party (length before)
  pub output : after ≡ output_after_disclosing l function caller arguments party before
