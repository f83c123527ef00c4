-- The head of a view and its length, and what a request for a view gives.
use Rattle.std.specs.Prelude.{◌≡◌, ◌∷◌, ◌++◌, ◌+◌, ◌*◌, ◌/◌}
use Rattle.kit.specs.Names.{List, [], ℕ, length}
use Rattle.definitions.specs.Basics.{two_bytes}
use Rattle.definitions.specs.Ledger as ledger
use Rattle.definitions.specs.View.{view_number, view_length, output_after_view}
use Rattle.ledger_struct.specs.declared.LastCall.{LastCall}
use Rattle.memory_answer.specs.declared.Answer.{Answer}

unfoldable pub head_bytes : LastCall → List ℕ
head_bytes last = two_bytes last.call ++ (last.function ∷ last.caller ∷ last.outcome ∷ [])

-- Ten bytes for each content behind the head, by how many flat numbers the contents are: it does not depend on who looks.
abbrev pub view_size : ℕ → ℕ → ℕ → ℕ
view_size parameters variables places = 5 + 10 * (parameters / 5) + 10 * (variables / 5) + 10 * (places / 5)

pub record Viewed (party : ℕ) (l : ledger.Ledger) (before after : List ℕ) (r : Answer) : Type 0 where
  pub number : r.number ≡ view_number party l (length before)
  pub long : r.length ≡ view_length party l (length before)
  pub output : after ≡ output_after_view party l before
