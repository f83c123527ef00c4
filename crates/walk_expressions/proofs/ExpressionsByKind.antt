-- What an expression gives, by its kind, as code learns it from what its parts give.
use Rattle.std.specs.Prelude.{◌≡◌, ◌&&◌}
use Rattle.kit.specs.Names.{refl, ap, ◌∙◌, Bool, true, false, not, List, ℕ, get_or, ne_eqb}
use Rattle.definitions.specs.ContractFile.{DataType, is_division, operator_of}
use Rattle.definitions.specs.Original.{position, operate, operates, negate}
use Rattle.definitions.specs.Rewriting.{BodyExpression}
use Rattle.definitions.specs.Ledger as ledger
use Rattle.theory_laws.proofs.Codes.{other_operator}
use Rattle.file_accepted.specs.Context.{fields_in}
use Rattle.ledger_contents.specs.Contents.{content_of_code, contents_of}
use Rattle.walk_expressions.specs.Evaluation.{state_of, content_from, walked_from, Gives}
use Rattle.walk_numbers.specs.declared.Walked.{Walked}

pub fails_divide : (code divisor : ℕ) → code ≡ 3 → divisor ≡ 0 → false ≡ operates (operator_of code) divisor
fails_divide code divisor e z = rw (e, z)

pub fails_remainder : (code divisor : ℕ) → code ≡ 4 → divisor ≡ 0 → false ≡ operates (operator_of code) divisor
fails_remainder code divisor e z = rw (e, z)

pub works_other : (code divisor : ℕ) → (code ≡ 3 → ⊥) → (code ≡ 4 → ⊥) → true ≡ operates (operator_of code) divisor
works_other code divisor h k = rw (other_operator code h k)

never_both : (a : Bool) → true ≡ not (a && false)
never_both true = refl
never_both false = refl

pub works_divisor : (code divisor : ℕ) → (divisor ≡ 0 → ⊥) → true ≡ operates (operator_of code) divisor
works_divisor code divisor h = rw (ne_eqb divisor 0 h) (never_both (is_division (operator_of code)))

pub combined_walked : (code second v : ℕ) (a b o d w : Bool) → second ≡ v → o ≡ a && b → d ≡ operates (operator_of code) second → w ≡ o && d
    → w ≡ a && b && operates (operator_of code) v
combined_walked code second v a b o d w e p q r = r ∙ rw (p, q, e)

pub combined_number : (code first second u v number : ℕ) → first ≡ u → second ≡ v → number ≡ operate (operator_of code) first second
    → ledger.Content.plain number ≡ ledger.Content.plain (operate (operator_of code) u v)
combined_number code first second u v number e k h = ap ledger.Content.plain (rw (← e, ← k) h)

pub opposite_number : (part v number : ℕ) → part ≡ v → number ≡ negate part → ledger.Content.plain number ≡ ledger.Content.plain (negate v)
opposite_number part v number e h = ap ledger.Content.plain (rw (← e) h)

module _ (file addresses parameters places variables : List ℕ) where
  abbrev pub Answers : BodyExpression → Walked → Type 0
  Answers e r =
      Gives (walked_from file addresses parameters (state_of places variables) e) (content_from file addresses parameters (state_of places variables) e) r

  module _ (e : BodyExpression) (r : Walked) where
    pub constant_gives : (t : DataType) (v number : ℕ) → e ≡ BodyExpression.constant t v → number ≡ v → Gives true (ledger.Content.plain number) r → Answers e r
    unfolding walked_from content_from ledger.is_walked ledger.content_of
    constant_gives t v number h k g = rw (h, ← k) g

    pub me_gives : (number : ℕ) → e ≡ BodyExpression.me → number ≡ get_or addresses 1 0 → Gives true (ledger.Content.plain number) r → Answers e r
    unfolding walked_from content_from ledger.is_walked ledger.content_of
    me_gives number h k g = rw (h, ← k) g

    pub field_gives : (f : ℕ) → e ≡ BodyExpression.field f → Gives true (ledger.content_at (contents_of places) (position (fields_in file) f 0)) r → Answers e r
    unfolding walked_from content_from ledger.is_walked ledger.content_of
    field_gives f h g = rw h g

    pub entry_gives : (f key : ℕ) (a : BodyExpression) (part : Walked) → e ≡ BodyExpression.entry f a → Answers a part
        → key ≡ ledger.plain_number (content_of_code part.content)
        → Gives part.walked (ledger.content_at (contents_of places) (position (fields_in file) f key)) r → Answers e r
    unfolding walked_from content_from ledger.is_walked ledger.content_of
    entry_gives f key a part h p k g = rw (h, ← p.is_walked, ← p.same, ← k) g

    pub parameter_gives : (k : ℕ) → e ≡ BodyExpression.parameter k → Gives true (ledger.content_at (contents_of parameters) k) r → Answers e r
    unfolding walked_from content_from ledger.is_walked ledger.content_of
    parameter_gives k h g = rw h g

    pub variable_gives : (i : ℕ) → e ≡ BodyExpression.variable i → Gives true (ledger.content_at (contents_of variables) i) r → Answers e r
    unfolding walked_from content_from ledger.is_walked ledger.content_of
    variable_gives i h g = rw h g

    pub operator_gives : (code : ℕ) (a b : BodyExpression) (left right : Walked) → e ≡ BodyExpression.operator (operator_of code) a b → Answers a left → Answers b right
        → Gives (left.walked && right.walked && operates (operator_of code) (ledger.plain_number (content_of_code right.content)))
        (ledger.Content.plain (operate (operator_of code) (ledger.plain_number (content_of_code left.content)) (ledger.plain_number (content_of_code right.content)))) r
        → Answers e r
    unfolding walked_from content_from ledger.is_walked ledger.content_of
    operator_gives code a b left right h p q g = rw (h, ← p.is_walked, ← p.same, ← q.is_walked, ← q.same) g

    pub negation_gives : (a : BodyExpression) (part : Walked) → e ≡ BodyExpression.negation a → Answers a part
        → Gives part.walked (ledger.Content.plain (negate (ledger.plain_number (content_of_code part.content)))) r → Answers e r
    unfolding walked_from content_from ledger.is_walked ledger.content_of
    negation_gives a part h p g = rw (h, ← p.is_walked, ← p.same) g
