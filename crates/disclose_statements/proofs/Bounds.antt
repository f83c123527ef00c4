-- Each reveal discloses at most one value, so a statement discloses no more values than it has nodes.
use Rattle.std.specs.Prelude.{◌&&◌, ◌∷◌, ◌++◌, ◌+◌, ◌≤◌}
use Rattle.kit.specs.Names.{Bool, true, false, cond, List, [], ℕ, arith, length, length-append}
use Rattle.definitions.specs.Basics.{is_true}
use Rattle.definitions.specs.ContractFile.{Name, Field, Expression, Statement}
use Rattle.definitions.specs.Original.{value, is_worked_out, places_after, completes, may_read, reader_of, disclosed, disclosed_by}
use Rattle.theory_trees.specs.Sizes.{expression_size, statement_size}

either_short : (b : Bool) (x y : List ℕ) (most : ℕ) → length x ≤ most → length y ≤ most → length (cond b x y) ≤ most
either_short true x y most h k = h
either_short false x y most h k = k

-- Two lists in a row, the second where the first went through.
row_short : (b : Bool) (x y : List ℕ) (m n : ℕ) → length x ≤ m → length y ≤ n → length (x ++ cond b y []) ≤ m + n
row_short b x y m n h k =
    let second = either_short b y [] n k (omega arith) in
    omega (arith, length-append x (cond b y []))

module _ (fields : List Field) (address : Name → ℕ) (arguments : List ℕ) (party : ℕ) where
  abbrev told : List ℕ → Expression → List ℕ
  told = disclosed fields address arguments party

  abbrev told_by : List ℕ → Statement → List ℕ
  told_by = disclosed_by fields address arguments party

  expression_few : (places : List ℕ) (e : Expression) → length (told places e) ≤ expression_size e
  unfolding disclosed expression_size
  expression_few places (Expression.constant t v) = omega arith
  expression_few places Expression.me = omega arith
  expression_few places (Expression.field f) = omega arith
  expression_few places (Expression.entry f key) = omega (arith, expression_few places key)
  expression_few places (Expression.parameter k) = omega arith
  expression_few places (Expression.operator o left right) =
      omega (
        arith,
        row_short (is_worked_out fields address arguments places left) (told places left) (told places right) (expression_size left) (expression_size right)
            (expression_few places left) (expression_few places right),
      )
  expression_few places (Expression.negation part) = omega (arith, expression_few places part)
  expression_few places (Expression.reveal part o) =
      omega (
        arith,
        row_short (is_worked_out fields address arguments places part && may_read party (reader_of address o)) (told places part)
            (value fields address arguments places part ∷ []) (expression_size part) 1 (expression_few places part) (omega arith),
      )

  pub statement_few : (places : List ℕ) (s : Statement) → length (told_by places s) ≤ statement_size s
  unfolding disclosed_by statement_size
  statement_few places Statement.skip = omega arith
  statement_few places (Statement.sequence first second) =
      let after = places_after fields address arguments places first in
      omega (
        arith,
        row_short (completes fields address arguments places first) (told_by places first) (told_by after second) (statement_size first) (statement_size second)
            (statement_few places first) (statement_few after second),
      )
  statement_few places (Statement.assign_field f e) = omega (arith, expression_few places e)
  statement_few places (Statement.assign_entry f key e) =
      omega (
        arith,
        row_short (is_worked_out fields address arguments places key) (told places key) (told places e) (expression_size key) (expression_size e)
            (expression_few places key) (expression_few places e),
      )
  statement_few places (Statement.require condition) = omega (arith, expression_few places condition)
  statement_few places (Statement.conditional condition then else) =
      let taken = is_true (value fields address arguments places condition) in
      let most = statement_size then + statement_size else in
      let chosen = either_short taken (told_by places then) (told_by places else) most (omega (arith, statement_few places then)) (omega (arith, statement_few places else)) in
      omega (
        arith,
        row_short (is_worked_out fields address arguments places condition) (told places condition) (cond taken (told_by places then) (told_by places else))
            (expression_size condition) most (expression_few places condition) chosen,
      )
