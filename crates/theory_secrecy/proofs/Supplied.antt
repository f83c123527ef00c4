-- What holds of every supplied variable of a piece of the rewriting, by its owner and its expression.
use Rattle.std.specs.Prelude.{◌∷◌, ◌++◌}
use Rattle.kit.specs.Names.{Bool, true, false, cond, List, [], ℕ, suc}
use Rattle.definitions.specs.ContractFile.{Owner, Expression}
use Rattle.definitions.specs.Rewriting.{BodyExpression, Circuit, Variable, supplied, read_from, Generator, kept, one_part, two_parts, supplying, reading}

pub data AllSupplied (Holds : Owner → Expression → Type 0) : List Variable → Type 0 where
  no_variable : AllSupplied Holds []
  supplied_holds : {o : Owner} {e : Expression} {rest : List Variable} → Holds o e → AllSupplied Holds rest → AllSupplied Holds (supplied o e ∷ rest)
  read_passed : {o : Owner} {e : Expression} {rest : List Variable} → AllSupplied Holds rest → AllSupplied Holds (read_from o e ∷ rest)

-- Of a piece, whatever the number of its first variable.
pub record Supplies (Holds : Owner → Expression → Type 0) {A : Type 0} (piece : Generator A) : Type 0 where
  pub at : (i : ℕ) → AllSupplied Holds (piece i).variables

module _ {Holds : Owner → Expression → Type 0} where
  supplied_append : {first second : List Variable} → AllSupplied Holds first → AllSupplied Holds second → AllSupplied Holds (first ++ second)
  supplied_append no_variable k = k
  supplied_append (supplied_holds holds h) k = supplied_holds holds (supplied_append h k)
  supplied_append (read_passed h) k = read_passed (supplied_append h k)

  pub supplies_kept : {A : Type 0} (form : A) → Supplies Holds (kept form)
  unfolding kept
  supplies_kept form = record { at = λ i. no_variable }

  pub supplies_one_part : {A B : Type 0} (f : A → B) {part : Generator A} → Supplies Holds part → Supplies Holds (one_part f part)
  unfolding one_part
  supplies_one_part f h = record { at = h.at }

  pub supplies_two_parts : {A B C : Type 0} (f : A → B → C) {first : Generator A} {second : Generator B} → Supplies Holds first → Supplies Holds second
      → Supplies Holds (two_parts f first second)
  unfolding two_parts
  supplies_two_parts f h k = record { at = λ i. supplied_append (h.at i) (k.at _) }

  pub supplies_reading : (o : Owner) (e : Expression) {value : Generator BodyExpression} → Supplies Holds value → Supplies Holds (reading o e value)
  unfolding reading
  supplies_reading o e h = record { at = λ i. supplied_append (h.at i) (read_passed no_variable) }

  pub supplies_supplying : (o : Owner) (e : Expression) {circuit : Generator Circuit} → Holds o e → Supplies Holds circuit → Supplies Holds (supplying o e circuit)
  unfolding supplying
  supplies_supplying o e holds h = record { at = λ i. supplied_holds holds (h.at (suc i)) }

  pub supplies_cond : {A : Type 0} {piece other : Generator A} (b : Bool) → Supplies Holds piece → Supplies Holds other → Supplies Holds (cond b piece other)
  supplies_cond true h k = h
  supplies_cond false h k = k
