-- A rewritten piece is narrow: its form, the steps that set its reads, and what is claimed of its variables. Each combinator of rewriting
-- keeps that, where the variables' numbers fit two bytes.
use Rattle.std.specs.Prelude.{◌∷◌, ◌++◌, ◌+◌, ◌/◌, ◌%◌, ◌<◌, ◌≤◌}
use Rattle.kit.specs.Names.{Bool, true, false, cond, List, [], ℕ, suc, arith, length, length-append}
use Rattle.definitions.specs.ContractFile.{DataType, boolean, uint, address, data_type_code, Operator, plus, minus, times, divide, remainder, less, less_or_equal, equal, unequal, conjunction, disjunction, operator_code, Owner, everyone, owned_by, Expression}
use Rattle.definitions.specs.Rewriting.{BodyExpression, Circuit, Command, Variable, Claim, equals, opens_for_caller, Step, Piece, Generator, kept, one_part, two_parts, supplying, reading, read_form, body_tree, circuit_tree, command_tree, leaf}
use Rattle.write_trees.proofs.Narrowness.{NarrowTree, narrow_leaf}
use Rattle.walk_constraints.specs.Numbers.{HasCode}

pub data Each {A : Type 0} (P : A → Type 0) : List A → Type 0 where
  none : Each P []
  more : (x : A) (xs : List A) → P x → Each P xs → Each P (x ∷ xs)

pub each_append : {A : Type 0} (P : A → Type 0) (xs ys : List A) → Each P xs → Each P ys → Each P (xs ++ ys)
each_append P [] ys h k = k
each_append P (x ∷ xs) ys (more _ _ n h) k = more x (xs ++ ys) n (each_append P xs ys h k)

abbrev pub NarrowBody : BodyExpression → Type 0
NarrowBody e = NarrowTree (body_tree e)

abbrev pub NarrowCircuit : Circuit → Type 0
NarrowCircuit e = NarrowTree (circuit_tree e)

abbrev pub NarrowCommand : Command → Type 0
NarrowCommand c = NarrowTree (command_tree c)

abbrev pub NarrowStep : Step → Type 0
NarrowStep s = (s.variable < 65536) × NarrowBody s.value

abbrev pub NarrowClaim : Claim → Type 0
NarrowClaim (equals i o circuit) = HasCode o × NarrowCircuit circuit
NarrowClaim (opens_for_caller i) = Unit {0}

pub record NarrowPiece {A : Type 0} (P : A → Type 0) (piece : Piece A) : Type 0 where
  pub form : P piece.form
  pub steps : Each NarrowStep piece.steps
  pub claims : Each NarrowClaim piece.claims

-- A generator whose pieces are narrow, where their variables' numbers fit two bytes.
pub record Narrows {A : Type 0} (P : A → Type 0) (m : Generator A) : Type 0 where
  pub from : (i : ℕ) → i + length (m i).variables ≤ 65536 → NarrowPiece P (m i)

type_small : (t : DataType) → data_type_code t < 256
type_small boolean = omega arith
type_small uint = omega arith
type_small address = omega arith

pub operator_small : (o : Operator) → operator_code o < 256
operator_small plus = omega arith
operator_small minus = omega arith
operator_small times = omega arith
operator_small divide = omega arith
operator_small remainder = omega arith
operator_small less = omega arith
operator_small less_or_equal = omega arith
operator_small equal = omega arith
operator_small unequal = omega arith
operator_small conjunction = omega arith
operator_small disjunction = omega arith

pub constant_narrow : (t : DataType) (v : ℕ) → v < 4294967296 → NarrowTree (leaf 1 (data_type_code t) (v % 65536) (v / 65536))
constant_narrow t v h = narrow_leaf 1 (data_type_code t) (v % 65536) (v / 65536) (omega arith) (type_small t) (omega arith) (omega arith)

pub variable_narrow : (i : ℕ) → i < 65536 → NarrowBody (BodyExpression.variable i)
unfolding body_tree
variable_narrow i h = narrow_leaf 9 0 i 0 (omega arith) (omega arith) h (omega arith)

read_narrow : (o : Owner) (i : ℕ) → i < 65536 → NarrowCircuit (read_form o i)
unfolding circuit_tree
read_narrow everyone i h = narrow_leaf 9 0 i 0 (omega arith) (omega arith) h (omega arith)
read_narrow (owned_by n) i h = narrow_leaf 10 0 i 0 (omega arith) (omega arith) h (omega arith)

module _ {A : Type 0} (P : A → Type 0) where
  pub kept_narrow : (form : A) → P form → Narrows P (kept form)
  unfolding kept
  kept_narrow form h = record { from = λ i few. record { form = h; steps = none; claims = none } }

  pub either_narrow : (t : Bool) (m k : Generator A) → Narrows P m → Narrows P k → Narrows P (cond t m k)
  either_narrow true m k h g = h
  either_narrow false m k h g = g

module _ {A B : Type 0} (P : A → Type 0) (Q : B → Type 0) where
  pub one_narrow : (f : A → B) (part : Generator A) → ((a : A) → P a → Q (f a)) → Narrows P part → Narrows Q (one_part f part)
  unfolding one_part
  one_narrow f part keeps h =
      record {
        from = λ i few.
            let p = h.from i few in
            record { form = keeps (part i).form p.form; steps = p.steps; claims = p.claims };
      }

module _ {A B C : Type 0} (P : A → Type 0) (Q : B → Type 0) (R : C → Type 0) where
  pub two_narrow : (f : A → B → C) (first : Generator A) (second : Generator B) → ((a : A) (b : B) → P a → Q b → R (f a b))
      → Narrows P first → Narrows Q second → Narrows R (two_parts f first second)
  unfolding two_parts
  two_narrow f first second keeps h k =
      record {
        from = λ i few.
            let a = first i in
            let j = i + length a.variables in
            let b = second j in
            let both = length-append a.variables b.variables in
            let p = h.from i (omega arith) in
            let q = k.from j (omega arith) in
            record {
              form = keeps a.form b.form p.form q.form;
              steps = each_append NarrowStep a.steps b.steps p.steps q.steps;
              claims = each_append NarrowClaim a.claims b.claims p.claims q.claims;
            };
      }

pub supply_narrow : (o : Owner) (e : Expression) (circuit : Generator Circuit) → HasCode o → Narrows NarrowCircuit circuit → Narrows NarrowBody (supplying o e circuit)
unfolding supplying
supply_narrow o e circuit code h =
    record {
      from = λ i few.
          let c = circuit (suc i) in
          let p = h.from (suc i) (omega arith) in
          record {
            form = variable_narrow i (omega arith);
            steps = p.steps;
            claims = each_append NarrowClaim c.claims (equals i o c.form ∷ []) p.claims (more (equals i o c.form) [] (code, p.form) none);
          };
    }

pub reading_narrow : (o : Owner) (e : Expression) (value : Generator BodyExpression) → Narrows NarrowBody value → Narrows NarrowCircuit (reading o e value)
unfolding reading
reading_narrow o e value h =
    record {
      from = λ i few.
          let v = value i in
          let j = i + length v.variables in
          let counted = length-append v.variables ((Variable.read_from o e) ∷ []) in
          let p = h.from i (omega arith) in
          record {
            form = read_narrow o j (omega arith);
            steps = each_append NarrowStep v.steps (record { variable = j; value = v.form } ∷ []) p.steps (more (record { variable = j; value = v.form }) [] (omega arith, p.form) none);
            claims = p.claims;
          };
    }
