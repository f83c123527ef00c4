-- What rewriting makes of an expression or a statement takes at most 64 bytes for each of its nodes.
use Rattle.std.specs.Prelude.{◌≡◌, ◌&&◌, ◌∷◌, ◌++◌, ◌+◌, ◌*◌, ◌≤◌}
use Rattle.kit.specs.Names.{refl, Bool, true, false, cond, List, [], none, ℕ, suc, arith, length}
use Rattle.kit.specs.Names.{length-append}
use Rattle.definitions.specs.ContractFile.{me_name, Owner, everyone, owned_by, Expression, Statement, Scope, field_at, is_division}
use Rattle.definitions.specs.Owners.{name_of, place_owner, is_public, owner_of}
use Rattle.definitions.specs.Rewriting.{BodyExpression, Circuit, Command, read_from, Claim, equals, Guard, under, Constraint, Step, Generator, StatementGenerator, kept, one_part, two_parts, supplying, read_form, reading, in_body, in_circuit, in_place, steps_before, held_under, single, in_sequence, in_branch, in_branches, rewrite_statement, size, body_tree, circuit_tree, command_tree}
use Rattle.theory_trees.specs.Sizes.{expression_size, statement_size}
use Rattle.write_room.specs.Sizes.{body_size, circuit_size, command_size, steps_size, claim_weight, claims_weight, constraints_weight, piece_weight, passage_weight}

pub steps_append : (a b : List Step) → steps_size (a ++ b) ≡ steps_size a + steps_size b
unfolding steps_size
steps_append [] b = omega arith
steps_append (s ∷ a) b = let h = steps_append a b in omega arith

pub claims_append : (a b : List Claim) → claims_weight (a ++ b) ≡ claims_weight a + claims_weight b
unfolding claims_weight
claims_append [] b = omega arith
claims_append (c ∷ a) b = let h = claims_append a b in omega arith

pub constraints_append : (a b : List Constraint) → constraints_weight (a ++ b) ≡ constraints_weight a + constraints_weight b
unfolding constraints_weight
constraints_append [] b = omega arith
constraints_append (c ∷ a) b = let h = constraints_append a b in omega arith

-- The pieces of a generator, whatever their first variable, weigh at most so much.
pub record Light {A : Type 0} (form_size : A → ℕ) (part : Generator A) (most : ℕ) : Type 0 where
  pub within : (i : ℕ) → piece_weight form_size (part i) ≤ most

heavier : {A : Type 0} (form_size : A → ℕ) (part : Generator A) (m n : ℕ) → Light form_size part m → m ≤ n → Light form_size part n
heavier form_size part m n l h = record { within = λ i. let g = l.within i in omega arith }

either : {A : Type 0} (form_size : A → ℕ) (test : Bool) (a b : Generator A) (n : ℕ) → Light form_size a n → Light form_size b n → Light form_size (cond test a b) n
either form_size true a b n x y = x
either form_size false a b n x y = y

kept_light : {A : Type 0} (form_size : A → ℕ) (form : A) → form_size form ≡ 1 → Light form_size (kept form) 8
unfolding kept piece_weight steps_size claims_weight
kept_light form_size form h = record { within = λ i. omega arith }

one_part_light : {A B : Type 0} (size_a : A → ℕ) (size_b : B → ℕ) (f : A → B) (part : Generator A) (n : ℕ) → ((a : A) → size_b (f a) ≡ size_a a + 1)
    → Light size_a part n → Light size_b (one_part f part) (n + 8)
unfolding one_part piece_weight
one_part_light size_a size_b f part n grows l =
    record { within = λ i. let g = l.within i in let k = grows (part i).form in omega arith }

two_parts_light : {A B C : Type 0} (size_a : A → ℕ) (size_b : B → ℕ) (size_c : C → ℕ) (f : A → B → C) (first : Generator A) (second : Generator B) (m n : ℕ)
    → ((a : A) (b : B) → size_c (f a b) ≡ size_a a + size_b b + 1) → Light size_a first m → Light size_b second n → Light size_c (two_parts f first second) (m + n + 8)
unfolding two_parts piece_weight
two_parts_light size_a size_b size_c f first second m n grows l r =
    record {
      within = λ i.
          let j = i + length (first i).variables in
          let g = l.within i in
          let h = r.within j in
          let k = grows (first i).form (second j).form in
          let v = length-append (first i).variables (second j).variables in
          let s = steps_append (first i).steps (second j).steps in
          let c = claims_append (first i).claims (second j).claims in
          omega arith;
    }

-- A variable, a claim and the variable's node.
supplying_light : (o : Owner) (e : Expression) (circuit : Generator Circuit) (n : ℕ) → Light circuit_size circuit n → Light body_size (supplying o e circuit) (n + 17)
unfolding supplying piece_weight claims_weight claim_weight size body_tree
supplying_light o e circuit n l =
    record {
      within = λ i.
          let g = l.within (suc i) in
          let c = claims_append (circuit (suc i)).claims (equals i o (circuit (suc i)).form ∷ []) in
          omega arith;
    }

read_size : (o : Owner) (i : ℕ) → circuit_size (read_form o i) ≡ 1
unfolding size circuit_tree
read_size everyone i = refl
read_size (owned_by n) i = refl

-- A variable, a step and the variable's node.
reading_light : (o : Owner) (e : Expression) (value : Generator BodyExpression) (n : ℕ) → Light body_size value n → Light circuit_size (reading o e value) (n + 27)
unfolding reading piece_weight steps_size
reading_light o e value n l =
    record {
      within = λ i.
          let v = value i in
          let j = i + length v.variables in
          let g = l.within i in
          let w = length-append v.variables (read_from o e ∷ []) in
          let s = steps_append v.steps (record { variable = j; value = v.form } ∷ []) in
          let f = read_size o j in
          omega arith;
    }

-- Both forms of an expression.
pub record LightExpression (scope : Scope) (e : Expression) : Type 0 where
  pub body : Light body_size (in_body (owner_of scope) e) (64 * expression_size e)
  pub circuit : Light circuit_size (in_circuit (owner_of scope) e) (64 * expression_size e)

module _ (scope : Scope) where
  pub expression_light : (e : Expression) → LightExpression scope e
  unfolding in_body in_circuit expression_size size body_tree circuit_tree
  expression_light (Expression.constant t v) =
      record {
        body = heavier body_size (kept (BodyExpression.constant t v)) 8 64 (kept_light body_size (BodyExpression.constant t v) refl) (omega arith);
        circuit = heavier circuit_size (kept (Circuit.constant t v)) 8 64 (kept_light circuit_size (Circuit.constant t v) refl) (omega arith);
      }
  expression_light Expression.me =
      record {
        body = heavier body_size (kept BodyExpression.me) 8 64 (kept_light body_size BodyExpression.me refl) (omega arith);
        circuit = heavier circuit_size (kept Circuit.me) 8 64 (kept_light circuit_size Circuit.me refl) (omega arith);
      }
  expression_light (Expression.field f) =
      let place = kept_light body_size (BodyExpression.field f) refl in
      record {
        body = heavier body_size _ 8 64 place (omega arith);
        circuit = heavier circuit_size _ _ 64 (reading_light _ _ _ 8 place) (omega arith);
      }
  expression_light (Expression.entry f key) =
      let h = expression_light key in
      let place = one_part_light body_size body_size (BodyExpression.entry f) (in_body (owner_of scope) key) (64 * expression_size key) (λ a. refl) h.body in
      record {
        body = heavier body_size _ _ _ place (omega arith);
        circuit = heavier circuit_size _ _ _ (reading_light _ _ _ (64 * expression_size key + 8) place) (omega arith);
      }
  expression_light (Expression.parameter k) =
      let place = kept_light body_size (BodyExpression.parameter k) refl in
      record {
        body = heavier body_size _ 8 64 place (omega arith);
        circuit = heavier circuit_size _ _ 64 (reading_light _ _ _ 8 place) (omega arith);
      }
  expression_light (Expression.operator o left right) =
      let l = expression_light left in
      let r = expression_light right in
      let m = 64 * expression_size left in
      let n = 64 * expression_size right in
      let body = two_parts_light body_size body_size body_size (BodyExpression.operator o) (in_body (owner_of scope) left) (in_body (owner_of scope) right) m n (λ a b. refl) l.body r.body in
      let circuit = two_parts_light circuit_size circuit_size circuit_size (Circuit.operator o) (in_circuit (owner_of scope) left) (in_circuit (owner_of scope) right) m n (λ a b. refl) l.circuit r.circuit in
      let e = Expression.operator o left right in
      let inside = either circuit_size (is_public scope e && is_division o) _ _ (m + n + 35) (heavier circuit_size _ _ _ (reading_light everyone e _ (m + n + 8) body) (omega arith)) (heavier circuit_size _ _ _ circuit (omega arith)) in
      record {
        body = either body_size (is_public scope e) _ _ _ (heavier body_size _ _ _ body (omega arith)) (heavier body_size _ _ _ (supplying_light (owned_by me_name) e _ (m + n + 35) inside) (omega arith));
        circuit = heavier circuit_size _ _ _ inside (omega arith);
      }
  expression_light (Expression.negation part) =
      let h = expression_light part in
      let n = 64 * expression_size part in
      let e = Expression.negation part in
      let body = one_part_light body_size body_size BodyExpression.negation (in_body (owner_of scope) part) n (λ a. refl) h.body in
      let circuit = one_part_light circuit_size circuit_size Circuit.negation (in_circuit (owner_of scope) part) n (λ a. refl) h.circuit in
      record {
        body = either body_size (is_public scope e) _ _ _ (heavier body_size _ _ _ body (omega arith)) (heavier body_size _ _ _ (supplying_light (owned_by me_name) e _ (n + 8) circuit) (omega arith));
        circuit = heavier circuit_size _ _ _ circuit (omega arith);
      }
  expression_light (Expression.reveal part o) =
      let h = expression_light part in
      let n = 64 * expression_size part in
      record {
        body = heavier body_size _ _ _ (supplying_light _ _ _ n h.circuit) (omega arith);
        circuit = heavier circuit_size _ _ _ h.circuit (omega arith);
      }

  place_light : (o : Owner) (e : Expression) → Light body_size (in_place (owner_of scope) o e) (64 * expression_size e + 17)
  place_light everyone e = heavier body_size _ _ _ (expression_light e).body (omega arith)
  place_light (owned_by n) e =
      let h = expression_light e in
      either body_size (is_public scope e) _ _ _ (supplying_light (owned_by n) e _ (64 * expression_size e) h.circuit) (heavier body_size _ _ _ h.body (omega arith))

pub record LightStatement (part : StatementGenerator) (most : ℕ) : Type 0 where
  pub within : (g : Guard) (i : ℕ) → passage_weight (part g i) ≤ most

pub steps_before_law : (steps : List Step) (rest : Command) → command_size (steps_before steps rest) ≡ steps_size steps + command_size rest
unfolding steps_before steps_size size command_tree
steps_before_law [] rest = omega arith
steps_before_law (s ∷ steps) rest = let h = steps_before_law steps rest in omega arith

pub held_weight : (g : Guard) (claims : List Claim) → constraints_weight (held_under g claims) ≡ claims_weight claims
unfolding constraints_weight claims_weight
held_weight g [] = refl
held_weight g (c ∷ cs) = let h = held_weight g cs in omega arith

single_light : (part : Generator Command) (n : ℕ) → Light command_size part n → LightStatement (single part) n
unfolding single piece_weight passage_weight
single_light part n l =
    record {
      within = λ g i.
          let h = l.within i in
          let s = steps_before_law (part i).steps (part i).form in
          let c = held_weight g (part i).claims in
          omega arith;
    }

in_sequence_light : (first second : StatementGenerator) (m n : ℕ) → LightStatement first m → LightStatement second n → LightStatement (in_sequence first second) (m + n + 8)
unfolding in_sequence passage_weight size command_tree
in_sequence_light first second m n l r =
    record {
      within = λ g i.
          let a = first g i in
          let j = i + length a.variables in
          let b = second g j in
          let h = l.within g i in
          let k = r.within g j in
          let v = length-append a.variables b.variables in
          let c = constraints_append a.constraints b.constraints in
          omega arith;
    }

in_branch_light : (inside : StatementGenerator) (n i : ℕ) → LightStatement inside n → passage_weight (in_branch inside i) ≤ n + 27
unfolding in_branch passage_weight size command_tree body_tree
in_branch_light inside n i l = let h = l.within (under i) (suc i) in omega arith

in_branches_light : (condition : Generator BodyExpression) (then else : StatementGenerator) (k m n : ℕ) → Light body_size condition k → LightStatement then m
    → LightStatement else n → LightStatement (in_branches condition then else) (k + m + n + 62)
unfolding in_branches piece_weight passage_weight size command_tree
in_branches_light condition then else k m n c t e =
    record {
      within = λ g i.
          let w = condition i in
          let j = i + length w.variables in
          let a = in_branch then j in
          let b = in_branch else (j + length a.variables) in
          let x = c.within i in
          let y = in_branch_light then m j t in
          let z = in_branch_light else n (j + length a.variables) e in
          let v = length-append w.variables (a.variables ++ b.variables) in
          let v₂ = length-append a.variables b.variables in
          let s = steps_before_law w.steps (Command.conditional w.form a.command b.command) in
          let d = held_weight g w.claims in
          let q = constraints_append (held_under g w.claims) (a.constraints ++ b.constraints) in
          let q₂ = constraints_append a.constraints b.constraints in
          omega arith;
    }

lighter : (part : StatementGenerator) (m n : ℕ) → LightStatement part m → m ≤ n → LightStatement part n
lighter part m n l h = record { within = λ g i. let k = l.within g i in omega arith }

pub statement_light : (scope : Scope) (s : Statement) → LightStatement (rewrite_statement scope s) (64 * statement_size s)
unfolding rewrite_statement statement_size size command_tree
statement_light scope Statement.skip = lighter _ _ _ (single_light _ 8 (kept_light command_size Command.skip refl)) (omega arith)
statement_light scope (Statement.sequence first second) =
    lighter _ _ _ (in_sequence_light _ _ (64 * statement_size first) (64 * statement_size second) (statement_light scope first) (statement_light scope second)) (omega arith)
statement_light scope (Statement.assign_field f value) =
    let owner = place_owner (field_at scope.fields f).owner none in
    let n = 64 * expression_size value + 17 in
    lighter _ _ _ (single_light _ (n + 8) (one_part_light body_size command_size (Command.assign_field f) (in_place (owner_of scope) owner value) n (λ a. refl) (place_light scope owner value))) (omega arith)
statement_light scope (Statement.assign_entry f key value) =
    let owner = place_owner (field_at scope.fields f).owner (name_of scope key) in
    let m = 64 * expression_size key in
    let n = 64 * expression_size value + 17 in
    let parts = two_parts_light body_size body_size command_size (Command.assign_entry f) (in_body (owner_of scope) key) (in_place (owner_of scope) owner value) m n (λ a b. refl)
    (expression_light scope key).body (place_light scope owner value) in
    lighter _ _ _ (single_light _ (m + n + 8) parts) (omega arith)
statement_light scope (Statement.require condition) =
    let n = 64 * expression_size condition in
    lighter _ _ _ (single_light _ (n + 8) (one_part_light body_size command_size Command.require (in_body (owner_of scope) condition) n (λ a. refl) (expression_light scope condition).body)) (omega arith)
statement_light scope (Statement.conditional condition then else) =
    lighter _ _ _
    (in_branches_light _ _ _ (64 * expression_size condition) (64 * statement_size then) (64 * statement_size else) (expression_light scope condition).body
    (statement_light scope then) (statement_light scope else)) (omega arith)
