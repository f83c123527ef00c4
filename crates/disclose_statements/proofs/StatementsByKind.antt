-- What a statement discloses by its kind, as code learns it from what its parts disclose.
use Rattle.std.specs.Prelude.{◌≡◌, ◌&&◌, ◌++◌, ◌+◌, ◌<◌, ◌≤◌}
use Rattle.kit.specs.Names.{refl, ap, ap₂, sym, ◌∙◌, Bool, true, false, cond, false≢true, List, [], ℕ}
use Rattle.kit.specs.Names.{arith, length, set}
use Rattle.definitions.specs.Basics.{is_true}
use Rattle.definitions.specs.ContractFile.{Expression, Statement}
use Rattle.definitions.specs.Original.{position, places_after, completes, disclosed_by}
use Rattle.theory_trees.specs.Trees.{expression_in, statement_in}
use Rattle.memory_append.proofs.Appending.{appended_nothing}
use Rattle.file_accepted.specs.Context.{nodes_in, fields_in}
use Rattle.disclose_expressions.specs.declared.Asked.{Asked}
use Rattle.disclose_expressions.specs.declared.Told.{Told}
use Rattle.disclose_expressions.specs.Expressions.{value_in, is_worked_out_in, disclosed_in, ExpressionReady, ExpressionDisclosed}
use Rattle.disclose_expressions.proofs.ExpressionsByKind.{asked_at}
use Rattle.disclose_expressions.proofs.InTurn.{same_appended, appended_stopped, appended_both, room_first, room_second}
use Rattle.disclose_statements.specs.Statements.{places_after_in, completes_in, disclosed_by_in, StatementReady, StatementDisclosed}

-- A failure leaves nothing to say of the places.
failed_places : {A : Type 0} (b : Bool) → b ≡ false → b ≡ true → A
failed_places b stop go = absurd (false≢true (sym stop ∙ go))

-- A branch by the number of its node.
pub branch_in : (file : List ℕ) (taken : Bool) (branch then other : ℕ) → branch ≡ cond taken then other
    → statement_in (nodes_in file) branch ≡ cond taken (statement_in (nodes_in file) then) (statement_in (nodes_in file) other)
branch_in file true branch then other e = ap (statement_in (nodes_in file)) e
branch_in file false branch then other e = ap (statement_in (nodes_in file)) e

pub branch_below : (n : ℕ) (taken : Bool) (branch then other : ℕ) → branch ≡ cond taken then other → then < n → other < n → branch < n
branch_below n true branch then other e a b = rw e a
branch_below n false branch then other e a b = rw e b

-- The parts of a statement that can be worked out can be too, on whatever numbers.
module _ (file arguments addresses numbers : List ℕ) where
  pub expression_ready : (asked : Asked) (n m : ℕ) (out held : List ℕ) (place : ℕ) → StatementReady file arguments addresses numbers asked n out → m < n
      → place + length (disclosed_in file arguments addresses numbers asked.party (expression_in (nodes_in file) m)) ≤ length held
      → ExpressionReady file arguments addresses numbers (asked_at asked place) m held
  expression_ready asked n m out held place ready less room =
      record { inside = omega (arith, ready.inside); called = ready.called; room = room }

  pub statement_ready : (later : List ℕ) (asked : Asked) (n m : ℕ) (out held : List ℕ) (place : ℕ) → StatementReady file arguments addresses numbers asked n out
      → m < n → place + length (disclosed_by_in file arguments addresses later asked.party (statement_in (nodes_in file) m)) ≤ length held
      → StatementReady file arguments addresses later (asked_at asked place) m held
  statement_ready later asked n m out held place ready less room =
      record { inside = omega (arith, ready.inside); called = ready.called; room = room }

module _ (file arguments addresses numbers : List ℕ) (party : ℕ) (s : Statement) where
  abbrev told : List ℕ
  told = disclosed_by_in file arguments addresses numbers party s

  abbrev ends : Bool
  ends = completes_in file arguments addresses numbers s

  abbrev after : List ℕ
  after = places_after_in file arguments addresses numbers s

  abbrev part_told : Expression → List ℕ
  part_told = disclosed_in file arguments addresses numbers party

  abbrev part_ends : Expression → Bool
  part_ends = is_worked_out_in file arguments addresses numbers

  pub skip_disclosed : s ≡ Statement.skip → (out : List ℕ) (at : ℕ) (r : Told) → r.at ≡ at → r.finished ≡ true
      → StatementDisclosed file arguments addresses numbers party s numbers out out at r
  unfolding disclosed_by_in completes_in places_after_in disclosed_by completes places_after
  skip_disclosed h out at r place done =
      record { values = rw (h, place) (appended_nothing out at); end = rw h done; places = λ go. rw h refl }

  -- A field takes a value.
  module _ (f : ℕ) (e : Expression) (h : s ≡ Statement.assign_field f e) where
    field_values : told ≡ part_told e
    unfolding disclosed_by_in disclosed_in disclosed_by
    field_values = ap (disclosed_by_in file arguments addresses numbers party) h

    field_end : ends ≡ part_ends e
    unfolding completes_in is_worked_out_in completes
    field_end = ap (completes_in file arguments addresses numbers) h

    field_places : after ≡ set numbers (position (fields_in file) f 0) (value_in file arguments addresses numbers e)
    unfolding places_after_in value_in places_after
    field_places = ap (places_after_in file arguments addresses numbers) h

    pub field_room : (out : List ℕ) (at : ℕ) → at + length told ≤ length out → at + length (part_told e) ≤ length out
    field_room out at room = rw field_values at room

    pub field_disclosed : (numbers' out last : List ℕ) (at p v : ℕ) (r : Told) → ExpressionDisclosed file arguments addresses numbers party e out last at r
        → v ≡ value_in file arguments addresses numbers e → p ≡ position (fields_in file) f 0 → numbers' ≡ set numbers p v
        → StatementDisclosed file arguments addresses numbers party s numbers' out last at r
    field_disclosed numbers' out last at p v r d same place moved =
        record {
          values = same_appended out last told (part_told e) at r.at field_values d.values;
          end = d.end ∙ sym field_end;
          places = λ go. moved ∙ ap₂ (set numbers) place same ∙ sym field_places;
        }

  -- A mapping's entry takes a value.
  module _ (f : ℕ) (key e : Expression) (h : s ≡ Statement.assign_entry f key e) (out : List ℕ) (at : ℕ) where
    entry_values : told ≡ part_told key ++ cond (part_ends key) (part_told e) []
    unfolding disclosed_by_in disclosed_in is_worked_out_in disclosed_by
    entry_values = ap (disclosed_by_in file arguments addresses numbers party) h

    entry_end : ends ≡ part_ends key && part_ends e
    unfolding completes_in is_worked_out_in completes
    entry_end = ap (completes_in file arguments addresses numbers) h

    entry_places : after ≡ set numbers (position (fields_in file) f (value_in file arguments addresses numbers key)) (value_in file arguments addresses numbers e)
    unfolding places_after_in value_in places_after
    entry_places = ap (places_after_in file arguments addresses numbers) h

    pub key_stopped : (numbers' last : List ℕ) (r : Told) → r.finished ≡ false → ExpressionDisclosed file arguments addresses numbers party key out last at r
        → StatementDisclosed file arguments addresses numbers party s numbers' out last at r
    key_stopped numbers' last r stop d =
        let failed : part_ends key ≡ false = sym d.end ∙ stop in
        record {
          values = appended_stopped out told (part_told key) (part_told e) at (part_ends key) entry_values last r.at failed d.values;
          end = stop ∙ sym (entry_end ∙ rw failed);
          places = failed_places r.finished stop;
        }

    module _ (room : at + length told ≤ length out) where
      pub key_room : at + length (part_told key) ≤ length out
      key_room = room_first out told (part_told key) (part_told e) at (part_ends key) entry_values room

      module _ (between : List ℕ) (k : Told) (first : ExpressionDisclosed file arguments addresses numbers party key out between at k) (go : k.finished ≡ true) where
        worked : part_ends key ≡ true
        worked = sym first.end ∙ go

        pub value_room : k.at + length (part_told e) ≤ length between
        value_room = room_second out told (part_told key) (part_told e) at (part_ends key) entry_values room between k.at first.values worked

        pub entry_disclosed : (numbers' last : List ℕ) (r : Told) (p kv v : ℕ) → ExpressionDisclosed file arguments addresses numbers party e between last k.at r
            → kv ≡ value_in file arguments addresses numbers key → v ≡ value_in file arguments addresses numbers e → p ≡ position (fields_in file) f kv
            → numbers' ≡ set numbers p v → StatementDisclosed file arguments addresses numbers party s numbers' out last at r
        entry_disclosed numbers' last r p kv v d keyed same place moved =
            record {
              values =
                  appended_both out told (part_told key) (part_told e) at (part_ends key) entry_values room between k.at first.values worked last r.at d.values;
              end = d.end ∙ sym (entry_end ∙ rw worked);
              places = λ done. moved ∙ ap₂ (set numbers) (place ∙ ap (position (fields_in file) f) keyed) same ∙ sym entry_places;
            }

  -- "a false require fails the call"
  module _ (condition : Expression) (h : s ≡ Statement.require condition) where
    require_values : told ≡ part_told condition
    unfolding disclosed_by_in disclosed_in disclosed_by
    require_values = ap (disclosed_by_in file arguments addresses numbers party) h

    require_end : ends ≡ part_ends condition && is_true (value_in file arguments addresses numbers condition)
    unfolding completes_in is_worked_out_in value_in completes
    require_end = ap (completes_in file arguments addresses numbers) h

    require_places : after ≡ numbers
    unfolding places_after_in places_after
    require_places = ap (places_after_in file arguments addresses numbers) h

    pub require_room : (out : List ℕ) (at : ℕ) → at + length told ≤ length out → at + length (part_told condition) ≤ length out
    require_room out at room = rw require_values at room

    pub require_disclosed : (out last : List ℕ) (at v : ℕ) (part r : Told) → ExpressionDisclosed file arguments addresses numbers party condition out last at part
        → v ≡ value_in file arguments addresses numbers condition → r.at ≡ part.at → r.finished ≡ part.finished && is_true v
        → StatementDisclosed file arguments addresses numbers party s numbers out last at r
    require_disclosed out last at v part r d same place done =
        record {
          values = rw place (same_appended out last told (part_told condition) at part.at require_values d.values);
          end = done ∙ ap₂ (λ (b : Bool) (x : ℕ). b && is_true x) d.end same ∙ sym require_end;
          places = λ go. sym require_places;
        }

  -- "of an if the condition and the taken branch"
  module _ (condition : Expression) (then else branch : Statement) (h : s ≡ Statement.conditional condition then else) (taken : Bool)
      (is : taken ≡ is_true (value_in file arguments addresses numbers condition)) (chosen : branch ≡ cond taken then else) (out : List ℕ) (at : ℕ) where
    abbrev branch_told : List ℕ
    branch_told = disclosed_by_in file arguments addresses numbers party branch

    abbrev branch_ends : Bool
    branch_ends = completes_in file arguments addresses numbers branch

    pushed : {A : Type 0} (ask : Statement → A) (b : Bool) → cond b (ask then) (ask else) ≡ ask (cond b then else)
    pushed ask true = refl
    pushed ask false = refl

    -- What is asked of the taken branch.
    branch_asked : {A : Type 0} (ask : Statement → A) → cond (is_true (value_in file arguments addresses numbers condition)) (ask then) (ask else) ≡ ask branch
    branch_asked ask =
        pushed ask (is_true (value_in file arguments addresses numbers condition)) ∙ ap (λ (b : Bool). ask (cond b then else)) (sym is) ∙ ap ask (sym chosen)

    conditional_values : told ≡ part_told condition ++ cond (part_ends condition) branch_told []
    unfolding disclosed_by_in disclosed_in is_worked_out_in value_in disclosed_by
    conditional_values =
        ap (disclosed_by_in file arguments addresses numbers party) h
        ∙ ap (λ (l : List ℕ). part_told condition ++ cond (part_ends condition) l []) (branch_asked (disclosed_by_in file arguments addresses numbers party))

    conditional_end : ends ≡ part_ends condition && branch_ends
    unfolding completes_in is_worked_out_in value_in completes
    conditional_end =
        ap (completes_in file arguments addresses numbers) h
        ∙ ap (λ (b : Bool). part_ends condition && b) (branch_asked (completes_in file arguments addresses numbers))

    conditional_places : after ≡ places_after_in file arguments addresses numbers branch
    unfolding places_after_in value_in places_after
    conditional_places = ap (places_after_in file arguments addresses numbers) h ∙ branch_asked (places_after_in file arguments addresses numbers)

    pub condition_stopped : (numbers' last : List ℕ) (r : Told) → r.finished ≡ false → ExpressionDisclosed file arguments addresses numbers party condition out last at r
        → StatementDisclosed file arguments addresses numbers party s numbers' out last at r
    condition_stopped numbers' last r stop d =
        let failed : part_ends condition ≡ false = sym d.end ∙ stop in
        record {
          values = appended_stopped out told (part_told condition) branch_told at (part_ends condition) conditional_values last r.at failed d.values;
          end = stop ∙ sym (conditional_end ∙ rw failed);
          places = failed_places r.finished stop;
        }

    module _ (room : at + length told ≤ length out) where
      pub condition_room : at + length (part_told condition) ≤ length out
      condition_room = room_first out told (part_told condition) branch_told at (part_ends condition) conditional_values room

      module _ (between : List ℕ) (k : Told) (first : ExpressionDisclosed file arguments addresses numbers party condition out between at k) (go : k.finished ≡ true) where
        through : part_ends condition ≡ true
        through = sym first.end ∙ go

        pub branch_room : k.at + length branch_told ≤ length between
        branch_room = room_second out told (part_told condition) branch_told at (part_ends condition) conditional_values room between k.at first.values through

        pub conditional_disclosed : (numbers' last : List ℕ) (r : Told) → StatementDisclosed file arguments addresses numbers party branch numbers' between last k.at r
            → StatementDisclosed file arguments addresses numbers party s numbers' out last at r
        conditional_disclosed numbers' last r d =
            record {
              values =
                  appended_both out told (part_told condition) branch_told at (part_ends condition) conditional_values room between k.at first.values through last
                  r.at d.values;
              end = d.end ∙ sym (conditional_end ∙ rw through);
              places = λ done. d.places done ∙ sym conditional_places;
            }

  -- The second of two statements works on what the first left.
  module _ (one two : Statement) (h : s ≡ Statement.sequence one two) (out : List ℕ) (at : ℕ) where
    abbrev one_told : List ℕ
    one_told = disclosed_by_in file arguments addresses numbers party one

    abbrev one_ends : Bool
    one_ends = completes_in file arguments addresses numbers one

    abbrev moved : List ℕ
    moved = places_after_in file arguments addresses numbers one

    abbrev two_told : List ℕ
    two_told = disclosed_by_in file arguments addresses moved party two

    sequence_values : told ≡ one_told ++ cond one_ends two_told []
    unfolding disclosed_by_in completes_in places_after_in disclosed_by
    sequence_values = ap (disclosed_by_in file arguments addresses numbers party) h

    sequence_end : ends ≡ one_ends && completes_in file arguments addresses moved two
    unfolding completes_in places_after_in completes
    sequence_end = ap (completes_in file arguments addresses numbers) h

    sequence_places : after ≡ places_after_in file arguments addresses moved two
    unfolding places_after_in places_after
    sequence_places = ap (places_after_in file arguments addresses numbers) h

    pub first_stopped : (numbers' last : List ℕ) (r : Told) → r.finished ≡ false → StatementDisclosed file arguments addresses numbers party one numbers' out last at r
        → StatementDisclosed file arguments addresses numbers party s numbers' out last at r
    first_stopped numbers' last r stop d =
        let failed : one_ends ≡ false = sym d.end ∙ stop in
        record {
          values = appended_stopped out told one_told two_told at one_ends sequence_values last r.at failed d.values;
          end = stop ∙ sym (sequence_end ∙ rw failed);
          places = failed_places r.finished stop;
        }

    module _ (room : at + length told ≤ length out) where
      pub one_room : at + length one_told ≤ length out
      one_room = room_first out told one_told two_told at one_ends sequence_values room

      module _ (between later : List ℕ) (k : Told) (first : StatementDisclosed file arguments addresses numbers party one later out between at k)
          (go : k.finished ≡ true) where
        finished : one_ends ≡ true
        finished = sym first.end ∙ go

        pub two_room : k.at + length (disclosed_by_in file arguments addresses later party two) ≤ length between
        two_room =
            rw (first.places go)
            (room_second out told one_told two_told at one_ends sequence_values room between k.at first.values finished)

        pub sequence_disclosed : (numbers' last : List ℕ) (r : Told) → StatementDisclosed file arguments addresses later party two numbers' between last k.at r
            → StatementDisclosed file arguments addresses numbers party s numbers' out last at r
        sequence_disclosed numbers' last r d =
            let same = first.places go in
            record {
              values =
                  appended_both out told one_told two_told at one_ends sequence_values room between k.at first.values finished last r.at (rw same at d.values);
              end = (rw same at d.end) ∙ sym (sequence_end ∙ rw finished);
              places = λ done. (rw same at d.places) done ∙ sym sequence_places;
            }
