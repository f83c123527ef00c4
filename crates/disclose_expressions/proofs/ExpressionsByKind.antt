-- What an expression discloses by its kind, as code learns it from what its parts disclose.
use Rattle.std.specs.Prelude.{◌≡◌, ◌&&◌, ◌∷◌, ◌++◌, ◌+◌, ◌<◌, ◌≤◌}
use Rattle.kit.specs.Names.{refl, ap, sym, ◌∙◌, Bool, true, false, cond, List, [], ℕ, arith, eqb}
use Rattle.kit.specs.Names.{length, eqb-true, eqb-false}
use Rattle.definitions.specs.ContractFile.{me_name, Owner, Operator, Expression, NodeRecord, node_count}
use Rattle.definitions.specs.Original.{is_worked_out, operates, may_read, reader_of, disclosed}
use Rattle.theory_trees.specs.Trees.{expression_in}
use Rattle.memory_append.specs.Append.{Appended}
use Rattle.memory_append.proofs.Appending.{appended_nothing}
use Rattle.file_decoded.specs.Slices.{record_at}
use Rattle.file_accepted.specs.Context.{Context, nodes_in}
use Rattle.theory_trees.proofs.ByKind.{constant_is, field_is, parameter_is, other_is}
use Rattle.file_accepted.proofs.Nodes.{node_reads}
use Rattle.ledger_circuits.specs.Circuits.{address_from}
use Rattle.honest_values.specs.Values.{value_of}
use Rattle.honest_values.proofs.Addresses.{value_is}
use Rattle.disclose_expressions.specs.declared.Asked.{Asked}
use Rattle.disclose_expressions.specs.declared.Told.{Told}
use Rattle.disclose_expressions.specs.Expressions.{value_in, is_worked_out_in, disclosed_in, ExpressionReady, ExpressionDisclosed}
use Rattle.disclose_expressions.proofs.InTurn.{same_appended, appended_stopped, appended_both, room_first, room_second}

-- The same is asked, and the next value goes elsewhere.
abbrev pub asked_at : Asked → ℕ → Asked
asked_at asked place = record { caller = asked.caller; party = asked.party; at = place }

module _ (file arguments addresses numbers : List ℕ) where
  -- Of all addresses the value of an expression asks the caller's alone.
  pub value_here : (caller v : ℕ) (e : Expression) → address_from addresses me_name ≡ caller → v ≡ value_of file arguments caller numbers e
      → v ≡ value_in file arguments addresses numbers e
  unfolding value_in
  value_here caller v e same worked = worked ∙ sym (value_is file (address_from addresses) arguments caller same numbers e)

  -- A part of a node that can be worked out can be too.
  pub ready_part : (asked : Asked) (n m : ℕ) (out held : List ℕ) (place : ℕ) → ExpressionReady file arguments addresses numbers asked n out → m < n
      → place + length (disclosed_in file arguments addresses numbers asked.party (expression_in (nodes_in file) m)) ≤ length held
      → ExpressionReady file arguments addresses numbers (asked_at asked place) m held
  ready_part asked n m out held place ready less room =
      record { inside = omega (arith, ready.inside); called = ready.called; room = room }

  module _ (party : ℕ) where
    abbrev told : Expression → List ℕ
    told = disclosed_in file arguments addresses numbers party

    abbrev ends : Expression → Bool
    ends = is_worked_out_in file arguments addresses numbers

    -- An expression that discloses just what its one part does.
    pub record Like (e part : Expression) : Type 0 where
      pub values : told e ≡ told part
      pub end : ends e ≡ ends part

    pub entry_like : (f : ℕ) (key e : Expression) → e ≡ Expression.entry f key → Like e key
    unfolding disclosed_in is_worked_out_in disclosed is_worked_out
    entry_like f key e h = record { values = ap told h; end = ap ends h }

    pub negation_like : (part e : Expression) → e ≡ Expression.negation part → Like e part
    unfolding disclosed_in is_worked_out_in disclosed is_worked_out
    negation_like part e h = record { values = ap told h; end = ap ends h }

    pub like_room : (e part : Expression) (out : List ℕ) (at : ℕ) → Like e part → at + length (told e) ≤ length out → at + length (told part) ≤ length out
    like_room e part out at like room = rw like.values at room

    pub like_disclosed : (e part : Expression) (before after : List ℕ) (at : ℕ) (r : Told) → Like e part
        → ExpressionDisclosed file arguments addresses numbers party part before after at r
        → ExpressionDisclosed file arguments addresses numbers party e before after at r
    like_disclosed e part before after at r like d =
        record {
          values = same_appended before after (told e) (told part) at r.at like.values d.values;
          end = d.end ∙ sym like.end;
        }

    -- An expression without parts discloses nothing.
    pub record Silent (e : Expression) : Type 0 where
      pub values : told e ≡ []
      pub end : ends e ≡ true

    constant_silent : (e f : Expression) → e ≡ f → told f ≡ [] → ends f ≡ true → Silent e
    constant_silent e f h values end = record { values = ap told h ∙ values; end = ap ends h ∙ end }

    pub silent_disclosed : (e : Expression) (before : List ℕ) (at : ℕ) (r : Told) → r.at ≡ at → r.finished ≡ true → Silent e
        → ExpressionDisclosed file arguments addresses numbers party e before before at r
    silent_disclosed e before at r place done silent =
        record { values = rw (place, silent.values) (appended_nothing before at); end = done ∙ sym silent.end }

    module _ (function_start : ℕ) (source : List ℕ) (context : Context file function_start source) (n : ℕ) (inside : n < node_count file) (r : NodeRecord)
        (same : r ≡ record_at source n) (entry : r.kind ≡ 4 → ⊥) (operator : r.kind ≡ 6 → ⊥) (negation : r.kind ≡ 7 → ⊥)
        (reveal : r.kind ≡ 8 → ⊥) where
      abbrev here : Expression
      here = expression_in (nodes_in file) n

      pub silent_is : Silent here
      unfolding disclosed_in is_worked_out_in disclosed is_worked_out
      silent_is = first (eqb r.kind 1) refl
        where
          third : (eqb r.kind 1 ≡ false) → (eqb r.kind 3 ≡ false) → (test : Bool) → eqb r.kind 5 ≡ test → Silent here
          third a b true e = constant_silent here _ (parameter_is (node_reads file function_start source context n inside r same) (eqb-true r.kind 5 e)) refl refl
          third a b false e =
              constant_silent here _
              (other_is (node_reads file function_start source context n inside r same)
              (record {
                constant = eqb-false r.kind 1 a;
                field = eqb-false r.kind 3 b;
                entry = entry;
                parameter = eqb-false r.kind 5 e;
                operator = operator;
                negation = negation;
                reveal = reveal;
              })) refl refl

          second : (eqb r.kind 1 ≡ false) → (test : Bool) → eqb r.kind 3 ≡ test → Silent here
          second a true e = constant_silent here _ (field_is (node_reads file function_start source context n inside r same) (eqb-true r.kind 3 e)) refl refl
          second a false e = third a e (eqb r.kind 5) refl

          first : (test : Bool) → eqb r.kind 1 ≡ test → Silent here
          first true e = constant_silent here _ (constant_is (node_reads file function_start source context n inside r same) (eqb-true r.kind 1 e)) refl refl
          first false e = second e (eqb r.kind 3) refl

    -- "Both operands are always worked out, left first."
    module _ (o : Operator) (left right e : Expression) (h : e ≡ Expression.operator o left right) (before : List ℕ) (at : ℕ) where
      operator_values : told e ≡ told left ++ cond (ends left) (told right) []
      unfolding disclosed_in is_worked_out_in disclosed
      operator_values = ap told h

      operator_end : ends e ≡ ends left && ends right && operates o (value_in file arguments addresses numbers right)
      unfolding is_worked_out_in value_in is_worked_out
      operator_end = ap ends h

      pub left_stopped : (after : List ℕ) (r : Told) → r.finished ≡ false
          → ExpressionDisclosed file arguments addresses numbers party left before after at r
          → ExpressionDisclosed file arguments addresses numbers party e before after at r
      left_stopped after r stop d =
          let failed : ends left ≡ false = sym d.end ∙ stop in
          record {
            values = appended_stopped before (told e) (told left) (told right) at (ends left) operator_values after r.at failed d.values;
            end = stop ∙ sym (operator_end ∙ rw failed);
          }

      module _ (room : at + length (told e) ≤ length before) where
        pub left_room : at + length (told left) ≤ length before
        left_room = room_first before (told e) (told left) (told right) at (ends left) operator_values room

        module _ (between : List ℕ) (l : Told) (first : ExpressionDisclosed file arguments addresses numbers party left before between at l) (go : l.finished ≡ true) where
          worked : ends left ≡ true
          worked = sym first.end ∙ go

          pub right_room : l.at + length (told right) ≤ length between
          right_room = room_second before (told e) (told left) (told right) at (ends left) operator_values room between l.at first.values worked

          both_values : (after : List ℕ) (end : ℕ) → Appended between after l.at (told right) end → Appended before after at (told e) end
          both_values after end a =
              appended_both before (told e) (told left) (told right) at (ends left) operator_values room between l.at first.values worked after end a

          pub right_stopped : (after : List ℕ) (r : Told) → r.finished ≡ false
              → ExpressionDisclosed file arguments addresses numbers party right between after l.at r
              → ExpressionDisclosed file arguments addresses numbers party e before after at r
          right_stopped after r stop d =
              let failed : ends right ≡ false = sym d.end ∙ stop in
              record { values = both_values after r.at d.values; end = stop ∙ sym (operator_end ∙ rw (worked, failed)) }

          pub operator_disclosed : (after : List ℕ) (s r : Told) (divisor : ℕ) → s.finished ≡ true
              → ExpressionDisclosed file arguments addresses numbers party right between after l.at s
              → divisor ≡ value_in file arguments addresses numbers right → r.at ≡ s.at → r.finished ≡ operates o divisor
              → ExpressionDisclosed file arguments addresses numbers party e before after at r
          operator_disclosed after s r divisor done d same place end =
              let through : ends right ≡ true = sym d.end ∙ done in
              record {
                values = rw place (both_values after s.at d.values);
                end = end ∙ ap (operates o) same ∙ sym (operator_end ∙ rw (worked, through));
              }

    -- A reveal adds its value once its part is worked out.
    module _ (o : Owner) (part e : Expression) (h : e ≡ Expression.reveal part o) (before : List ℕ) (at : ℕ) where
      abbrev tells : Bool
      tells = may_read party (reader_of (address_from addresses) o)

      reveal_values : told e ≡ told part ++ cond (ends part && tells) (value_in file arguments addresses numbers part ∷ []) []
      unfolding disclosed_in is_worked_out_in value_in disclosed
      reveal_values = ap told h

      reveal_end : ends e ≡ ends part
      unfolding is_worked_out_in is_worked_out
      reveal_end = ap ends h

      nothing_added : (after : List ℕ) (r : Told) → ends part && tells ≡ false
          → ExpressionDisclosed file arguments addresses numbers party part before after at r
          → ExpressionDisclosed file arguments addresses numbers party e before after at r
      nothing_added after r silent d =
          record {
            values =
                appended_stopped before (told e) (told part) (value_in file arguments addresses numbers part ∷ []) at (ends part && tells) reveal_values after r.at silent
                d.values;
            end = d.end ∙ sym reveal_end;
          }

      pub part_stopped : (after : List ℕ) (r : Told) → r.finished ≡ false
          → ExpressionDisclosed file arguments addresses numbers party part before after at r
          → ExpressionDisclosed file arguments addresses numbers party e before after at r
      part_stopped after r stop d = nothing_added after r (rw (sym d.end ∙ stop) refl) d

      pub reveal_hidden : (after : List ℕ) (r : Told) → r.finished ≡ true → tells ≡ false
          → ExpressionDisclosed file arguments addresses numbers party part before after at r
          → ExpressionDisclosed file arguments addresses numbers party e before after at r
      reveal_hidden after r done hidden d = nothing_added after r (rw (sym d.end ∙ done, hidden) refl) d

      module _ (room : at + length (told e) ≤ length before) where
        pub part_room : at + length (told part) ≤ length before
        part_room =
            room_first before (told e) (told part) (value_in file arguments addresses numbers part ∷ []) at (ends part && tells) reveal_values room

        module _ (between : List ℕ) (p : Told) (first : ExpressionDisclosed file arguments addresses numbers party part before between at p) (done : p.finished ≡ true)
            (shown : tells ≡ true) where
          both_true : ends part && tells ≡ true
          both_true = rw (sym first.end ∙ done, shown) refl

          pub value_room : p.at + 1 ≤ length between
          value_room =
              room_second before (told e) (told part) (value_in file arguments addresses numbers part ∷ []) at (ends part && tells) reveal_values room between p.at
              first.values both_true

          pub reveal_disclosed : (after : List ℕ) (r : Told) (v : ℕ) → v ≡ value_in file arguments addresses numbers part
              → Appended between after p.at (v ∷ []) r.at → r.finished ≡ true
              → ExpressionDisclosed file arguments addresses numbers party e before after at r
          reveal_disclosed after r v same a end =
              record {
                values =
                    appended_both before (told e) (told part) (value_in file arguments addresses numbers part ∷ []) at (ends part && tells) reveal_values room between p.at
                    first.values both_true after r.at (rw same at a);
                end = end ∙ sym (reveal_end ∙ sym first.end ∙ done);
              }
