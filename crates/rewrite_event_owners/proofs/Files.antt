-- The owners that a file's fields declare and that its reveals name are listed: number 3 lets no other code pass.
use Rattle.std.specs.Prelude.{◌≡◌, ◌&&◌, ◌||◌, ◌+◌, ◌*◌, ◌-◌, ◌<◌, ◌≤◌}
use Rattle.kit.specs.Names.{refl, Bool, true, false, cond, false≢true, List, ℕ, suc, arith, eqb}
use Rattle.kit.specs.Names.{leb, ltb, ltb-true, ltb-false, leb-true, eqb-true}
use Rattle.definitions.specs.ContractFile.{me_name, final_name, parameter_name, everyone, owned_by, to_everyone, to_key, to_final, FieldRecord, NodeRecord, byte_at, field_count, nodes_at, node_record, is_final_code, owner_of_code, field_of, Kind, constant_kind, me_kind, field_kind, entry_kind, parameter_kind, operator_kind, negation_kind, reveal_kind, skip_kind, sequence_kind, assign_field_kind, assign_entry_kind, require_kind, conditional_kind, no_kind, kind_of, node_of_kind, expression_of, statement_of, statement_at}
use Rattle.definitions.specs.Numbers.{field_in_tables, target_in_tables, kind_in_tables}
use Rattle.definitions.specs.Rewriting.{Guard}
use Rattle.theory_laws.proofs.TruthValues.{and_left, and_right}
use Rattle.theory_trees.specs.Trees.{statement_in, Keeps}
use Rattle.theory_trees.proofs.Kept.{statement_kept}
use Rattle.rewrite_events.specs.Events.{statement_events}
use Rattle.file_accepted.specs.Context.{nodes_in, scope_in, field_record_at, Known}
use Rattle.file_accepted.proofs.Declarations.{field_declared, field_missing, parameter_missing}
use Rattle.file_accepted.proofs.Nodes.{nodes_keep}
use Rattle.rewrite_event_owners.specs.Listed.{Listed, owners_listed}
use Rattle.rewrite_event_owners.proofs.Owners.{Declared, ListedScope, targets_listed, targets_listed_in, events_listed}

-- Every code in the tables is below 136.
listed_below : (code : ℕ) (a b c d e : Bool) → leb code 1 ≡ a → ltb code 80 ≡ c → ltb code 136 ≡ e → (a || (b && c) || (d && e)) ≡ true → code < 136
listed_below code true b c d e p q r h = let l = leb-true code 1 p in omega arith
listed_below code false b true d e p q r h = let l = ltb-true code 80 q in omega arith
listed_below code false b false d true p q r h = ltb-true code 136 r
listed_below code false true false true false p q r h = absurd (false≢true h)
listed_below code false true false false false p q r h = absurd (false≢true h)
listed_below code false false false true false p q r h = absurd (false≢true h)
listed_below code false false false false false p q r h = absurd (false≢true h)

pub target_listed : (code : ℕ) → target_in_tables code ≡ true → Listed (owner_of_code code)
target_listed code h =
    go (eqb code 0) (eqb code 1) (is_final_code code) refl (listed_below code (leb code 1) (leb 16 code) (ltb code 80) (leb 128 code) (ltb code 136) refl refl refl h)
  where
    go : (a b c : Bool) → is_final_code code ≡ c → code < 136
        → Listed (cond a everyone (cond b (owned_by me_name) (cond c (owned_by (final_name (code - 16))) (owned_by (parameter_name (code - 128))))))
    go true b c e l = tt
    go false true c e l = tt
    go false false true e l = let m = ltb-true code 80 (and_right (leb 16 code) (ltb code 80) e) in omega arith
    go false false false e l = omega arith

-- A declared owner is 0, 2 or below 80.
declared_below : (code : ℕ) (a b c d e : Bool) → eqb code 0 ≡ a → ltb code 80 ≡ c → eqb code 2 ≡ d → (a || (b && c) || (d && e)) ≡ true → code < 80
declared_below code true b c d e p q r h = let l = eqb-true code 0 p in omega arith
declared_below code false b true d e p q r h = ltb-true code 80 q
declared_below code false b false true e p q r h = let l = eqb-true code 2 r in omega arith
declared_below code false true false false e p q r h = absurd (false≢true h)
declared_below code false false false false e p q r h = absurd (false≢true h)

declared_listed : (r : FieldRecord) → field_in_tables r ≡ true → Declared (field_of r).owner
unfolding field_in_tables field_of
declared_listed r h =
    let owner = r.owner in
    let owners = eqb owner 0 || is_final_code owner || (eqb owner 2 && eqb r.shape 2) in
    let listed = and_right (leb r.shape 2 && leb r.type 2) owners (and_left (leb r.shape 2 && leb r.type 2 && owners) _ h) in
    go owner (eqb owner 0) (eqb owner 2) (declared_below owner (eqb owner 0) (leb 16 owner) (ltb owner 80) (eqb owner 2) (eqb r.shape 2) refl refl refl listed)
  where
    go : (code : ℕ) (a b : Bool) → code < 80 → Declared (cond a to_everyone (cond b to_key (to_final (code - 16))))
    go code true b l = tt
    go code false true l = tt
    go code false false l = omega arith

kind_keeps : (k : Kind) (r : NodeRecord) → kind_in_tables k r ≡ true → Keeps targets_listed targets_listed_in (node_of_kind k r)
unfolding kind_in_tables node_of_kind expression_of statement_of targets_listed targets_listed_in
kind_keeps constant_kind r h below part = (tt, λ later each. tt)
kind_keeps me_kind r h below part = (tt, λ later each. tt)
kind_keeps field_kind r h below part = (tt, λ later each. tt)
kind_keeps entry_kind r h below part = (part r.first, λ later each. tt)
kind_keeps parameter_kind r h below part = (tt, λ later each. tt)
kind_keeps operator_kind r h below part = ((part r.first, part r.second), λ later each. tt)
kind_keeps negation_kind r h below part = (part r.first, λ later each. tt)
kind_keeps reveal_kind r h below part =
    ((target_listed r.arg (and_left (target_in_tables r.arg) _ (and_left _ _ h)), part r.first), λ later each. tt)
kind_keeps skip_kind r h below part = (tt, λ later each. tt)
kind_keeps sequence_kind r h below part = (tt, λ later each. (each r.first, each r.second))
kind_keeps assign_field_kind r h below part = (tt, λ later each. part r.first)
kind_keeps assign_entry_kind r h below part = (tt, λ later each. (part r.first, part r.second))
kind_keeps require_kind r h below part = (tt, λ later each. part r.first)
kind_keeps conditional_kind r h below part = (tt, λ later each. (part r.first, (each r.second, each r.third)))
kind_keeps no_kind r h below part = (tt, λ later each. tt)

-- A number is below a count or not.
below_or_not : {A : Type 0} (n count : ℕ) → (n < count → A) → (count ≤ n → A) → A
below_or_not {A} n count inside past = go (ltb n count) refl
  where
    go : (b : Bool) → ltb n count ≡ b → A
    go true e = inside (ltb-true n count e)
    go false e = past (ltb-false n count e)

module _ (file : List ℕ) (at : ℕ) (context : Known file at) where
  targets_listed_law : (levels n : ℕ) → targets_listed_in (statement_at levels (nodes_in file) n)
  unfolding targets_listed targets_listed_in
  targets_listed_law =
      statement_kept targets_listed targets_listed_in tt tt (nodes_in file)
      (nodes_keep targets_listed targets_listed_in tt tt file
      (λ n h. kind_keeps (kind_of (byte_at file (nodes_at file + 2 + 8 * n))) (node_record file (nodes_at file + 2 + 8 * n)) (context.node_listed n h)))

  pub scope_listed : ListedScope (scope_in file at)
  scope_listed =
      record {
        places = λ f. below_or_not f (field_count file) (λ h. rw (field_declared file f h) (declared_listed (field_record_at file f) (context.field_listed f h))) (λ h. rw (field_missing file f h) tt);
        finals = λ f final.
            below_or_not f (field_count file) (λ h. omega (arith, context.few_fields)) (λ h. absurd (false≢true (rw (field_missing file f h) at final)));
        parameters = λ k public.
            below_or_not k (byte_at file at) (λ h. omega (arith, context.few_parameters)) (λ h. absurd (false≢true (rw (parameter_missing file at k h) at public)));
      }

  pub owners_listed_law : (n : ℕ) (g : Guard) (i : ℕ) → owners_listed (statement_events (scope_in file at) (statement_in (nodes_in file) n) g i)
  owners_listed_law n g i = events_listed (scope_in file at) scope_listed (statement_in (nodes_in file) n) g i (targets_listed_law (suc n) n)
