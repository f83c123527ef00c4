-- The trees of a file's nodes are narrow: their numbers are bytes, their constants are of their types, and owners have codes by the tables.
use Rattle.std.specs.Prelude.{◌≡◌, ◌&&◌, ◌+◌, ◌*◌, ◌<◌}
use Rattle.kit.specs.Names.{true, List, Option, none, ℕ, leb}
use Rattle.definitions.specs.Basics.{is_zero}
use Rattle.definitions.specs.ContractFile.{Owner, everyone, owned_by, Name, me_name, final_name, parameter_name, Scope, field_at, NodeRecord, nodes_at, node_record, data_type_of, owner_of_code, is_of_type, Kind, constant_kind, me_kind, field_kind, entry_kind, parameter_kind, operator_kind, negation_kind, reveal_kind, skip_kind, sequence_kind, assign_field_kind, assign_entry_kind, require_kind, conditional_kind, no_kind, kind_of, constant_value, node_of_kind, expression_of, statement_of, statement_at}
use Rattle.definitions.specs.Owners.{name_of, place_owner}
use Rattle.definitions.specs.Numbers.{target_in_tables, kind_in_tables}
use Rattle.theory_laws.proofs.Codes.{type_below}
use Rattle.theory_laws.proofs.TruthValues.{and_left, and_right}
use Rattle.theory_trees.specs.Trees.{Keeps}
use Rattle.theory_trees.proofs.Kept.{statement_kept}
use Rattle.file_accepted.specs.Context.{Known, nodes_in, scope_in}
use Rattle.file_accepted.proofs.Nodes.{nodes_keep}
use Rattle.rewrite_event_owners.specs.Listed.{Listed}
use Rattle.rewrite_event_owners.proofs.Owners.{NameListed, place_listed, name_listed_law}
use Rattle.rewrite_event_owners.proofs.Files.{target_listed, scope_listed}
use Rattle.walk_constraints.specs.Numbers.{HasCode}
use Rattle.walk_narrow_trees.specs.Narrow.{Bytes, NarrowExpression, NarrowStatement, CodedScope}

-- A listed owner is told by its code.
coded : (o : Owner) → Listed o → HasCode o
coded everyone h = tt
coded (owned_by me_name) h = tt
coded (owned_by (final_name f)) h = h
coded (owned_by (parameter_name k)) h = tt

record_keeps : (k : Kind) (r : NodeRecord) → kind_in_tables k r ≡ true → r.arg < 256 → Keeps NarrowExpression NarrowStatement (node_of_kind k r)
unfolding kind_in_tables node_of_kind expression_of statement_of NarrowExpression NarrowStatement
record_keeps constant_kind r h b below part =
    let inner = and_left (leb r.arg 2 && is_of_type (data_type_of r.arg) (constant_value r)) (is_zero r.third) h in
    (type_below (data_type_of r.arg) (constant_value r) (and_right (leb r.arg 2) (is_of_type (data_type_of r.arg) (constant_value r)) inner), λ later each. tt)
record_keeps me_kind r h b below part = (tt, λ later each. tt)
record_keeps field_kind r h b below part = (b, λ later each. tt)
record_keeps entry_kind r h b below part = ((b, part r.first), λ later each. tt)
record_keeps parameter_kind r h b below part = (b, λ later each. tt)
record_keeps operator_kind r h b below part = ((part r.first, part r.second), λ later each. tt)
record_keeps negation_kind r h b below part = (part r.first, λ later each. tt)
record_keeps reveal_kind r h b below part =
    let target = and_left (target_in_tables r.arg) _ (and_left _ _ h) in
    ((part r.first, coded (owner_of_code r.arg) (target_listed r.arg target)), λ later each. tt)
record_keeps skip_kind r h b below part = (tt, λ later each. tt)
record_keeps sequence_kind r h b below part = (tt, λ later each. (each r.first, each r.second))
record_keeps assign_field_kind r h b below part = (tt, λ later each. (b, part r.first))
record_keeps assign_entry_kind r h b below part = (tt, λ later each. (b, (part r.first, part r.second)))
record_keeps require_kind r h b below part = (tt, λ later each. part r.first)
record_keeps conditional_kind r h b below part = (tt, λ later each. (part r.first, (each r.second, each r.third)))
record_keeps no_kind r h b below part = (tt, λ later each. tt)

module _ (file : List ℕ) (at : ℕ) (context : Known file at) where
  pub statement_narrow : Bytes file → (levels n : ℕ) → NarrowStatement (statement_at levels (nodes_in file) n)
  unfolding NarrowExpression NarrowStatement
  statement_narrow bytes =
      statement_kept NarrowExpression NarrowStatement tt tt (nodes_in file)
      (nodes_keep NarrowExpression NarrowStatement tt tt file
      (λ n h.
      let r = node_record file (nodes_at file + 2 + 8 * n) in
      record_keeps (kind_of r.kind) r (context.node_listed n h) (bytes.small (nodes_at file + 2 + 8 * n + 1))))

  abbrev scope : Scope
  scope = scope_in file at

  place_coded : (f : ℕ) (key : Option Name) → NameListed key → HasCode (place_owner (field_at scope.fields f).owner key)
  place_coded f key named =
      coded (place_owner (field_at scope.fields f).owner key)
      (place_listed (field_at scope.fields f).owner key ((scope_listed file at context).places f) named)

  pub scope_coded : CodedScope scope
  scope_coded =
      record { field = λ f. place_coded f none tt; entry = λ f key. place_coded f (name_of scope key) (name_listed_law scope (scope_listed file at context) key) }
