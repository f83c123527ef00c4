-- What a node names is there: fields, an owner's name; a condition that is no operator gives no links.
use Rattle.std.specs.Prelude.{◌≡◌, ◌&&◌, ◌+◌, ◌*◌, ◌/◌, ◌<◌, ◌≤◌, ◌∷◌}
use Rattle.kit.specs.Names.{refl, ap, ◌∙◌, Bool, true, false, cond, List, [], ℕ, eqb, leb, length}
use Rattle.kit.specs.Names.{leb-true, leb-false, ne_eqb}
use Rattle.definitions.specs.Basics.{any, is_zero}
use Rattle.definitions.specs.ContractFile.{Expression, Scope, NodeRecord, data_type_of, owner_of_code, field_of_owner, is_of_type, Kind, kind_of, node_of, node_of_kind, constant_value, fields_named, expression_of}
use Rattle.definitions.specs.Numbers.{node_in_tables, kind_in_tables, target_in_tables}
use Rattle.definitions.specs.Owners.{Links, links_of_condition}
use Rattle.theory_laws.proofs.TruthValues.{and_left, or_left}
use Rattle.theory_trees.specs.Trees.{expression_in}
use Rattle.theory_trees.proofs.ByKind.{expression_read}
use Rattle.file_decoded.specs.Slices.{node_from}
use Rattle.rules_owners.specs.Numbering.{number_of_owner}
use Rattle.rules_owners.proofs.Numbering.{target_below}
use Rattle.rules_scopes.specs.Trees.{nodes_in}
use Rattle.rules_scopes.specs.Scopes.{NodesReady}
use Rattle.rules_scopes.proofs.Nodes.{node_reads}

first_below : (n m : ℕ) (rest : List ℕ) → any (leb n) (m ∷ rest) ≡ false → m < n
unfolding any
first_below n m rest h = leb-false n m (or_left (leb n m) (any (leb n) rest) h)

module _ (r : NodeRecord) (below : ℕ → Expression) (scope : Scope) (linked : Links) where
  data Quiet (kind : Kind) : Type 0 where
    is : links_of_condition scope (expression_of (node_of_kind kind r) below) linked ≡ linked → Quiet kind

  or : (n : ℕ) {this that : Kind} → Quiet this → Quiet that → Quiet (cond (eqb r.kind n) this that)
  or n {this} {that} h k = go (eqb r.kind n)
    where
      go : (b : Bool) → Quiet (cond b this that)
      go true = h
      go false = k

  other_condition : (r.kind ≡ 6 → ⊥) → links_of_condition scope (expression_of (node_of r) below) linked ≡ linked
  unfolding kind_of node_of_kind expression_of links_of_condition
  other_condition h = rw (ne_eqb _ _ h) (links
      (or 1 (is refl) (or 2 (is refl) (or 3 (is refl) (or 4 (is refl) (or 5 (is refl) (or 7 (is refl) (or 8 (is refl) (or 16 (is refl) (or 17 (is refl)
      (or 18 (is refl) (or 19 (is refl) (or 20 (is refl) (or 21 (is refl) (is refl)))))))))))))))
    where
      links : {kind : Kind} → Quiet kind → links_of_condition scope (expression_of (node_of_kind kind r) below) linked ≡ linked
      links (is e) = e

module _ (fields nodes : List ℕ) (ready : NodesReady fields nodes) (n : ℕ) (inside : n < length nodes / 5) (r : NodeRecord) (same : r ≡ node_from nodes (5 * n)) where
  pub no_links_learnt : (scope : Scope) (linked : Links) → (r.kind ≡ 6 → ⊥) → links_of_condition scope (expression_in (nodes_in nodes) n) linked ≡ linked
  no_links_learnt scope linked h =
      ap (λ e. links_of_condition scope e linked) (expression_read (node_reads fields nodes ready n inside r same))
      ∙ other_condition r (expression_in (nodes_in nodes)) scope linked h

  field_below : any (leb (length fields / 3)) (fields_named (node_of r)) ≡ false
  field_below = rw same (ready.named n inside)

  in_tables : node_in_tables r ≡ true
  in_tables = rw same (ready.listed n inside)

  pub field_there : r.kind ≡ 3 → r.arg < length fields / 3
  unfolding kind_of node_of_kind fields_named
  field_there e = first_below (length fields / 3) r.arg [] (rw e at field_below)

  pub mapping_there : r.kind ≡ 4 → r.arg < length fields / 3
  unfolding kind_of node_of_kind fields_named
  mapping_there e = first_below (length fields / 3) r.arg [] (rw e at field_below)

  pub put_there : r.kind ≡ 18 → r.arg < length fields / 3
  unfolding kind_of node_of_kind fields_named
  put_there e = first_below (length fields / 3) r.arg [] (rw e at field_below)

  pub entry_there : r.kind ≡ 19 → r.arg < length fields / 3
  unfolding kind_of node_of_kind fields_named
  entry_there e = first_below (length fields / 3) r.arg [] (rw e at field_below)

  pub constant_listed : r.kind ≡ 1 → r.arg ≤ 2
  unfolding kind_of kind_in_tables
  constant_listed e =
      let here : kind_in_tables (kind_of 1) r ≡ true = rw e at in_tables in
      leb-true r.arg 2 (and_left (leb r.arg 2) (is_of_type (data_type_of r.arg) (constant_value r))
      (and_left (leb r.arg 2 && is_of_type (data_type_of r.arg) (constant_value r)) (is_zero r.third) here))

  pub target_listed : r.kind ≡ 8 → target_in_tables r.arg ≡ true
  unfolding kind_of kind_in_tables
  target_listed e =
      let here : kind_in_tables (kind_of 8) r ≡ true = rw e at in_tables in
      and_left (target_in_tables r.arg) (is_zero r.second) (and_left (target_in_tables r.arg && is_zero r.second) (is_zero r.third) here)

  pub target_there : r.kind ≡ 8 → number_of_owner (owner_of_code r.arg) < 10 + length fields / 3
  unfolding kind_of node_of_kind fields_named
  target_there e =
      let none : any (leb (length fields / 3)) (field_of_owner (owner_of_code r.arg)) ≡ false = rw e at field_below in
      target_below r.arg (target_listed e) (length fields / 3) none
