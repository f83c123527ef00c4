-- The name that a node's expression is, by its kind.
use Rattle.std.specs.Prelude.{◌≡◌, ◌⊎◌, ◌+◌, ◌*◌, ◌/◌, ◌<◌}
use Rattle.kit.specs.Names.{refl, inl, inr, List, [], ℕ, arith, length}
use Rattle.definitions.specs.ContractFile.{NodeRecord}
use Rattle.definitions.specs.Owners.{name_of}
use Rattle.theory_trees.specs.Trees.{expression_in, Reads}
use Rattle.file_decoded.specs.Slices.{node_from}
use Rattle.rules_owners.specs.Numbering.{name_with}
use Rattle.rules_links.specs.Classes.{linked_by}
use Rattle.rules_scopes.specs.Trees.{nodes_in}
use Rattle.rules_scopes.specs.Scopes.{field_on, parameter_on, scope_from, IsField, IsParameter, Ready}
use Rattle.rules_scopes.specs.declared.Declared.{Declared}
use Rattle.rules_scopes.specs.declared.Given.{Given}
use Rattle.theory_trees.proofs.ByKind as trees
use Rattle.rules_scopes.proofs.Nodes.{node_reads}
use Rattle.rules_scopes.proofs.Named.{field_there}
use Rattle.rules_judgements.specs.Judging.{final_name_number, argument_name}
use Rattle.rules_judgements.proofs.Judging.{field_is, parameter_is}

module _ (fields parameters nodes : List ℕ) (ready : Ready fields parameters nodes (10 + length fields / 3)) (n : ℕ) (inside : n < length nodes / 5) (r : NodeRecord)
    (same : r ≡ node_from nodes (5 * n)) where
  abbrev Named : ℕ → Type 0
  Named name = (name_of (scope_from fields parameters) (expression_in (nodes_in nodes) n) ≡ name_with name) × (name < 10 + length fields / 3)

  reads : Reads (nodes_in nodes) n r
  reads = node_reads fields nodes ready.bodies n inside r same

  pub nothing_named : ((r.kind ≡ 1) ⊎ ((r.kind ≡ 6) ⊎ (r.kind ≡ 8))) ⊎ ((r.kind ≡ 4) ⊎ (r.kind ≡ 7)) → Named 0
  unfolding name_of
  nothing_named (inl (inl e)) = (rw (trees.constant_is reads e), omega arith)
  nothing_named (inl (inr (inl e))) = (rw (trees.operator_is reads e), omega arith)
  nothing_named (inl (inr (inr e))) = (rw (trees.reveal_is reads e), omega arith)
  nothing_named (inr (inl e)) = (rw (trees.entry_is reads e), omega arith)
  nothing_named (inr (inr e)) = (rw (trees.negation_is reads e), omega arith)

  pub field_named : (d : Declared) (name : ℕ) → r.kind ≡ 3 → IsField (length fields / 3) (field_on fields r.arg) d → name ≡ final_name_number r.arg d → Named name
  field_named d name e i j =
      let there = field_there fields nodes ready.bodies n inside r same e in
      let is = field_is (scope_from fields parameters) (linked_by []) (10 + length fields / 3) (omega arith) (length fields / 3) r.arg d (omega arith) (omega arith) i in
      (rw (j, trees.field_is reads e) is.name, rw j is.name_listed)

  pub parameter_named : (g : Given) (name : ℕ) → r.kind ≡ 5 → IsParameter r.arg (parameter_on parameters r.arg) g → name ≡ argument_name r.arg g → Named name
  parameter_named g name e i j =
      let is = parameter_is (scope_from fields parameters) (linked_by []) (10 + length fields / 3) (omega arith) r.arg _ g refl i in
      (rw (j, trees.parameter_is reads e) is.name, rw j is.name_listed)

  pub me_named : (r.kind ≡ 3 → ⊥) → (r.kind ≡ 5 → ⊥) → ((r.kind ≡ 1) ⊎ ((r.kind ≡ 6) ⊎ (r.kind ≡ 8)) → ⊥)
      → ((r.kind ≡ 4) ⊎ (r.kind ≡ 7) → ⊥) → Named 1
  unfolding name_of
  me_named h3 h5 h h' =
      let unlisted : trees.Unlisted r.kind = record {
        constant = λ e. h (inl e);
        field = h3;
        entry = λ e. h' (inl e);
        parameter = h5;
        operator = λ e. h (inr (inl e));
        negation = λ e. h' (inr e);
        reveal = λ e. h (inr (inr e));
      } in
      (rw (trees.other_is reads unlisted), omega arith)
