-- What a node's number stands for as a body, a circuit or a command, by the node's kind, and that its children's numbers are below it.
use Rattle.std.specs.Prelude.{◌≡◌, ◌||◌, ◌+◌, ◌*◌, ◌<◌}
use Rattle.kit.specs.Names.{refl, ap, ◌∙◌, Bool, true, false, cond, List, ℕ, eqb, ne_eqb}
use Rattle.definitions.specs.ContractFile.{NodeRecord, data_type_of, operator_of}
use Rattle.definitions.specs.Rewriting.{BodyExpression, Circuit, Command, Tree}
use Rattle.write_trees.specs.Trees.{Form, leaf_form, one_form, two_form, three_form, setting_form, form_of, record_at, tree_of, tree_in, FallsBy, Falling, body_of, circuit_of, command_of, body_in, circuit_in, command_in}
use Rattle.write_trees.proofs.Unfolding.{tree_unfolds}

-- A kind that no expression of a body has, but perhaps me's.
pub record NoBody (kind : ℕ) : Type 0 where
  pub constant : kind ≡ 1 → ⊥
  pub field : kind ≡ 3 → ⊥
  pub entry : kind ≡ 4 → ⊥
  pub parameter : kind ≡ 5 → ⊥
  pub operator : kind ≡ 6 → ⊥
  pub negation : kind ≡ 7 → ⊥
  pub variable : kind ≡ 9 → ⊥

pub record NoCircuit (kind : ℕ) : Type 0 where
  pub constant : kind ≡ 1 → ⊥
  pub operator : kind ≡ 6 → ⊥
  pub negation : kind ≡ 7 → ⊥
  pub variable : kind ≡ 9 → ⊥
  pub opened : kind ≡ 10 → ⊥

-- A kind that no command has, but perhaps skip's.
pub record NoCommand (kind : ℕ) : Type 0 where
  pub sequence : kind ≡ 17 → ⊥
  pub assign_field : kind ≡ 18 → ⊥
  pub assign_entry : kind ≡ 19 → ⊥
  pub require : kind ≡ 20 → ⊥
  pub conditional : kind ≡ 21 → ⊥
  pub set_variable : kind ≡ 22 → ⊥
  pub verify : kind ≡ 23 → ⊥

no_body : (form : Form) (r : NodeRecord) (below : ℕ → Tree) → NoBody r.kind → body_of (tree_of form r below) ≡ BodyExpression.me
unfolding tree_of body_of
no_body leaf_form r below h =
    rw (ne_eqb r.kind 1 h.constant, ne_eqb r.kind 3 h.field, ne_eqb r.kind 5 h.parameter, ne_eqb r.kind 9 h.variable)
no_body one_form r below h = rw (ne_eqb r.kind 4 h.entry, ne_eqb r.kind 7 h.negation)
no_body two_form r below h = rw (ne_eqb r.kind 6 h.operator)
no_body three_form r below h = refl
no_body setting_form r below h = refl

no_circuit : (form : Form) (r : NodeRecord) (below : ℕ → Tree) → NoCircuit r.kind → circuit_of (tree_of form r below) ≡ Circuit.me
unfolding tree_of circuit_of
no_circuit leaf_form r below h = rw (ne_eqb r.kind 1 h.constant, ne_eqb r.kind 9 h.variable, ne_eqb r.kind 10 h.opened)
no_circuit one_form r below h = rw (ne_eqb r.kind 7 h.negation)
no_circuit two_form r below h = rw (ne_eqb r.kind 6 h.operator)
no_circuit three_form r below h = refl
no_circuit setting_form r below h = refl

no_command : (one two : Bool) (r : NodeRecord) (below : ℕ → Tree) → NoCommand r.kind
    → command_of (tree_of (cond one one_form (cond two two_form leaf_form)) r below) ≡ Command.skip
unfolding tree_of command_of
no_command true two r below h = rw (ne_eqb r.kind 18 h.assign_field, ne_eqb r.kind 20 h.require)
no_command false true r below h = rw (ne_eqb r.kind 17 h.sequence, ne_eqb r.kind 19 h.assign_entry)
no_command false false r below h = rw (ne_eqb r.kind 23 h.verify)

no_command_form : (kind : ℕ) → NoCommand kind
    → form_of kind ≡ cond (eqb kind 4 || eqb kind 7 || eqb kind 18 || eqb kind 20) one_form (cond (eqb kind 6 || eqb kind 17 || eqb kind 19) two_form leaf_form)
unfolding form_of
no_command_form kind h = rw (ne_eqb kind 21 h.conditional, ne_eqb kind 22 h.set_variable)

module _ (nodes : List NodeRecord) (falling : Falling nodes) (n : ℕ) (r : NodeRecord) (here : record_at nodes n ≡ r) where
  tree_is : tree_in nodes n ≡ tree_of (form_of r.kind) r (tree_in nodes)
  tree_is = tree_unfolds nodes falling n ∙ ap (λ (q : NodeRecord). tree_of (form_of q.kind) q (tree_in nodes)) here

  form_is : (form : Form) → form_of r.kind ≡ form → tree_in nodes n ≡ tree_of form r (tree_in nodes)
  form_is form e = tree_is ∙ ap (λ (f : Form). tree_of f r (tree_in nodes)) e

  falls_by : (form : Form) → form_of r.kind ≡ form → FallsBy n form r
  falls_by form e = rw (here, e) at (falling.below n)

  pub body_constant : r.kind ≡ 1 → body_in nodes n ≡ BodyExpression.constant (data_type_of r.arg) (r.first + 65536 * r.second)
  unfolding form_of tree_of body_of
  body_constant e = ap body_of (form_is leaf_form (rw e)) ∙ (rw e)

  pub body_field : r.kind ≡ 3 → body_in nodes n ≡ BodyExpression.field r.arg
  unfolding form_of tree_of body_of
  body_field e = ap body_of (form_is leaf_form (rw e)) ∙ (rw e)

  pub body_entry : r.kind ≡ 4 → body_in nodes n ≡ BodyExpression.entry r.arg (body_in nodes r.first)
  unfolding form_of tree_of body_of
  body_entry e = ap body_of (form_is one_form (rw e)) ∙ (rw e)

  pub body_parameter : r.kind ≡ 5 → body_in nodes n ≡ BodyExpression.parameter r.arg
  unfolding form_of tree_of body_of
  body_parameter e = ap body_of (form_is leaf_form (rw e)) ∙ (rw e)

  pub body_operator : r.kind ≡ 6 → body_in nodes n ≡ BodyExpression.operator (operator_of r.arg) (body_in nodes r.first) (body_in nodes r.second)
  unfolding form_of tree_of body_of
  body_operator e = ap body_of (form_is two_form (rw e)) ∙ (rw e)

  pub body_negation : r.kind ≡ 7 → body_in nodes n ≡ BodyExpression.negation (body_in nodes r.first)
  unfolding form_of tree_of body_of
  body_negation e = ap body_of (form_is one_form (rw e)) ∙ (rw e)

  pub body_variable : r.kind ≡ 9 → body_in nodes n ≡ BodyExpression.variable r.first
  unfolding form_of tree_of body_of
  body_variable e = ap body_of (form_is leaf_form (rw e)) ∙ (rw e)

  pub body_rest : NoBody r.kind → body_in nodes n ≡ BodyExpression.me
  body_rest h = ap body_of tree_is ∙ no_body (form_of r.kind) r (tree_in nodes) h

  pub circuit_constant : r.kind ≡ 1 → circuit_in nodes n ≡ Circuit.constant (data_type_of r.arg) (r.first + 65536 * r.second)
  unfolding form_of tree_of circuit_of
  circuit_constant e = ap circuit_of (form_is leaf_form (rw e)) ∙ (rw e)

  pub circuit_operator : r.kind ≡ 6 → circuit_in nodes n ≡ Circuit.operator (operator_of r.arg) (circuit_in nodes r.first) (circuit_in nodes r.second)
  unfolding form_of tree_of circuit_of
  circuit_operator e = ap circuit_of (form_is two_form (rw e)) ∙ (rw e)

  pub circuit_negation : r.kind ≡ 7 → circuit_in nodes n ≡ Circuit.negation (circuit_in nodes r.first)
  unfolding form_of tree_of circuit_of
  circuit_negation e = ap circuit_of (form_is one_form (rw e)) ∙ (rw e)

  pub circuit_variable : r.kind ≡ 9 → circuit_in nodes n ≡ Circuit.variable r.first
  unfolding form_of tree_of circuit_of
  circuit_variable e = ap circuit_of (form_is leaf_form (rw e)) ∙ (rw e)

  pub circuit_opened : r.kind ≡ 10 → circuit_in nodes n ≡ Circuit.opened r.first
  unfolding form_of tree_of circuit_of
  circuit_opened e = ap circuit_of (form_is leaf_form (rw e)) ∙ (rw e)

  pub circuit_rest : NoCircuit r.kind → circuit_in nodes n ≡ Circuit.me
  circuit_rest h = ap circuit_of tree_is ∙ no_circuit (form_of r.kind) r (tree_in nodes) h

  pub command_sequence : r.kind ≡ 17 → command_in nodes n ≡ Command.sequence (command_in nodes r.first) (command_in nodes r.second)
  unfolding form_of tree_of command_of
  command_sequence e = ap command_of (form_is two_form (rw e)) ∙ (rw e)

  pub command_assign_field : r.kind ≡ 18 → command_in nodes n ≡ Command.assign_field r.arg (body_in nodes r.first)
  unfolding form_of tree_of command_of
  command_assign_field e = ap command_of (form_is one_form (rw e)) ∙ (rw e)

  pub command_assign_entry : r.kind ≡ 19 → command_in nodes n ≡ Command.assign_entry r.arg (body_in nodes r.first) (body_in nodes r.second)
  unfolding form_of tree_of command_of
  command_assign_entry e = ap command_of (form_is two_form (rw e)) ∙ (rw e)

  pub command_require : r.kind ≡ 20 → command_in nodes n ≡ Command.require (body_in nodes r.first)
  unfolding form_of tree_of command_of
  command_require e = ap command_of (form_is one_form (rw e)) ∙ (rw e)

  pub command_conditional : r.kind ≡ 21
      → command_in nodes n ≡ Command.conditional (body_in nodes r.first) (command_in nodes r.second) (command_in nodes r.third)
  unfolding form_of tree_of command_of
  command_conditional e = ap command_of (form_is three_form (rw e))

  pub command_set_variable : r.kind ≡ 22 → command_in nodes n ≡ Command.set_variable r.first (body_in nodes r.second)
  unfolding form_of tree_of command_of
  command_set_variable e = ap command_of (form_is setting_form (rw e))

  pub command_verify : r.kind ≡ 23 → command_in nodes n ≡ Command.verify
  unfolding form_of tree_of command_of
  command_verify e = ap command_of (form_is leaf_form (rw e)) ∙ (rw e)

  pub command_rest : NoCommand r.kind → command_in nodes n ≡ Command.skip
  command_rest h =
      ap command_of (form_is _ (no_command_form r.kind h))
      ∙ no_command (eqb r.kind 4 || eqb r.kind 7 || eqb r.kind 18 || eqb r.kind 20) (eqb r.kind 6 || eqb r.kind 17 || eqb r.kind 19) r (tree_in nodes) h

  pub one_falls : (form_one : form_of r.kind ≡ one_form) → r.first < n
  one_falls e = falls_by one_form e

  pub two_fall : form_of r.kind ≡ two_form → (r.first < n) × (r.second < n)
  two_fall e = falls_by two_form e

  pub three_fall : form_of r.kind ≡ three_form → (r.first < n) × ((r.second < n) × (r.third < n))
  three_fall e = falls_by three_form e

  pub set_falls : form_of r.kind ≡ setting_form → r.second < n
  set_falls e = falls_by setting_form e

-- The form of each kind that has children.
pub form_entry : (kind : ℕ) → kind ≡ 4 → form_of kind ≡ one_form
unfolding form_of
form_entry kind e = rw e

pub form_negation : (kind : ℕ) → kind ≡ 7 → form_of kind ≡ one_form
unfolding form_of
form_negation kind e = rw e

pub form_assign_field : (kind : ℕ) → kind ≡ 18 → form_of kind ≡ one_form
unfolding form_of
form_assign_field kind e = rw e

pub form_require : (kind : ℕ) → kind ≡ 20 → form_of kind ≡ one_form
unfolding form_of
form_require kind e = rw e

pub form_operator : (kind : ℕ) → kind ≡ 6 → form_of kind ≡ two_form
unfolding form_of
form_operator kind e = rw e

pub form_sequence : (kind : ℕ) → kind ≡ 17 → form_of kind ≡ two_form
unfolding form_of
form_sequence kind e = rw e

pub form_assign_entry : (kind : ℕ) → kind ≡ 19 → form_of kind ≡ two_form
unfolding form_of
form_assign_entry kind e = rw e

pub form_conditional : (kind : ℕ) → kind ≡ 21 → form_of kind ≡ three_form
unfolding form_of
form_conditional kind e = rw e

pub form_set_variable : (kind : ℕ) → kind ≡ 22 → form_of kind ≡ setting_form
unfolding form_of
form_set_variable kind e = rw e
