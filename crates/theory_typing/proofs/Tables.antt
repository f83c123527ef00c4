-- What number 3 gives: the constants of the trees that nodes make fit, and so do the fields.
use Rattle.std.specs.Prelude.{◌≡◌, ◌&&◌, ◌||◌, ◌∷◌, ◌-◌}
use Rattle.kit.specs.Names.{refl, Bool, true, false, cond, not, false≢true, List, [], map, ℕ, zero, suc, eqb}
use Rattle.kit.specs.Names.{leb, eqb-true}
use Rattle.definitions.specs.Basics.{any, is_zero}
use Rattle.definitions.specs.ContractFile.{DataType, plain_field, final_field, mapping, to_everyone, to_key, to_final, Expression, Statement, Field, field_at, is_final, is_mapping, FieldRecord, NodeRecord, data_type_of, shape_of, field_owner_of_code, is_final_code, field_of, Kind, constant_kind, me_kind, field_kind, entry_kind, parameter_kind, operator_kind, negation_kind, reveal_kind, skip_kind, sequence_kind, assign_field_kind, assign_entry_kind, require_kind, conditional_kind, no_kind, kind_of, constant_value, node_of_kind, node_of, node_at, expression_of, statement_of, statement_at, is_of_type}
use Rattle.definitions.specs.Numbers.{field_in_tables, kind_in_tables, node_in_tables, is_tagged}
use Rattle.theory_laws.proofs.TruthValues.{and_both, and_left, and_right, not_false_true, or_left, or_right}
use Rattle.theory_trees.specs.Trees.{Keeps}
use Rattle.theory_trees.proofs.Kept.{unknown_keeps, statement_kept}
use Rattle.theory_relations.specs.Acceptance.{constants_fit, constants_fit_in}
use Rattle.theory_typing.proofs.Places.{no_field}

-- Of a tree, that its constants fit.
abbrev Fits : Expression → Type 0
Fits e = constants_fit e ≡ true

abbrev FitsIn : Statement → Type 0
FitsIn s = constants_fit_in s ≡ true

kind_fits : (k : Kind) (r : NodeRecord) → kind_in_tables k r ≡ true → Keeps Fits FitsIn (node_of_kind k r)
unfolding kind_in_tables node_of_kind expression_of statement_of constants_fit constants_fit_in
kind_fits constant_kind r h below part = (
  and_right (leb r.arg 2) (is_of_type (data_type_of r.arg) (constant_value r))
      (and_left (leb r.arg 2 && is_of_type (data_type_of r.arg) (constant_value r)) (is_zero r.third) h),
  λ later each. refl,
)
kind_fits me_kind r h below part = (refl, λ later each. refl)
kind_fits field_kind r h below part = (refl, λ later each. refl)
kind_fits entry_kind r h below part = (part r.first, λ later each. refl)
kind_fits parameter_kind r h below part = (refl, λ later each. refl)
kind_fits operator_kind r h below part =
    (and_both (constants_fit (below r.first)) (constants_fit (below r.second)) (part r.first) (part r.second), λ later each. refl)
kind_fits negation_kind r h below part = (part r.first, λ later each. refl)
kind_fits reveal_kind r h below part = (part r.first, λ later each. refl)
kind_fits skip_kind r h below part = (refl, λ later each. refl)
kind_fits sequence_kind r h below part =
    (refl, λ later each. and_both (constants_fit_in (later r.first)) (constants_fit_in (later r.second)) (each r.first) (each r.second))
kind_fits assign_field_kind r h below part = (refl, λ later each. part r.first)
kind_fits assign_entry_kind r h below part =
    (refl, λ later each. and_both (constants_fit (below r.first)) (constants_fit (below r.second)) (part r.first) (part r.second))
kind_fits require_kind r h below part = (refl, λ later each. part r.first)
kind_fits conditional_kind r h below part = (
  refl,
  λ later each. and_both (constants_fit (below r.first)) (constants_fit_in (later r.second) && constants_fit_in (later r.third)) (part r.first)
      (and_both (constants_fit_in (later r.second)) (constants_fit_in (later r.third)) (each r.second) (each r.third)),
)
kind_fits no_kind r h below part = (refl, λ later each. refl)

nodes_fit : (rs : List NodeRecord) → any (λ r. not (node_in_tables r)) rs ≡ false → (n : ℕ) → Keeps Fits FitsIn (node_at (map node_of rs) n)
unfolding any constants_fit constants_fit_in
nodes_fit [] h n = unknown_keeps Fits FitsIn refl refl
nodes_fit (r ∷ rs) h zero = kind_fits (kind_of r.kind) r (not_false_true (node_in_tables r) (or_left (not (node_in_tables r)) (any (λ r. not (node_in_tables r)) rs) h))
nodes_fit (r ∷ rs) h (suc n) = nodes_fit rs (or_right (not (node_in_tables r)) (any (λ r. not (node_in_tables r)) rs) h) n

pub statement_constants : (rs : List NodeRecord) → any (λ r. not (node_in_tables r)) rs ≡ false → (levels n : ℕ) → FitsIn (statement_at levels (map node_of rs) n)
unfolding constants_fit constants_fit_in
statement_constants rs h = statement_kept Fits FitsIn refl refl (map node_of rs) (nodes_fit rs h)

-- "A final has type 2 and owner 0. A field's owner is 0, 16+f, or 2 for a mapping only."
pub record FieldFits (d : Field) : Type 0 where
  pub tagged : is_tagged d.owner ≡ true → is_mapping d.shape ≡ true
  pub public : is_final d.shape ≡ true → d.owner ≡ to_everyone
  pub typed : is_final d.shape ≡ true → d.type ≡ DataType.address

-- The codes that a tag and a final have.
tag_code : (code : ℕ) → is_tagged (field_owner_of_code code) ≡ true → code ≡ 2
tag_code code = go (eqb code 0) (eqb code 2) refl
  where
    go : (zero two : Bool) → eqb code 2 ≡ two → is_tagged (cond zero to_everyone (cond two to_key (to_final (code - 16)))) ≡ true → code ≡ 2
    go true two e h = absurd (false≢true h)
    go false true e h = eqb-true code 2 e
    go false false e h = absurd (false≢true h)

final_code : (code : ℕ) → is_final (shape_of code) ≡ true → code ≡ 1
final_code code = go (eqb code 0) (eqb code 1) refl
  where
    go : (zero one : Bool) → eqb code 1 ≡ one → is_final (cond zero plain_field (cond one final_field mapping)) ≡ true → code ≡ 1
    go true one e h = absurd (false≢true h)
    go false true e h = eqb-true code 1 e
    go false false e h = absurd (false≢true h)

abbrev owner_in_tables : ℕ → ℕ → Bool
owner_in_tables shape owner = is_zero owner || is_final_code owner || (eqb owner 2 && eqb shape 2)

tagged_shape : (shape owner : ℕ) → owner_in_tables shape owner ≡ true → owner ≡ 2 → shape ≡ 2
tagged_shape shape owner h e = let two : owner_in_tables shape 2 ≡ true = rw e at h in eqb-true shape 2 two

pub field_fits : (r : FieldRecord) → field_in_tables r ≡ true → FieldFits (field_of r)
unfolding field_in_tables field_of
field_fits r h =
    let final : Bool = not (eqb r.shape 1) || (eqb r.type 2 && is_zero r.owner) in
    let owner : Bool = owner_in_tables r.shape r.owner in
    let owned : owner ≡ true = and_right (leb r.shape 2 && leb r.type 2) owner (and_left (leb r.shape 2 && leb r.type 2 && owner) final h) in
    let finals : final ≡ true = and_right (leb r.shape 2 && leb r.type 2 && owner) final h in
    record {
      tagged = λ t. rw (tagged_shape r.shape r.owner owned (tag_code r.owner t));
      public = λ t. rw (owner_zero (final_code r.shape t) finals);
      typed = λ t. rw (type_two (final_code r.shape t) finals);
    }
  where
    both : r.shape ≡ 1 → (not (eqb r.shape 1) || (eqb r.type 2 && is_zero r.owner)) ≡ true → (eqb r.type 2 && is_zero r.owner) ≡ true
    both e k = rw e at k

    owner_zero : r.shape ≡ 1 → (not (eqb r.shape 1) || (eqb r.type 2 && is_zero r.owner)) ≡ true → r.owner ≡ 0
    owner_zero e k = eqb-true r.owner 0 (and_right (eqb r.type 2) (is_zero r.owner) (both e k))

    type_two : r.shape ≡ 1 → (not (eqb r.shape 1) || (eqb r.type 2 && is_zero r.owner)) ≡ true → r.type ≡ 2
    type_two e k = eqb-true r.type 2 (and_left (eqb r.type 2) (is_zero r.owner) (both e k))

-- A field that is not there fits.
no_field_fits : FieldFits no_field
no_field_fits = record { tagged = λ t. absurd (false≢true t); public = λ t. refl; typed = λ t. absurd (false≢true t) }

pub each_field_fits : (rs : List FieldRecord) → any (λ r. not (field_in_tables r)) rs ≡ false → (f : ℕ) → FieldFits (field_at (map field_of rs) f)
unfolding any
each_field_fits [] h f = no_field_fits
each_field_fits (r ∷ rs) h zero =
    field_fits r (not_false_true (field_in_tables r) (or_left (not (field_in_tables r)) (any (λ r. not (field_in_tables r)) rs) h))
each_field_fits (r ∷ rs) h (suc f) = each_field_fits rs (or_right (not (field_in_tables r)) (any (λ r. not (field_in_tables r)) rs) h) f
