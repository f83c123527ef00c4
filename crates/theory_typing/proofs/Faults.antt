-- What an expression or a statement without faults fulfils, kind by kind: numbers 8 to 15.
use Rattle.std.specs.Prelude.{◌≡◌, ◌&&◌, ◌||◌, ◌++◌, ◌<◌}
use Rattle.kit.specs.Names.{refl, Bool, true, false, not, false≢true, List, [], none, ℕ, leb, length, leb-false}
use Rattle.definitions.specs.ContractFile.{DataType, boolean, uint, address, Owner, Operator, Expression, field, entry, parameter, operator, negation, reveal, Statement, sequence, assign_field, assign_entry, require, conditional, Scope, field_at, same_type, shape_code, is_mapping, is_division, operands_fit, type_of}
use Rattle.definitions.specs.Owners.{Links, is_reader, place_owner, name_of, owner_of, is_public, links_of_condition, links_after}
use Rattle.definitions.specs.Numbers.{fault, may_be_put, is_tagged, is_none, owner_fits, entry_faults, read_fault, expression_faults, condition_faults, value_faults, statement_faults}
use Rattle.theory_laws.proofs.TruthValues.{not_false_true, or_left, or_right}
use Rattle.theory_typing.proofs.Basics.{and_right_false, two_empty, three_empty, four_empty, fault_none, fault_none_not}
use Rattle.definitions.specs.Basics.{is_zero}

pub same_type_law : (a b : DataType) → same_type a b ≡ true → a ≡ b
same_type_law boolean boolean h = refl
same_type_law boolean uint h = absurd (false≢true h)
same_type_law boolean address h = absurd (false≢true h)
same_type_law uint boolean h = absurd (false≢true h)
same_type_law uint uint h = refl
same_type_law uint address h = absurd (false≢true h)
same_type_law address boolean h = absurd (false≢true h)
same_type_law address uint h = absurd (false≢true h)
same_type_law address address h = refl

module _ (scope : Scope) where
  -- A mapping's entry, as it is read and as it is written.
  pub record EntryFits (f : ℕ) (key : Expression) : Type 0 where
    pub mapping : is_mapping (field_at scope.fields f).shape ≡ true
    pub address : type_of scope key ≡ DataType.address
    pub public : is_public scope key ≡ true
    pub named : is_tagged (field_at scope.fields f).owner ≡ true → is_none (name_of scope key) ≡ false

  pub entry_fits : (f : ℕ) (key : Expression) → entry_faults scope f key ≡ [] → EntryFits f key
  entry_fits f key h =
      let unnamed : Bool = is_tagged (field_at scope.fields f).owner && is_none (name_of scope key) in
      let off : Bool = not (is_public scope key) || unnamed in
      let empty =
      three_empty (fault (not (is_mapping (field_at scope.fields f).shape)) 8) (fault (not (same_type (type_of scope key) DataType.address)) 9)
      (fault off 10) h in
      let holds : off ≡ false = fault_none off 10 empty.2 in
      record {
        mapping = fault_none_not (is_mapping (field_at scope.fields f).shape) 8 empty.0;
        address = same_type_law (type_of scope key) DataType.address (fault_none_not (same_type (type_of scope key) DataType.address) 9 empty.1);
        public = not_false_true (is_public scope key) (or_left (not (is_public scope key)) unnamed holds);
        named = and_right_false (is_tagged (field_at scope.fields f).owner) (is_none (name_of scope key)) (or_right (not (is_public scope key)) unnamed holds);
      }

  module _ (linked : Links) where
    pub readable : (e : Expression) → read_fault scope linked e ≡ [] → is_reader linked (owner_of scope e) ≡ true
    readable e h = fault_none_not (is_reader linked (owner_of scope e)) 11 h

    abbrev faults : Expression → List ℕ
    faults = expression_faults scope linked

    pub record FieldReadFits (f : ℕ) : Type 0 where
      pub single : is_mapping (field_at scope.fields f).shape ≡ false
      pub readable : is_reader linked (owner_of scope (field f)) ≡ true

    pub field_read_fits : (f : ℕ) → expression_faults scope linked (field f) ≡ [] → FieldReadFits f
    unfolding expression_faults
    field_read_fits f h =
        let empty = two_empty (fault (is_mapping (field_at scope.fields f).shape) 8) (read_fault scope linked (field f)) h in
        record {
          single = fault_none (is_mapping (field_at scope.fields f).shape) 8 empty.0;
          readable = readable (field f) empty.1;
        }

    pub record EntryReadFits (f : ℕ) (key : Expression) : Type 0 where
      pub key_faults : expression_faults scope linked key ≡ []
      pub fits : EntryFits f key
      pub readable : is_reader linked (owner_of scope (entry f key)) ≡ true

    pub entry_read_fits : (f : ℕ) (key : Expression) → expression_faults scope linked (entry f key) ≡ [] → EntryReadFits f key
    unfolding expression_faults
    entry_read_fits f key h =
        let empty = three_empty (faults key) (entry_faults scope f key) (read_fault scope linked (entry f key)) h in
        record { key_faults = empty.0; fits = entry_fits f key empty.1; readable = readable (entry f key) empty.2 }

    pub record ParameterReadFits (k : ℕ) : Type 0 where
      pub there : k < length scope.parameters
      pub readable : is_reader linked (owner_of scope (parameter k)) ≡ true

    pub parameter_read_fits : (k : ℕ) → expression_faults scope linked (parameter k) ≡ [] → ParameterReadFits k
    unfolding expression_faults
    parameter_read_fits k h =
        let empty = two_empty (fault (leb (length scope.parameters) k) 8) (read_fault scope linked (parameter k)) h in
        record {
          there = leb-false (length scope.parameters) k (fault_none (leb (length scope.parameters) k) 8 empty.0);
          readable = readable (parameter k) empty.1;
        }

    pub record OperatorFits (o : Operator) (left right : Expression) : Type 0 where
      pub left_faults : expression_faults scope linked left ≡ []
      pub right_faults : expression_faults scope linked right ≡ []
      pub operands : operands_fit o (type_of scope left) (type_of scope right) ≡ true
      pub left_readable : is_reader linked (owner_of scope left) ≡ true
      pub right_readable : is_reader linked (owner_of scope right) ≡ true
      pub division : (is_division o && (not (is_public scope left) || not (is_public scope right))) ≡ false

    pub operator_fits : (o : Operator) (left right : Expression) → expression_faults scope linked (operator o left right) ≡ [] → OperatorFits o left right
    unfolding expression_faults
    operator_fits o left right h =
        let fit : Bool = operands_fit o (type_of scope left) (type_of scope right) in
        let private : Bool = is_division o && (not (is_public scope left) || not (is_public scope right)) in
        let parts : List ℕ = faults left ++ faults right ++ fault (not fit) 9 in
        let empty = four_empty parts (read_fault scope linked left) (read_fault scope linked right) (fault private 12) h in
        let inside = three_empty (faults left) (faults right) (fault (not fit) 9) empty.0 in
        record {
          left_faults = inside.0;
          right_faults = inside.1;
          operands = fault_none_not fit 9 inside.2;
          left_readable = readable left empty.1;
          right_readable = readable right empty.2;
          division = fault_none private 12 empty.3;
        }

    pub record NegationFits (part : Expression) : Type 0 where
      pub part_faults : expression_faults scope linked part ≡ []
      pub type : type_of scope part ≡ boolean
      pub readable : is_reader linked (owner_of scope part) ≡ true

    pub negation_fits : (part : Expression) → expression_faults scope linked (negation part) ≡ [] → NegationFits part
    unfolding expression_faults
    negation_fits part h =
        let empty = three_empty (faults part) (fault (not (same_type (type_of scope part) boolean)) 9) (read_fault scope linked part) h in
        record {
          part_faults = empty.0;
          type = same_type_law (type_of scope part) boolean (fault_none_not (same_type (type_of scope part) boolean) 9 empty.1);
          readable = readable part empty.2;
        }

    pub record RevealFits (part : Expression) (o : Owner) : Type 0 where
      pub part_faults : expression_faults scope linked part ≡ []
      pub target : owner_fits scope o ≡ true
      pub readable : is_reader linked (owner_of scope part) ≡ true
      pub private : is_public scope part ≡ false

    pub reveal_fits : (part : Expression) (o : Owner) → expression_faults scope linked (reveal part o) ≡ [] → RevealFits part o
    unfolding expression_faults
    reveal_fits part o h =
        let empty = four_empty (faults part) (fault (not (owner_fits scope o)) 8) (read_fault scope linked part) (fault (is_public scope part) 13) h in
        record {
          part_faults = empty.0;
          target = fault_none_not (owner_fits scope o) 8 empty.1;
          readable = readable part empty.2;
          private = fault_none (is_public scope part) 13 empty.3;
        }

    pub record ConditionFits (condition : Expression) : Type 0 where
      pub faultless : expression_faults scope linked condition ≡ []
      pub type : type_of scope condition ≡ boolean
      pub public : is_public scope condition ≡ true

    pub condition_fits : (condition : Expression) → condition_faults scope linked condition ≡ [] → ConditionFits condition
    condition_fits condition h =
        let empty = three_empty (faults condition) (fault (not (same_type (type_of scope condition) boolean)) 9) (fault (not (is_public scope condition)) 14) h in
        record {
          faultless = empty.0;
          type = same_type_law (type_of scope condition) boolean (fault_none_not (same_type (type_of scope condition) boolean) 9 empty.1);
          public = fault_none_not (is_public scope condition) 14 empty.2;
        }

    -- A value that is put into a place of field f with the owner given.
    pub record ValueFits (f : ℕ) (place : Owner) (value : Expression) : Type 0 where
      pub faultless : expression_faults scope linked value ≡ []
      pub type : type_of scope value ≡ (field_at scope.fields f).type
      pub puttable : may_be_put linked (owner_of scope value) place ≡ true

    pub value_fits : (f : ℕ) (place : Owner) (value : Expression) → value_faults scope linked f place value ≡ [] → ValueFits f place value
    value_fits f place value h =
        let same : Bool = same_type (type_of scope value) (field_at scope.fields f).type in
        let empty = three_empty (faults value) (fault (not same) 9) (fault (not (may_be_put linked (owner_of scope value) place)) 15) h in
        record {
          faultless = empty.0;
          type = same_type_law (type_of scope value) (field_at scope.fields f).type (fault_none_not same 9 empty.1);
          puttable = fault_none_not (may_be_put linked (owner_of scope value) place) 15 empty.2;
        }

    pub record SequenceFits (first second : Statement) : Type 0 where
      pub first_faults : statement_faults scope linked first ≡ []
      pub second_faults : statement_faults scope (links_after scope first linked) second ≡ []

    pub sequence_fits : (first second : Statement) → statement_faults scope linked (sequence first second) ≡ [] → SequenceFits first second
    unfolding statement_faults
    sequence_fits first second h =
        let empty = two_empty (statement_faults scope linked first) (statement_faults scope (links_after scope first linked) second) h in
        record { first_faults = empty.0; second_faults = empty.1 }

    pub record AssignFieldFits (f : ℕ) (value : Expression) : Type 0 where
      pub shape : is_zero (shape_code (field_at scope.fields f).shape) ≡ true
      pub value_fit : ValueFits f (place_owner (field_at scope.fields f).owner none) value

    pub assign_field_fits : (f : ℕ) (value : Expression) → statement_faults scope linked (assign_field f value) ≡ [] → AssignFieldFits f value
    unfolding statement_faults
    assign_field_fits f value h =
        let place : Owner = place_owner (field_at scope.fields f).owner none in
        let empty = two_empty (fault (not (is_zero (shape_code (field_at scope.fields f).shape))) 8) (value_faults scope linked f place value) h in
        record { shape = fault_none_not (is_zero (shape_code (field_at scope.fields f).shape)) 8 empty.0; value_fit = value_fits f place value empty.1 }

    pub record AssignEntryFits (f : ℕ) (key value : Expression) : Type 0 where
      pub key_faults : expression_faults scope linked key ≡ []
      pub fits : EntryFits f key
      pub value_fit : ValueFits f (place_owner (field_at scope.fields f).owner (name_of scope key)) value

    pub assign_entry_fits : (f : ℕ) (key value : Expression) → statement_faults scope linked (assign_entry f key value) ≡ [] → AssignEntryFits f key value
    unfolding statement_faults
    assign_entry_fits f key value h =
        let place : Owner = place_owner (field_at scope.fields f).owner (name_of scope key) in
        let empty = three_empty (faults key) (entry_faults scope f key) (value_faults scope linked f place value) h in
        record { key_faults = empty.0; fits = entry_fits f key empty.1; value_fit = value_fits f place value empty.2 }

    pub require_fits : (condition : Expression) → statement_faults scope linked (require condition) ≡ [] → ConditionFits condition
    unfolding statement_faults
    require_fits condition h = condition_fits condition h

    pub record ConditionalFits (condition : Expression) (then else : Statement) : Type 0 where
      pub condition_fit : ConditionFits condition
      pub then_faults : statement_faults scope (links_of_condition scope condition linked) then ≡ []
      pub else_faults : statement_faults scope linked else ≡ []

    pub conditional_fits : (condition : Expression) (then else : Statement) → statement_faults scope linked (conditional condition then else) ≡ []
        → ConditionalFits condition then else
    unfolding statement_faults
    conditional_fits condition then else h =
        let empty = three_empty (condition_faults scope linked condition) (statement_faults scope (links_of_condition scope condition linked) then) (statement_faults scope linked else) h in
        record { condition_fit = condition_fits condition empty.0; then_faults = empty.1; else_faults = empty.2 }
