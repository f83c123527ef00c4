-- 01, Numbers given for a bad request: the sentences 1 to 15 of a contract file, and the number of a check and of a section.
use Rattle.std.specs.Prelude.{◌&&◌, ◌||◌, ◌∷◌, ◌++◌}
use Rattle.definitions.specs.Basics.{Bool, true, false, cond, not, List, [], map, Option, none, some, ℕ, zero}
use Rattle.definitions.specs.Basics.{suc, eqb, leb, ltb, length, any, any_numbered, count_if, flat_map, is_zero, first_that_holds}
use Rattle.definitions.specs.ContractFile.{boolean, address, Name, me_name, final_name, parameter_name, Owner, everyone, owned_by}
use Rattle.definitions.specs.ContractFile.{FieldOwner, to_everyone, to_key, to_final, Expression, constant, me, field, entry, parameter}
use Rattle.definitions.specs.ContractFile.{operator, negation, reveal, Statement, skip, sequence, assign_field, assign_entry, require}
use Rattle.definitions.specs.ContractFile.{conditional, Field, Function, Contract, Scope, field_at, parameter_at, same_type, shape_code}
use Rattle.definitions.specs.ContractFile.{is_final, is_mapping, is_division, FieldRecord, ParameterRecord, NodeRecord, Sections}
use Rattle.definitions.specs.ContractFile.{field_count, function_count, node_count, file_end, sections_of, section_part, is_final_code}
use Rattle.definitions.specs.ContractFile.{is_parameter_code, data_type_of, field_of, Kind, constant_kind, me_kind, field_kind, entry_kind}
use Rattle.definitions.specs.ContractFile.{parameter_kind, operator_kind, negation_kind, reveal_kind, skip_kind, sequence_kind}
use Rattle.definitions.specs.ContractFile.{assign_field_kind, assign_entry_kind, require_kind, conditional_kind, no_kind, kind_of, node_of}
use Rattle.definitions.specs.ContractFile.{node_at, constant_value, expression_parts, statement_parts, children, is_expression}
use Rattle.definitions.specs.ContractFile.{is_statement, fields_named, chain_length, contract_of, is_of_type, operands_fit, type_of}
use Rattle.definitions.specs.Owners.{Links, no_links, is_reader, is_public_address, place_owner, name_of, owner_of, is_public}
use Rattle.definitions.specs.Owners.{links_of_condition, links_after}

-- "1. The file ends too early for its counts, or bytes remain."
unfoldable pub ends_wrongly : List ℕ → Bool
ends_wrongly file = not (eqb (length file) (file_end file))

-- "2. A count is off its limits."
unfoldable pub count_off_limits : List ℕ → Bool
count_off_limits file =
    ltb 64 (field_count file)
    || is_zero (function_count file)
    || ltb 16 (function_count file)
    || any (λ r. ltb 8 (length r.parameters)) (sections_of file).functions
    || ltb 512 (node_count file)

-- "3. A shape, type, owner code, kind, operator, constant or unused part is outside the tables above."
-- "A final has type 2 and owner 0. A field's owner is 0, 16+f, or 2 for a mapping only."
unfoldable pub field_in_tables : FieldRecord → Bool
field_in_tables r =
    leb r.shape 2
    && leb r.type 2
    && (is_zero r.owner || is_final_code r.owner || (eqb r.owner 2 && eqb r.shape 2))
    && (not (eqb r.shape 1) || (eqb r.type 2 && is_zero r.owner))

unfoldable pub parameter_in_tables : ParameterRecord → Bool
parameter_in_tables r = leb r.type 2 && leb r.owner 1

-- "reveal first to owner code arg (0, 1, 16+f, 128+k)"
abbrev pub target_in_tables : ℕ → Bool
target_in_tables code = leb code 1 || is_final_code code || is_parameter_code code

-- "Parts that a kind doesn't use are zero."
unfoldable pub kind_in_tables : Kind → NodeRecord → Bool
kind_in_tables constant_kind r =
    leb r.arg 2
    && is_of_type (data_type_of r.arg) (constant_value r)
    && is_zero r.third
kind_in_tables me_kind r = is_zero r.arg && is_zero r.first && is_zero r.second && is_zero r.third
kind_in_tables field_kind r = is_zero r.first && is_zero r.second && is_zero r.third
kind_in_tables entry_kind r = is_zero r.second && is_zero r.third
kind_in_tables parameter_kind r = is_zero r.first && is_zero r.second && is_zero r.third
kind_in_tables operator_kind r = leb r.arg 10 && is_zero r.third
kind_in_tables negation_kind r = is_zero r.arg && is_zero r.second && is_zero r.third
kind_in_tables reveal_kind r = target_in_tables r.arg && is_zero r.second && is_zero r.third
kind_in_tables skip_kind r = is_zero r.arg && is_zero r.first && is_zero r.second && is_zero r.third
kind_in_tables sequence_kind r = is_zero r.arg && is_zero r.third
kind_in_tables assign_field_kind r = is_zero r.second && is_zero r.third
kind_in_tables assign_entry_kind r = is_zero r.third
kind_in_tables require_kind r = is_zero r.arg && is_zero r.second && is_zero r.third
kind_in_tables conditional_kind r = is_zero r.arg
kind_in_tables no_kind r = false

abbrev pub node_in_tables : NodeRecord → Bool
node_in_tables r = kind_in_tables (kind_of r.kind) r

unfoldable pub outside_tables : Sections → Bool
outside_tables s =
    any (λ r. not (field_in_tables r)) s.fields
    || any (λ r. any (λ p. not (parameter_in_tables p)) r.parameters) s.functions
    || any (λ r. not (node_in_tables r)) s.nodes

-- "4. A field number, in owner codes too, names nothing, a root is no node, or a child's number isn't below its parent's."
abbrev pub field_of_declared_owner : FieldOwner → List ℕ
field_of_declared_owner = elim [ to_everyone ↦ [] | to_key ↦ [] | to_final f ↦ f ∷ [] ]

unfoldable pub names_nothing : Sections → Bool
names_nothing s =
    let fields = length s.fields in
    let nodes = length s.nodes in
    any (λ r. any (leb fields) (field_of_declared_owner (field_of r).owner)) s.fields
    || any (λ r. leb nodes r.root) s.functions
    || any_numbered (λ n r. any (leb fields) (fields_named (node_of r)) || any (leb n) (children (node_of r))) 0 s.nodes

-- "5. A node is used other than once, as a root or a child."
unfoldable pub uses_of : Sections → List ℕ
uses_of s =
    map (λ r. r.root) s.functions
    ++ flat_map (λ r. children (node_of r)) s.nodes

unfoldable pub used_other_than_once : Sections → Bool
used_other_than_once s =
    let uses = uses_of s in
    any_numbered (λ n r. not (eqb (count_if (eqb n) uses) 1)) 0 s.nodes

-- "6. A chain from root to leaf has more than 64 nodes."
unfoldable pub too_deep : Sections → Bool
too_deep s =
    let nodes = map node_of s.nodes in
    any (λ r. ltb 64 (chain_length (suc r.root) nodes r.root)) s.functions

-- "7. A statement stands where an expression is due, or the reverse."
unfoldable pub wrong_sort : Sections → Bool
wrong_sort s =
    let nodes = map node_of s.nodes in
    any (λ r. not (is_statement (node_at nodes r.root))) s.functions
    || any (λ node.
    any (λ n. not (is_expression (node_at nodes n))) (expression_parts node)
    || any (λ n. not (is_statement (node_at nodes n))) (statement_parts node)) nodes

-- Numbers 8 to 15 are told of trees. A tree's faults are the numbers of the sentences that hold somewhere in it.
abbrev pub fault : Bool → ℕ → List ℕ
fault holds n = cond holds (n ∷ []) []

-- "15. An assigned value's owner is neither all nor linked to the place's owner (the same name counts)."
abbrev pub may_be_put : Links → Owner → Owner → Bool
may_be_put linked everyone place = true
may_be_put linked (owned_by n) place = elim place [ everyone ↦ false | owned_by m ↦ linked n m ]

abbrev pub is_tagged : FieldOwner → Bool
is_tagged = elim [ to_everyone ↦ false | to_key ↦ true | to_final f ↦ false ]

abbrev pub is_none : Option Name → Bool
is_none = elim [ none ↦ true | some n ↦ false ]

module _ (scope : Scope) where
  abbrev pub declared : ℕ → Field
  declared f = field_at scope.fields f

  -- "8. .. an owner code's field isn't final, .. or an owner code's parameter isn't a public address."
  abbrev pub owner_fits : Owner → Bool
  owner_fits everyone = true
  owner_fits (owned_by n) = elim n [
    | me_name ↦ true
    | final_name f ↦ is_final (declared f).shape
    | parameter_name k ↦ is_public_address (parameter_at scope.parameters k)
  ]

  -- "10. A key isn't public, or a tagged mapping's key isn't a name."; "9. .. keys are addresses"; "8. .. (.. 4 and 19 take 2)"
  abbrev pub entry_faults : ℕ → Expression → List ℕ
  entry_faults f key =
      fault (not (is_mapping (declared f).shape)) 8
      ++ fault (not (same_type (type_of scope key) address)) 9
      ++ fault (not (is_public scope key) || (is_tagged (declared f).owner && is_none (name_of scope key))) 10

  module _ (linked : Links) where
    -- "11. A place read, or an operand of an operator, not or reveal, has an owner neither all nor caller."
    abbrev pub read_fault : Expression → List ℕ
    read_fault e = fault (not (is_reader linked (owner_of scope e))) 11

    unfoldable pub expression_faults : Expression → List ℕ
    expression_faults (constant t v) = []
    expression_faults me = []
    -- "8. The field's shape doesn't suit the node (3 takes 0 or 1 ..)"
    expression_faults (field f) = fault (is_mapping (declared f).shape) 8 ++ read_fault (field f)
    expression_faults (entry f key) = expression_faults key ++ entry_faults f key ++ read_fault (entry f key)
    -- "8. .. a parameter is missing"
    expression_faults (parameter k) = fault (leb (length scope.parameters) k) 8 ++ read_fault (parameter k)
    -- "9. A data type doesn't fit"; "12. Operator 3 or 4 has a private operand."
    expression_faults (operator o left right) =
        expression_faults left
        ++ expression_faults right
        ++ fault (not (operands_fit o (type_of scope left) (type_of scope right))) 9
        ++ read_fault left
        ++ read_fault right
        ++ fault (is_division o && (not (is_public scope left) || not (is_public scope right))) 12
    expression_faults (negation part) =
        expression_faults part
        ++ fault (not (same_type (type_of scope part) boolean)) 9
        ++ read_fault part
    -- "13. A reveal's operand belongs to all."
    expression_faults (reveal part o) =
        expression_faults part
        ++ fault (not (owner_fits o)) 8
        ++ read_fault part
        ++ fault (is_public scope part) 13

    -- "9. .. conditions are bools."; "14. The condition of a require or an if isn't public."
    abbrev pub condition_faults : Expression → List ℕ
    condition_faults condition =
        expression_faults condition
        ++ fault (not (same_type (type_of scope condition) boolean)) 9
        ++ fault (not (is_public scope condition)) 14

    -- A value put into a place of a field, whose owner is given: "9. A data type doesn't fit", and 15.
    abbrev pub value_faults : ℕ → Owner → Expression → List ℕ
    value_faults f place value =
        expression_faults value
        ++ fault (not (same_type (type_of scope value) (declared f).type)) 9
        ++ fault (not (may_be_put linked (owner_of scope value) place)) 15

  unfoldable pub statement_faults : Links → Statement → List ℕ
  statement_faults linked skip = []
  statement_faults linked (sequence first second) =
      statement_faults linked first
      ++ statement_faults (links_after scope first linked) second
  -- "8. .. (.. 18 takes 0 ..)"
  statement_faults linked (assign_field f value) =
      fault (not (is_zero (shape_code (declared f).shape))) 8
      ++ value_faults linked f (place_owner (declared f).owner none) value
  statement_faults linked (assign_entry f key value) =
      expression_faults linked key
      ++ entry_faults f key
      ++ value_faults linked f (place_owner (declared f).owner (name_of scope key)) value
  statement_faults linked (require condition) = condition_faults linked condition
  -- 02, Note 1: the then-branch knows the condition's links; the condition itself is judged with the links before it.
  statement_faults linked (conditional condition then else) =
      condition_faults linked condition
      ++ statement_faults (links_of_condition scope condition linked) then
      ++ statement_faults linked else

-- "8. .. an owner code's field isn't final": in a field's own owner code.
abbrev pub field_faults : List Field → Field → List ℕ
field_faults fields d =
    flat_map (λ f. fault (not (is_final (field_at fields f).shape)) 8) (field_of_declared_owner d.owner)

abbrev pub function_faults : List Field → Function → List ℕ
function_faults fields g =
    statement_faults (record { fields = fields; parameters = g.parameters }) no_links g.body

unfoldable pub contract_faults : Contract → List ℕ
contract_faults c =
    flat_map (field_faults c.fields) c.fields
    ++ flat_map (function_faults c.fields) c.functions

abbrev pub contract_sentences : Contract → List Bool
contract_sentences c =
    let faults = contract_faults c in
    map (λ n. any (eqb n) faults) (8 ∷ 9 ∷ 10 ∷ 11 ∷ 12 ∷ 13 ∷ 14 ∷ 15 ∷ [])

-- "Checking uses 1 to 15"
unfoldable pub check_number : List ℕ → ℕ
check_number file =
    let s = sections_of file in
    first_that_holds 1 (ends_wrongly file
    ∷ count_off_limits file
    ∷ outside_tables s
    ∷ names_nothing s
    ∷ used_other_than_once s
    ∷ too_deep s
    ∷ wrong_sort s
    ∷ contract_sentences (contract_of s))

-- The first of two numbers that refuses.
abbrev pub or_else : ℕ → ℕ → ℕ
or_else zero later = later
or_else (suc n) later = suc n

-- "22. A section number is above 2."; "a section 1, 2, 22"
unfoldable pub section_number : List ℕ → ℕ → ℕ
section_number file n =
    or_else
    (first_that_holds 1 (ends_wrongly file ∷ count_off_limits file ∷ []))
    (first_that_holds 22 (ltb 2 n ∷ []))

-- "A refusal returns it with length 0 (for a section an empty part; another entry gives the number)"
unfoldable pub section_answer : List ℕ → ℕ → List ℕ
section_answer file n = cond (is_zero (section_number file n)) (section_part file n) []
