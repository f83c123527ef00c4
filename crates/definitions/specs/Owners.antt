-- 01, Owners: names, links, and what each expression belongs to.
use Rattle.std.specs.Prelude.{◌&&◌, ◌||◌}
use Rattle.definitions.specs.Basics.{Bool, true, cond, not, Option, none, some}
use Rattle.definitions.specs.ContractFile.{address, Name, me_name, final_name, parameter_name, Owner, everyone, owned_by, FieldOwner}
use Rattle.definitions.specs.ContractFile.{to_everyone, to_key, to_final, equal, conjunction, Expression, constant, me, field, entry}
use Rattle.definitions.specs.ContractFile.{parameter, operator, negation, reveal, Statement, skip, sequence, assign_field, assign_entry}
use Rattle.definitions.specs.ContractFile.{require, conditional, Scope, Parameter, field_at, parameter_at, same_type, same_name}
use Rattle.definitions.specs.ContractFile.{is_everyone, is_final, is_operator}

-- Which names are linked.
abbrev pub Links : Type 0
Links = Name → Name → Bool

-- A name is linked to itself: "(the same name counts)".
abbrev pub no_links : Links
no_links = same_name

-- "Links are chained."
unfoldable pub with_link : Name → Name → Links → Links
with_link x y linked a b =
    linked a b
    || (linked a x && linked y b)
    || (linked a y && linked x b)

abbrev pub with_link_of : Option Name → Option Name → Links → Links
with_link_of left right linked = elim left [
  | none ↦ linked
  | some x ↦ elim right [ none ↦ linked | some y ↦ with_link x y linked ]
]

-- 02, Note 1: "After an if, a pair of names is linked when it was linked at the end of both branches."
abbrev pub linked_in_both : Links → Links → Links
linked_in_both one other a b = one a b && other a b

abbrev pub is_public_address : Parameter → Bool
is_public_address p = same_type p.type address && not p.private

-- "An operator or not belongs to all when its operands do, otherwise to the caller."
abbrev pub owner_of_parts : Owner → Owner → Owner
owner_of_parts left right = cond (is_everyone left && is_everyone right) everyone (owned_by me_name)

-- "a place (kinds 3 to 5) to its declared owner (tag: the name used as key)". A tag with no name is number 10.
abbrev pub place_owner : FieldOwner → Option Name → Owner
place_owner to_everyone key = everyone
place_owner (to_final f) key = owned_by (final_name f)
place_owner to_key key = owned_by (elim key [ none ↦ me_name | some n ↦ n ])

abbrev pub parameter_owner : Parameter → Owner
parameter_owner p = cond p.private (owned_by me_name) everyone

-- "A name linked to me is the caller": an owner that is all or the caller.
abbrev pub is_reader : Links → Owner → Bool
is_reader linked = elim [ everyone ↦ true | owned_by n ↦ linked n me_name ]

module _ (scope : Scope) where
  -- "A name is me, a final, or a public address parameter."
  unfoldable pub name_of : Expression → Option Name
  name_of (constant t v) = none
  name_of me = some me_name
  name_of (field f) =
      cond (is_final (field_at scope.fields f).shape) (some (final_name f)) none
  name_of (entry f key) = none
  name_of (parameter k) =
      cond (is_public_address (parameter_at scope.parameters k)) (some (parameter_name k)) none
  name_of (operator o left right) = none
  name_of (negation part) = none
  name_of (reveal part o) = none

  -- "A constant and me belong to all; a place .. to its declared owner ..; a reveal to its target."
  unfoldable pub owner_of : Expression → Owner
  owner_of (constant t v) = everyone
  owner_of me = everyone
  owner_of (field f) = place_owner (field_at scope.fields f).owner none
  owner_of (entry f key) = place_owner (field_at scope.fields f).owner (name_of key)
  owner_of (parameter k) = parameter_owner (parameter_at scope.parameters k)
  owner_of (operator o left right) = owner_of_parts (owner_of left) (owner_of right)
  owner_of (negation part) = owner_of_parts (owner_of part) everyone
  owner_of (reveal part o) = o

  abbrev pub is_public : Expression → Bool
  is_public e = is_everyone (owner_of e)

  -- "A completed require of name == name, or of an "and" tree holding such, links the two names"
  unfoldable pub links_of_condition : Expression → Links → Links
  links_of_condition (constant t v) linked = linked
  links_of_condition me linked = linked
  links_of_condition (field f) linked = linked
  links_of_condition (entry f key) linked = linked
  links_of_condition (parameter k) linked = linked
  links_of_condition (operator o left right) linked =
      cond (is_operator o equal) (with_link_of (name_of left) (name_of right) linked)
      (cond (is_operator o conjunction) (links_of_condition right (links_of_condition left linked)) linked)
  links_of_condition (negation part) linked = linked
  links_of_condition (reveal part o) linked = linked

  -- ".. for what follows in sequence." 02, Note 1: "The then-branch should know the links its condition states, by the same reading
  -- as a require."; "The else-branch learns nothing from the condition."
  unfoldable pub links_after : Statement → Links → Links
  links_after skip linked = linked
  links_after (sequence first second) linked = links_after second (links_after first linked)
  links_after (assign_field f value) linked = linked
  links_after (assign_entry f key value) linked = linked
  links_after (require condition) linked = links_of_condition condition linked
  links_after (conditional condition then else) linked =
      linked_in_both (links_after then (links_of_condition condition linked)) (links_after else linked)
