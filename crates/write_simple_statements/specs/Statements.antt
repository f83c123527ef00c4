-- The form of a statement that holds no other statement, without the steps before it.
use Rattle.std.specs.Prelude.{◌+◌}
use Rattle.kit.specs.Names.{not, none, ℕ}
use Rattle.definitions.specs.ContractFile.{Statement, Scope, field_at, is_everyone}
use Rattle.definitions.specs.Owners.{name_of, place_owner, owner_of}
use Rattle.definitions.specs.Rewriting.{Command, Generator, kept, one_part, two_parts, in_body, in_place, Tree, command_tree}
use Rattle.write_variable_counts.specs.Counts.{body_count}
use Rattle.write_simple_statements.specs.Places.{placed_count}

-- What rewrite_statement hands to `single`. A sequence and a conditional have no form of their own here.
unfoldable pub simple : Scope → Statement → Generator Command
simple scope Statement.skip = kept Command.skip
simple scope (Statement.sequence first second) = kept Command.skip
simple scope (Statement.assign_field f value) =
    one_part (Command.assign_field f) (in_place (owner_of scope) (place_owner (field_at scope.fields f).owner none) value)
simple scope (Statement.assign_entry f key value) =
    two_parts (Command.assign_entry f) (in_body (owner_of scope) key)
    (in_place (owner_of scope) (place_owner (field_at scope.fields f).owner (name_of scope key)) value)
simple scope (Statement.require condition) = one_part Command.require (in_body (owner_of scope) condition)
simple scope (Statement.conditional condition then else) = kept Command.skip

abbrev pub simple_form : Scope → Statement → ℕ → Tree
simple_form scope s i = command_tree (simple scope s i).form

-- How many variables it makes.
unfoldable pub simple_count : Scope → Statement → ℕ
simple_count scope Statement.skip = 0
simple_count scope (Statement.sequence first second) = 0
simple_count scope (Statement.assign_field f value) =
    placed_count scope (not (is_everyone (place_owner (field_at scope.fields f).owner none))) value
simple_count scope (Statement.assign_entry f key value) =
    body_count scope key + placed_count scope (not (is_everyone (place_owner (field_at scope.fields f).owner (name_of scope key)))) value
simple_count scope (Statement.require condition) = body_count scope condition
simple_count scope (Statement.conditional condition then else) = 0
