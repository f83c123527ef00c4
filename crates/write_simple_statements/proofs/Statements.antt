-- The form and the count of a statement that holds no other, by what it is.
use Rattle.std.specs.Prelude.{◌≡◌, ◌+◌}
use Rattle.kit.specs.Names.{refl, ap, ap₂, ◌∙◌, Bool, not, none, ℕ, length, length-append}
use Rattle.definitions.specs.ContractFile.{Expression, Statement, Scope, field_at, is_everyone}
use Rattle.definitions.specs.Owners.{name_of, place_owner, owner_of}
use Rattle.definitions.specs.Rewriting.{kept, one_part, two_parts, in_body, in_place, leaf, one_child, two_children, body_tree, command_tree}
use Rattle.write_variable_counts.specs.Counts.{body_count}
use Rattle.write_variable_counts.proofs.Counts.{body_makes}
use Rattle.write_reads.specs.Forms.{body_form}
use Rattle.write_simple_statements.specs.Places.{placed_form, placed_count}
use Rattle.write_simple_statements.specs.Statements.{simple, simple_form, simple_count}
use Rattle.write_simple_statements.proofs.Places.{placed_tree, placed_makes}

-- The count does not depend on the first variable's number.
pub simple_makes : (scope : Scope) (s : Statement) (i : ℕ) → length (simple scope s i).variables ≡ simple_count scope s
unfolding simple simple_count kept one_part two_parts
simple_makes scope Statement.skip i = refl
simple_makes scope (Statement.sequence first second) i = refl
simple_makes scope (Statement.assign_field f value) i = placed_makes scope value (place_owner (field_at scope.fields f).owner none) i
simple_makes scope (Statement.assign_entry f key value) i =
    length-append (in_body (owner_of scope) key i).variables _ ∙ ap₂ ◌+◌ ((body_makes scope key).length i) (placed_makes scope value (place_owner (field_at scope.fields f).owner (name_of scope key)) (i + length (in_body (owner_of scope) key i).variables))
simple_makes scope (Statement.require condition) i = (body_makes scope condition).length i
simple_makes scope (Statement.conditional condition then else) i = refl

module _ (scope : Scope) (s : Statement) where
  pub form_of_skip : (i : ℕ) → s ≡ Statement.skip → simple_form scope s i ≡ leaf 16 0 0 0
  unfolding simple kept command_tree
  form_of_skip i h = rw h

  pub form_of_require : (i : ℕ) (condition : Expression) → s ≡ Statement.require condition → simple_form scope s i ≡ one_child 20 0 (body_form scope condition i)
  unfolding simple one_part command_tree
  form_of_require i condition h = rw h

  pub count_of_require : (condition : Expression) → s ≡ Statement.require condition → body_count scope condition ≡ simple_count scope s
  unfolding simple_count
  count_of_require condition h = rw h

  module _ (f : ℕ) (value : Expression) (h : s ≡ Statement.assign_field f value) (private : Bool)
      (found : private ≡ not (is_everyone (place_owner (field_at scope.fields f).owner none))) where
    pub form_of_field : (i : ℕ) → simple_form scope s i ≡ one_child 18 f (placed_form scope private value i)
    unfolding simple one_part command_tree
    form_of_field i = rw (h, found) (ap (one_child 18 f) (placed_tree scope value (place_owner (field_at scope.fields f).owner none) i))

    pub count_of_field : placed_count scope private value ≡ simple_count scope s
    unfolding simple_count
    count_of_field = rw (h, found)

  module _ (f : ℕ) (key value : Expression) (h : s ≡ Statement.assign_entry f key value) (private : Bool)
      (found : private ≡ not (is_everyone (place_owner (field_at scope.fields f).owner (name_of scope key)))) where
    pub form_of_entry : (i : ℕ) → simple_form scope s i ≡ two_children 19 f (body_form scope key i) (placed_form scope private value (i + body_count scope key))
    unfolding simple two_parts command_tree
    form_of_entry i =
        let o = place_owner (field_at scope.fields f).owner (name_of scope key) in
        rw (h, found)
        (ap (λ (n : ℕ). two_children 19 f (body_form scope key i) (body_tree (in_place (owner_of scope) o value (i + n)).form)) ((body_makes scope key).length i)
        ∙ ap (two_children 19 f (body_form scope key i)) (placed_tree scope value o (i + body_count scope key)))

    pub count_of_entry : body_count scope key + placed_count scope private value ≡ simple_count scope s
    unfolding simple_count
    count_of_entry = rw (h, found)

  pub form_of_sequence : (i : ℕ) (first second : Statement) → s ≡ Statement.sequence first second → simple_form scope s i ≡ leaf 16 0 0 0
  unfolding simple kept command_tree
  form_of_sequence i first second h = rw h

  pub form_of_conditional : (i : ℕ) (condition : Expression) (then else : Statement) → s ≡ Statement.conditional condition then else → simple_form scope s i ≡ leaf 16 0 0 0
  unfolding simple kept command_tree
  form_of_conditional i condition then else h = rw h
