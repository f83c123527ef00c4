-- Links only ever help: with more of them a tree has no fault that it had not.
use Rattle.std.specs.Prelude.{◌≡◌, ◌&&◌, ◌||◌, ◌++◌}
use Rattle.kit.specs.Names.{refl, true, not, List, none, ℕ, leb, length}
use Rattle.definitions.specs.Basics.{is_zero}
use Rattle.definitions.specs.ContractFile.{boolean, me_name, Owner, everyone, owned_by, Expression, constant, me, field, entry, parameter}
use Rattle.definitions.specs.ContractFile.{operator, negation, reveal, Statement, skip, sequence, assign_field, assign_entry, require}
use Rattle.definitions.specs.ContractFile.{conditional, Scope, field_at, same_type, shape_code, is_mapping, is_division, operands_fit, type_of}
use Rattle.definitions.specs.Owners.{Links, is_reader, place_owner, name_of, owner_of, is_public, links_of_condition, links_after}
use Rattle.definitions.specs.Numbers.{fault, may_be_put, owner_fits, entry_faults, read_fault, expression_faults, condition_faults, value_faults}
use Rattle.definitions.specs.Numbers.{statement_faults}
use Rattle.theory_laws.proofs.GrowingLinks.{Within, condition_grows, condition_within, after_within, within_chain}
use Rattle.theory_nothing_lost.specs.Claims.{Among}
use Rattle.theory_nothing_lost.specs.Base.{base_links_after, base_statement_faults}
use Rattle.theory_nothing_lost.proofs.Numbers.{not_implied, among_itself, among_append, among_fault}
use Rattle.theory_nothing_lost.proofs.MoreLinks.{base_within}

both : {a b c d : List ℕ} → Among a c → Among b d → Among (a ++ b) (c ++ d)
both {a} {b} {c} {d} p q = among_append a b c d p q

same : {a : List ℕ} → Among a a
same {a} = among_itself a

module _ (scope : Scope) where
  module _ (fewer more : Links) (within : Within fewer more) where
    reader_helps : (o : Owner) → is_reader fewer o ≡ true → is_reader more o ≡ true
    reader_helps everyone h = refl
    reader_helps (owned_by n) h = within.each n me_name h

    put_helps : (value place : Owner) → may_be_put fewer value place ≡ true → may_be_put more value place ≡ true
    put_helps everyone place h = refl
    put_helps (owned_by n) everyone h = h
    put_helps (owned_by n) (owned_by m) h = within.each n m h

    read_helps : (e : Expression) → Among (read_fault scope more e) (read_fault scope fewer e)
    read_helps e =
        among_fault (not (is_reader more (owner_of scope e))) (not (is_reader fewer (owner_of scope e))) 11
        (not_implied (is_reader fewer (owner_of scope e)) (is_reader more (owner_of scope e)) (reader_helps (owner_of scope e)))

    expression_helps : (e : Expression) → Among (expression_faults scope more e) (expression_faults scope fewer e)
    unfolding expression_faults
    expression_helps (constant t v) = same
    expression_helps me = same
    expression_helps (field f) = both (same {a = fault (is_mapping (field_at scope.fields f).shape) 8}) (read_helps (field f))
    expression_helps (entry f key) = both (both (expression_helps key) (same {a = entry_faults scope f key})) (read_helps (entry f key))
    expression_helps (parameter k) = both (same {a = fault (leb (length scope.parameters) k) 8}) (read_helps (parameter k))
    expression_helps (operator o left right) =
        both (both (both (both (both (expression_helps left) (expression_helps right))
        (same {a = fault (not (operands_fit o (type_of scope left) (type_of scope right))) 9})) (read_helps left)) (read_helps right))
        (same {a = fault (is_division o && (not (is_public scope left) || not (is_public scope right))) 12})
    expression_helps (negation part) =
        both (both (expression_helps part) (same {a = fault (not (same_type (type_of scope part) boolean)) 9})) (read_helps part)
    expression_helps (reveal part o) =
        both (both (both (expression_helps part) (same {a = fault (not (owner_fits scope o)) 8})) (read_helps part))
        (same {a = fault (is_public scope part) 13})

    condition_helps : (e : Expression) → Among (condition_faults scope more e) (condition_faults scope fewer e)
    condition_helps e =
        both (both (expression_helps e) (same {a = fault (not (same_type (type_of scope e) boolean)) 9})) (same {a = fault (not (is_public scope e)) 14})

    value_helps : (f : ℕ) (place : Owner) (e : Expression) → Among (value_faults scope more f place e) (value_faults scope fewer f place e)
    value_helps f place e =
        both (both (expression_helps e) (same {a = fault (not (same_type (type_of scope e) (field_at scope.fields f).type)) 9}))
        (among_fault (not (may_be_put more (owner_of scope e) place)) (not (may_be_put fewer (owner_of scope e) place)) 15
        (not_implied (may_be_put fewer (owner_of scope e) place) (may_be_put more (owner_of scope e) place) (put_helps (owner_of scope e) place)))

    field_helps : (f : ℕ) (e : Expression) → Among (statement_faults scope more (assign_field f e)) (statement_faults scope fewer (assign_field f e))
    unfolding statement_faults
    field_helps f e =
        both (same {a = fault (not (is_zero (shape_code (field_at scope.fields f).shape))) 8})
        (value_helps f (place_owner (field_at scope.fields f).owner none) e)

    entry_helps : (f : ℕ) (key e : Expression) → Among (statement_faults scope more (assign_entry f key e)) (statement_faults scope fewer (assign_entry f key e))
    unfolding statement_faults
    entry_helps f key e =
        both (both (expression_helps key) (same {a = entry_faults scope f key}))
        (value_helps f (place_owner (field_at scope.fields f).owner (name_of scope key)) e)

  -- "Links only ever help", by the amended rule.
  pub statement_helps : (s : Statement) (fewer more : Links) → Within fewer more → Among (statement_faults scope more s) (statement_faults scope fewer s)
  unfolding statement_faults
  statement_helps skip fewer more within = same
  statement_helps (sequence first second) fewer more within =
      both (statement_helps first fewer more within)
      (statement_helps second (links_after scope first fewer) (links_after scope first more) (after_within scope first fewer more within))
  statement_helps (assign_field f e) fewer more within = field_helps fewer more within f e
  statement_helps (assign_entry f key e) fewer more within = entry_helps fewer more within f key e
  statement_helps (require condition) fewer more within = condition_helps fewer more within condition
  statement_helps (conditional condition then else) fewer more within =
      both (both (condition_helps fewer more within condition)
      (statement_helps then (links_of_condition scope condition fewer) (links_of_condition scope condition more) (condition_within scope condition fewer more within)))
      (statement_helps else fewer more within)

  -- A statement has no fault by the amended rule that it had not by the base's.
  pub base_helps : (s : Statement) (fewer more : Links) → Within fewer more → Among (statement_faults scope more s) (base_statement_faults scope fewer s)
  unfolding statement_faults base_statement_faults
  base_helps skip fewer more within = same
  base_helps (sequence first second) fewer more within =
      both (base_helps first fewer more within)
      (base_helps second (base_links_after scope first fewer) (links_after scope first more) (base_within scope first fewer more within))
  base_helps (assign_field f e) fewer more within = field_helps fewer more within f e
  base_helps (assign_entry f key e) fewer more within = entry_helps fewer more within f key e
  base_helps (require condition) fewer more within = condition_helps fewer more within condition
  base_helps (conditional condition then else) fewer more within =
      both (both (condition_helps fewer more within condition)
      (base_helps then fewer (links_of_condition scope condition more) (within_chain within (condition_grows scope condition more))))
      (base_helps else fewer more within)
