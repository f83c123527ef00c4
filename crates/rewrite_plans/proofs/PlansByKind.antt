-- What is found of a node, by the kind of its record.
use Rattle.std.specs.Prelude.{◌≡◌, ◌&&◌, ◌+◌, ◌<◌, ◌≤◌}
use Rattle.kit.specs.Names.{refl, ap, sym, ◌∙◌, Bool, true, false, cond, not, false≢true, List, ℕ, suc, arith}
use Rattle.kit.specs.Names.{eqb, eq-eqb, ne_eqb}
use Rattle.definitions.specs.ContractFile.{me_name, Owner, everyone, owned_by, Operator, Expression, Scope, is_everyone, is_division, NodeRecord, node_count, owner_code}
use Rattle.definitions.specs.Owners.{owner_of}
use Rattle.file_accepted.specs.Context.{Context, scope_in}
use Rattle.theory_trees.proofs.ByKind.{field_is, entry_is, parameter_is, operator_is, negation_is, reveal_is, key_below, part_below, revealed_below, operands_below}
use Rattle.file_accepted.proofs.Nodes.{node_reads}
use Rattle.rewrite_owners.proofs.Codes.{public_test}
use Rattle.rewrite_events.specs.Events.{Events, no_events}
use Rattle.rewrite_events.specs.Parts.{is_supplied, is_read, supplied_for, each_part}
use Rattle.rewrite_plans.specs.Plans.{node_expression, SuppliedCode, ReadCode, PartsOf}
use Rattle.rewrite_plans.proofs.Seen.{Seen, seen_constant, seen_field, seen_entry, seen_parameter, seen_operator, seen_negation, seen_reveal, seen_me, seen}
use Rattle.file_decoded.specs.Slices.{record_at}

never_zero : (n : ℕ) → 0 < n → eqb n 0 ≡ false
never_zero n h = ne_eqb n 0 (λ e. absurd (omega arith))

everyone_code : (o : Owner) → is_everyone o ≡ true → owner_code o ≡ 0
everyone_code everyone h = refl
everyone_code (owned_by n) h = absurd (false≢true h)

-- The test of a public division: the owner's code is asked for where the operator divides.
module _ (division answer : Bool) (is : answer ≡ division) (scope : Scope) (e : Expression) where
  module _ (owner : ℕ) (of : owner ≡ owner_code (owner_of scope e)) where
    pub division_read : answer ≡ true → owner ≡ 0 → ◌≡◌ {A = ℕ} 1 (cond (is_everyone (owner_of scope e) && division) 1 0)
    division_read k h = rw (← public_test owner (owner_of scope e) of, eq-eqb owner 0 h, ← is, k)

    pub division_private : (owner ≡ 0 → ⊥) → ◌≡◌ {A = ℕ} 0 (cond (is_everyone (owner_of scope e) && division) 1 0)
    division_private h = rw (← public_test owner (owner_of scope e) of, ne_eqb owner 0 h)

  pub division_not : answer ≡ false → ◌≡◌ {A = ℕ} 0 (cond (is_everyone (owner_of scope e) && division) 1 0)
  division_not k = go (is_everyone (owner_of scope e))
    where
      go : (public : Bool) → ◌≡◌ {A = ℕ} 0 (cond (public && division) 1 0)
      go true = rw (← is, k)
      go false = refl

module _ (scope : Scope) (e : Expression) where
  divided : (public division : Bool) → is_everyone (owner_of scope e) ≡ public → is_read scope e ≡ public && division → ReadCode scope e (cond (public && division) 1 0)
  divided true true t h = record { test = h; owner = λ less. omega (arith, everyone_code (owner_of scope e) t); small = omega arith }
  divided true false t h = record { test = h; owner = λ less. absurd (omega arith); small = omega arith }
  divided false division t h = record { test = h; owner = λ less. absurd (omega arith); small = omega arith }

  pub read_operator : (o : Operator) (left right : Expression) (code : ℕ) → e ≡ Expression.operator o left right
      → code ≡ cond (is_everyone (owner_of scope e) && is_division o) 1 0 → ReadCode scope e code
  unfolding is_read
  read_operator o left right code h k =
      rw k (divided (is_everyone (owner_of scope e)) (is_division o) refl (ap (is_read scope) h ∙ ap (λ (x : Expression). is_everyone (owner_of scope x) && is_division o) (sym h)))

module _ (scope : Scope) (e : Expression) (owner : ℕ) (is : owner ≡ owner_code (owner_of scope e)) where
  public : eqb owner 0 ≡ is_everyone (owner_of scope e)
  public = public_test owner (owner_of scope e) is

  private : (b : Bool) → eqb owner 0 ≡ b → is_supplied scope e ≡ not (is_everyone (owner_of scope e)) → supplied_for e ≡ owned_by me_name → SuppliedCode scope e (cond b 0 2)
  private true t s o = record { test = s ∙ ap not (sym public ∙ t); owner = λ less. absurd (omega arith); small = omega arith }
  private false t s o = record { test = s ∙ ap not (sym public ∙ t); owner = λ less. ap (λ (x : Owner). suc (owner_code x)) (sym o); small = omega arith }

  pub supplied_operator : (o : Operator) (left right : Expression) (code : ℕ) → e ≡ Expression.operator o left right → code ≡ cond (eqb owner 0) 0 2 → SuppliedCode scope e code
  unfolding is_supplied supplied_for
  supplied_operator o left right code h k = rw k (private (eqb owner 0) refl (rw h) (rw h))

  pub supplied_negation : (part : Expression) (code : ℕ) → e ≡ Expression.negation part → code ≡ cond (eqb owner 0) 0 2 → SuppliedCode scope e code
  unfolding is_supplied supplied_for
  supplied_negation part code h k = rw k (private (eqb owner 0) refl (rw h) (rw h))

  pub supplied_reveal : (part : Expression) (o : Owner) → owner ≤ 255 → e ≡ Expression.reveal part o → SuppliedCode scope e (owner + 1)
  unfolding is_supplied supplied_for owner_of
  supplied_reveal part o small h =
      record {
        test = rw h (ap not (sym (never_zero (owner + 1) (omega arith))));
        owner = λ less. (let own : owner ≡ owner_code o = is ∙ ap (λ (x : Expression). owner_code (owner_of scope x)) h in rw h (omega arith));
        small = omega arith;
      }

  pub read_place : owner ≤ 255 → is_read scope e ≡ true → ReadCode scope e (owner + 1)
  read_place small h = record { test = h ∙ ap not (sym (never_zero (owner + 1) (omega arith))); owner = λ less. omega (arith, is); small = omega arith }

kept_code : (scope : Scope) (e : Expression) → is_supplied scope e ≡ false → SuppliedCode scope e 0
kept_code scope e h = record { test = h; owner = λ less. absurd (omega arith); small = omega arith }

unread_code : (scope : Scope) (e : Expression) → is_read scope e ≡ false → ReadCode scope e 0
unread_code scope e h = record { test = h; owner = λ less. absurd (omega arith); small = omega arith }

module _ (file : List ℕ) (function_start : ℕ) (source : List ℕ) (context : Context file function_start source) (n : ℕ) (inside : n < node_count file) (r : NodeRecord)
    (same : r ≡ record_at source n) where
  pub supplied_rest : (r.kind ≡ 6 → ⊥) → (r.kind ≡ 7 → ⊥) → (r.kind ≡ 8 → ⊥) → SuppliedCode (scope_in file function_start) (node_expression file n) 0
  unfolding is_supplied
  supplied_rest a b c = from (seen file function_start source context n inside r same)
    where
      from : Seen file n r → SuppliedCode (scope_in file function_start) (node_expression file n) 0
      from (seen_constant k e) = kept_code _ _ (rw e)
      from (seen_field k e) = kept_code _ _ (rw e)
      from (seen_entry k e) = kept_code _ _ (rw e)
      from (seen_parameter k e) = kept_code _ _ (rw e)
      from (seen_operator k e) = absurd (a k)
      from (seen_negation k e) = absurd (b k)
      from (seen_reveal k e) = absurd (c k)
      from (seen_me e) = kept_code _ _ (rw e)

  pub read_rest : (r.kind ≡ 3 → ⊥) → (r.kind ≡ 4 → ⊥) → (r.kind ≡ 5 → ⊥) → (r.kind ≡ 6 → ⊥) → ReadCode (scope_in file function_start) (node_expression file n) 0
  unfolding is_read
  read_rest a b c d = from (seen file function_start source context n inside r same)
    where
      from : Seen file n r → ReadCode (scope_in file function_start) (node_expression file n) 0
      from (seen_constant k e) = unread_code _ _ (rw e)
      from (seen_field k e) = absurd (a k)
      from (seen_entry k e) = absurd (b k)
      from (seen_parameter k e) = absurd (c k)
      from (seen_operator k e) = absurd (d k)
      from (seen_negation k e) = unread_code _ _ (rw e)
      from (seen_reveal k e) = unread_code _ _ (rw e)
      from (seen_me e) = unread_code _ _ (rw e)

  one_part_law : r.first < n → ((rule : Expression → Events) → each_part rule (node_expression file n) ≡ rule (node_expression file r.first))
      → PartsOf file n (record { count = 1; first = r.first; second = r.second })
  one_part_law less h =
      record {
        first = λ some. less;
        second = λ more. absurd (omega arith);
        none = λ empty. absurd (omega arith);
        one = λ single rule. h rule;
        two = λ more. absurd (omega arith);
      }

  pub parts_entry : r.kind ≡ 4 → PartsOf file n (record { count = 1; first = r.first; second = r.second })
  unfolding each_part
  parts_entry k =
      one_part_law (key_below (node_reads file function_start source context n inside r same) k) (λ rule. ap (each_part rule) (entry_is (node_reads file function_start source context n inside r same) k))

  pub parts_negation : r.kind ≡ 7 → PartsOf file n (record { count = 1; first = r.first; second = r.second })
  unfolding each_part
  parts_negation k =
      one_part_law (part_below (node_reads file function_start source context n inside r same) k) (λ rule. ap (each_part rule) (negation_is (node_reads file function_start source context n inside r same) k))

  pub parts_reveal : r.kind ≡ 8 → PartsOf file n (record { count = 1; first = r.first; second = r.second })
  unfolding each_part
  parts_reveal k =
      one_part_law (revealed_below (node_reads file function_start source context n inside r same) k) (λ rule. ap (each_part rule) (reveal_is (node_reads file function_start source context n inside r same) k))

  pub parts_operator : r.kind ≡ 6 → PartsOf file n (record { count = 2; first = r.first; second = r.second })
  unfolding each_part
  parts_operator k =
      let less = operands_below (node_reads file function_start source context n inside r same) k in
      record {
        first = λ some. less.0;
        second = λ more. less.1;
        none = λ empty. absurd (omega arith);
        one = λ single. absurd (omega arith);
        two = λ more rule. ap (each_part rule) (operator_is (node_reads file function_start source context n inside r same) k);
      }

  pub parts_rest : (r.kind ≡ 4 → ⊥) → (r.kind ≡ 6 → ⊥) → (r.kind ≡ 7 → ⊥) → (r.kind ≡ 8 → ⊥)
      → PartsOf file n (record { count = 0; first = r.first; second = r.second })
  unfolding each_part
  parts_rest a b c d =
      record {
        first = λ some. absurd (omega arith);
        second = λ more. absurd (omega arith);
        none = λ empty rule. without rule (seen file function_start source context n inside r same);
        one = λ single. absurd (omega arith);
        two = λ more. absurd (omega arith);
      }
    where
      without : (rule : Expression → Events) → Seen file n r → each_part rule (node_expression file n) ≡ no_events
      without rule (seen_constant k e) = ap (each_part rule) e
      without rule (seen_field k e) = ap (each_part rule) e
      without rule (seen_entry k e) = absurd (a k)
      without rule (seen_parameter k e) = ap (each_part rule) e
      without rule (seen_operator k e) = absurd (b k)
      without rule (seen_negation k e) = absurd (c k)
      without rule (seen_reveal k e) = absurd (d k)
      without rule (seen_me e) = ap (each_part rule) e

  pub read_field : r.kind ≡ 3 → is_read (scope_in file function_start) (node_expression file n) ≡ true
  unfolding is_read
  read_field k = ap (is_read (scope_in file function_start)) (field_is (node_reads file function_start source context n inside r same) k)

  pub read_entry_law : r.kind ≡ 4 → is_read (scope_in file function_start) (node_expression file n) ≡ true
  unfolding is_read
  read_entry_law k = ap (is_read (scope_in file function_start)) (entry_is (node_reads file function_start source context n inside r same) k)

  pub read_parameter : r.kind ≡ 5 → is_read (scope_in file function_start) (node_expression file n) ≡ true
  unfolding is_read
  read_parameter k = ap (is_read (scope_in file function_start)) (parameter_is (node_reads file function_start source context n inside r same) k)
