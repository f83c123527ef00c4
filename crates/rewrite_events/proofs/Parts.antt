-- An expression's events are those of its parts, with what it makes itself.
use Rattle.std.specs.Prelude.{◌≡◌, ◌&&◌}
use Rattle.kit.specs.Names.{refl, ap, sym, Bool, true, false, cond, not}
use Rattle.definitions.specs.ContractFile.{Owner, everyone, owned_by, Expression, Scope, is_everyone, is_division}
use Rattle.definitions.specs.Owners.{owner_of, is_public}
use Rattle.definitions.specs.Rewriting.{Guard}
use Rattle.theory_laws.proofs.Codes.{everyone_is}
use Rattle.rewrite_events.specs.Events.{Events, supply_events, read_events, body_events, circuit_events, place_events}
use Rattle.rewrite_events.specs.Parts.{is_supplied, is_read, supplied_for, each_part}

other_way : {A : Type 0} (b : Bool) (x y : A) → cond b x y ≡ cond (not b) y x
other_way true x y = refl
other_way false x y = refl

module _ (scope : Scope) (g : Guard) where
  pub body_is : (e : Expression)
      → body_events scope g e ≡ cond (is_supplied scope e) (supply_events g (supplied_for e) e (circuit_events scope g e)) (each_part (body_events scope g) e)
  unfolding body_events circuit_events is_supplied supplied_for each_part
  body_is (Expression.constant t v) = refl
  body_is Expression.me = refl
  body_is (Expression.field f) = refl
  body_is (Expression.entry f key) = refl
  body_is (Expression.parameter k) = refl
  body_is (Expression.operator o left right) = other_way (is_public scope (Expression.operator o left right)) _ _
  body_is (Expression.negation part) = other_way (is_public scope (Expression.negation part)) _ _
  body_is (Expression.reveal part o) = refl

  public_read : (public division : Bool) (owner : Owner) → is_everyone owner ≡ public → (e : Expression) (parts circuits : Events)
      → cond (public && division) (read_events everyone e parts) circuits ≡ cond (public && division) (read_events owner e parts) circuits
  public_read true true owner h e parts circuits = ap (λ (o : Owner). read_events o e parts) (sym (everyone_is owner h))
  public_read true false owner h e parts circuits = refl
  public_read false division owner h e parts circuits = refl

  pub circuit_is : (e : Expression)
      → circuit_events scope g e ≡ cond (is_read scope e) (read_events (owner_of scope e) e (each_part (body_events scope g) e)) (each_part (circuit_events scope g) e)
  unfolding circuit_events is_read each_part
  circuit_is (Expression.constant t v) = refl
  circuit_is Expression.me = refl
  circuit_is (Expression.field f) = refl
  circuit_is (Expression.entry f key) = refl
  circuit_is (Expression.parameter k) = refl
  circuit_is (Expression.operator o left right) =
      public_read (is_public scope (Expression.operator o left right)) (is_division o) (owner_of scope (Expression.operator o left right)) refl _ _ _
  circuit_is (Expression.negation part) = refl
  circuit_is (Expression.reveal part o) = refl

  -- A public value is supplied for a private place, any other value follows the body rule.
  pub place_is : (o : Owner) (e : Expression)
      → place_events scope g o e ≡ cond (is_public scope e && not (is_everyone o)) (supply_events g o e (circuit_events scope g e)) (body_events scope g e)
  place_is everyone e = never (is_public scope e) _ _
    where
      never : {A : Type 0} (b : Bool) (x y : A) → y ≡ cond (b && false) x y
      never true x y = refl
      never false x y = refl
  place_is (owned_by n) e = always (is_public scope e) _ _
    where
      always : {A : Type 0} (b : Bool) (x y : A) → cond b x y ≡ cond (b && true) x y
      always true x y = refl
      always false x y = refl
