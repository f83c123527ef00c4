-- The private parameters of a call are read first, and open for the caller.
use Rattle.std.specs.Prelude.{◌≡◌, ◌∷◌, ◌++◌, ◌+◌, ◌<◌}
use Rattle.kit.specs.Names.{refl, ap, sym, ◌∙◌, subst, Bool, true, false, cond, List, [], ℕ, suc, arith, add-zero}
use Rattle.kit.specs.Names.{zero-add, length, get_or, set, get_or_at, set_at, append_snoc}
use Rattle.definitions.specs.Basics.{all}
use Rattle.definitions.specs.ContractFile.{me_name, Parameter, parameter_at, type_of}
use Rattle.definitions.specs.Rewriting.{private_parameters, openings}
use Rattle.definitions.specs.Original.{only}
use Rattle.definitions.specs.Ledger.{Content, plain, content_at, content_of, is_walked, honest_contents}
use Rattle.theory_relations.specs.Standing.{Stands}
use Rattle.theory_simulation.proofs.Truth.{length_with_one}
use Rattle.theory_simulation.proofs.Standing.{stands_opens}
use Rattle.theory_simulation.proofs.Held.{none, next, holding}
use Rattle.theory_simulation.proofs.Pieces.{Call, claims_hold, after_steps, steps_walked, honest, Faithful}
use Rattle.theory_simulation.proofs.Expressions.{CallStands}

-- Parameters, by their numbers, that are declared and private.
pub data AllPrivate (parameters : List Parameter) : List ℕ → Type 0 where
  none_private : AllPrivate parameters []
  private_then : {k : ℕ} {ks : List ℕ} → k < length parameters → (parameter_at parameters k).private ≡ true → AllPrivate parameters ks
      → AllPrivate parameters (k ∷ ks)

-- The parameters from number k on, among all.
private_from : (parameters ps : List Parameter) (k : ℕ) → k + length ps ≡ length parameters
    → ((j : ℕ) → parameter_at ps j ≡ parameter_at parameters (k + j))
    → AllPrivate parameters (private_parameters k ps)
unfolding private_parameters
private_from parameters [] k e h = none_private
private_from parameters (p ∷ ps) k e h =
    either p.private refl
    (private_from parameters ps (suc k) (omega arith) (λ j. let s : k + suc j ≡ suc k + j = omega arith in h (suc j) ∙ ap (parameter_at parameters) s))
  where
    either : (b : Bool) → p.private ≡ b → AllPrivate parameters (private_parameters (suc k) ps)
        → AllPrivate parameters (cond b (k ∷ private_parameters (suc k) ps) (private_parameters (suc k) ps))
    either true d rest = private_then {k = k} (omega arith) (rw (add-zero, d) at (ap (λ q. q.private) (sym (h 0)))) rest
    either false d rest = rest

pub private_parameters_law : (parameters : List Parameter) → AllPrivate parameters (private_parameters 0 parameters)
private_parameters_law parameters = private_from parameters parameters 0 (zero-add (length parameters))
    (λ j. ap (parameter_at parameters) (sym (zero-add j)))

module _ (c : Call) (places : List Content) (numbers : List ℕ) (stand : CallStands c places numbers) where
  private_stands : (k : ℕ) → k < length c.scope.parameters → (parameter_at c.scope.parameters k).private ≡ true
      → Stands (only (c.address_of me_name)) (content_at c.parameters k) (get_or c.arguments k 0)
  private_stands k h private = rw private at (stand.parameters.each k h)

  -- The private parameters are read, and open for the caller.
  pub openings_faithful : (ks : List ℕ) → AllPrivate c.scope.parameters ks → (i : ℕ)
      → Faithful c places numbers {R = Unit {0}} (λ variables form. tt) (λ variables form. true) (λ result. Unit {0}) (openings ks) true i
  unfolding openings content_of is_walked honest_contents claims_hold all type_of
  openings_faithful [] h i =
      record {
        finals = [];
        held = none;
        result = tt;
        good = tt;
        walked_before = true;
        walked_then = true;
        both = refl;
        steps = λ xs ys z. refl;
        steps_walk = λ xs ys z. refl;
        gives = λ xs ys z. refl;
        form_walks = λ xs ys z. refl;
        claims = λ xs ys z. refl;
      }
  openings_faithful (k ∷ ks) (private_then below private h) i =
      let u = openings_faithful ks h (suc i) in
      let x = content_at c.parameters k in
      let stands = private_stands k below private in
      let later = honest c numbers (suc i) (openings ks (suc i)).variables in
      let seam : (xs ys : List Content) → length xs ≡ i → set (xs ++ (plain 0 ∷ (later ++ ys))) i x ≡ (xs ++ (x ∷ [])) ++ (later ++ ys) =
      λ xs ys z. set_at xs (plain 0) (later ++ ys) x i z ∙ sym (append_snoc xs x (later ++ ys)) in
      let there : (xs : List Content) → length xs ≡ i → length (xs ++ (x ∷ [])) ≡ suc i = λ xs z. length_with_one xs x i z in
      record {
        finals = x ∷ u.finals;
        held = next (holding (get_or c.arguments k 0) (stand.environment.arguments k) stands) u.held;
        result = tt;
        good = tt;
        walked_before = u.walked_before;
        walked_then = u.walked_then;
        both = u.both;
        steps = λ xs ys z.
            ap (λ variables. after_steps c places variables (openings ks (suc i)).steps) (seam xs ys z) ∙ u.steps (xs ++ (x ∷ [])) ys (there xs z)
            ∙ append_snoc xs x (u.finals ++ ys);
        steps_walk = λ xs ys z. ap (λ variables. steps_walked c places variables (openings ks (suc i)).steps) (seam xs ys z)
            ∙ u.steps_walk (xs ++ (x ∷ [])) ys (there xs z);
        gives = λ xs ys z. refl;
        form_walks = λ xs ys z. u.form_walks (xs ++ (x ∷ [])) ys (there xs z);
        claims = λ xs ys z.
            rw (get_or_at xs x (u.finals ++ ys) (plain 0) i z, stands_opens (c.address_of me_name) stands)
            (subst (λ (zs : List Content). claims_hold c zs (openings ks (suc i)).claims ≡ true) (append_snoc xs x (u.finals ++ ys))
            (u.claims (xs ++ (x ∷ [])) ys (there xs z)));
      }
