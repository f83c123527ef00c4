-- The parameters of an honest call have the forms that a ledger's own test asks, all of them or the public ones alone.
use Rattle.std.specs.Prelude.{◌≡◌, ◌∷◌}
use Rattle.kit.specs.Names.{refl, Bool, true, false, cond, List, [], map, ℕ, suc, arith, length, get_or}
use Rattle.definitions.specs.ContractFile.{Parameter, parameter_at, is_of_type}
use Rattle.definitions.specs.Original.{anyone, only}
use Rattle.definitions.specs.Ledger.{Content, content_for, Form, fits, all_fit, parameter_form, public_of, honest_parameters}
use Rattle.theory_laws.proofs.TruthValues.{and_both}
use Rattle.theory_typing.proofs.Forms.{stands_fits}

module _ (caller call : ℕ) where
  parameter_fits : (k : ℕ) (p : Parameter) (v : ℕ) → is_of_type p.type v ≡ true
      → fits (parameter_form caller p) (content_for (cond p.private (only caller) anyone) call k v) ≡ true
  parameter_fits k p v typed =
      let reader = cond p.private (only caller) anyone in
      stands_fits p.type reader (content_for reader call k v) v (record { call = call; index = k; is = refl }) typed

  pub parameters_fit : (k : ℕ) (ps : List Parameter) (vs : List ℕ) → length vs ≡ length ps
      → ((j : ℕ) → is_of_type (parameter_at ps j).type (get_or vs j 0) ≡ true)
      → all_fit fits (map (parameter_form caller) ps) (honest_parameters caller call k ps vs) ≡ true
  unfolding honest_parameters all_fit
  parameters_fit k [] vs e typed = refl
  parameters_fit k (p ∷ ps) [] e typed = absurd (omega arith)
  parameters_fit k (p ∷ ps) (v ∷ vs) e typed =
      and_both _ _ (parameter_fits k p v (typed 0)) (parameters_fit (suc k) ps vs (omega arith) (λ j. typed (suc j)))

  pub public_parameters_fit : (k : ℕ) (ps : List Parameter) (vs : List ℕ) → length vs ≡ length ps
      → ((j : ℕ) → is_of_type (parameter_at ps j).type (get_or vs j 0) ≡ true)
      → all_fit fits (public_of ps (map (parameter_form caller) ps)) (public_of ps (honest_parameters caller call k ps vs)) ≡ true
  unfolding honest_parameters all_fit public_of
  public_parameters_fit k [] vs e typed = refl
  public_parameters_fit k (p ∷ ps) [] e typed = absurd (omega arith)
  public_parameters_fit k (p ∷ ps) (v ∷ vs) e typed =
      let here = parameter_fits k p v (typed 0) in
      let later = public_parameters_fit (suc k) ps vs (omega arith) (λ j. typed (suc j)) in
      go p.private _ _ _ _ here later
    where
      go : (b : Bool) (form : Form) (content : Content) (forms : List Form) (contents : List Content) → fits form content ≡ true → all_fit fits forms contents ≡ true
          → all_fit fits (cond b forms (form ∷ forms)) (cond b contents (content ∷ contents)) ≡ true
      go true form content forms contents h hs = hs
      go false form content forms contents h hs = rw (h, hs)
