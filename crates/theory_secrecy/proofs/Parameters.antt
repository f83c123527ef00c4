-- The honest parameters of two calls whose arguments agree where the party may read.
use Rattle.std.specs.Prelude.{◌≡◌, ◌||◌, ◌∷◌}
use Rattle.kit.specs.Names.{refl, ap₂, Bool, true, false, cond, not, List, [], ℕ, suc, arith, eqb, length, get_or}
use Rattle.definitions.specs.ContractFile.{Name, me_name, Parameter, Scope, parameter_at}
use Rattle.definitions.specs.Owners.{parameter_owner}
use Rattle.definitions.specs.Original.{anyone, only, may_read, reader_of}
use Rattle.definitions.specs.Ledger.{Content, plain, content_for, honest_parameters, public_of}
use Rattle.theory_relations.specs.Secrecy.{ArgumentsAgree}
use Rattle.theory_secrecy.proofs.AlikeContents.{AlikeContents, alike_itself, alike_cons, alike_made}

module _ (party caller call : ℕ) where
  -- Parameter by parameter: an argument that the party may read is the same in both calls.
  alike_from : (k : ℕ) (parameters : List Parameter) (arguments arguments' : List ℕ) → length arguments ≡ length arguments'
      → ((j : ℕ) → may_read party (cond (parameter_at parameters j).private (only caller) anyone) ≡ true → get_or arguments j 0 ≡ get_or arguments' j 0)
      → AlikeContents party (honest_parameters caller call k parameters arguments) (honest_parameters caller call k parameters arguments')
  unfolding honest_parameters
  alike_from k [] arguments arguments' n h = alike_itself party []
  alike_from k (p ∷ ps) [] [] n h = alike_itself party []
  alike_from k (p ∷ ps) [] (v ∷ arguments') n h = absurd (omega (arith, n))
  alike_from k (p ∷ ps) (v ∷ arguments) [] n h = absurd (omega (arith, n))
  alike_from k (p ∷ ps) (v ∷ arguments) (v' ∷ arguments') n h =
      alike_cons (alike_made party (cond p.private (only caller) anyone) call k v v' (h 0)) (alike_from (suc k) ps arguments arguments' (omega (arith, n)) (λ j. h (suc j)))

  public_from : (k : ℕ) (parameters : List Parameter) (arguments arguments' : List ℕ) → length arguments ≡ length arguments'
      → ((j : ℕ) → (parameter_at parameters j).private ≡ false → get_or arguments j 0 ≡ get_or arguments' j 0)
      → public_of parameters (honest_parameters caller call k parameters arguments) ≡ public_of parameters (honest_parameters caller call k parameters arguments')
  unfolding honest_parameters public_of
  public_from k [] arguments arguments' n h = refl
  public_from k (p ∷ ps) [] [] n h = refl
  public_from k (p ∷ ps) [] (v ∷ arguments') n h = absurd (omega (arith, n))
  public_from k (p ∷ ps) (v ∷ arguments) [] n h = absurd (omega (arith, n))
  public_from k (p ∷ ps) (v ∷ arguments) (v' ∷ arguments') n h =
      go p.private (h 0) (public_from (suc k) ps arguments arguments' (omega (arith, n)) (λ j. h (suc j)))
    where
      go : {l l' : List Content} (private : Bool) → (private ≡ false → v ≡ v') → l ≡ l'
          → cond private l (content_for (cond private (only caller) anyone) call k v ∷ l) ≡ cond private l' (content_for (cond private (only caller) anyone) call k v' ∷ l')
      go true h e = e
      go false h e = ap₂ (λ x y. plain x ∷ y) (h refl) e

reader_of_parameter : (address_of : Name → ℕ) (p : Parameter) → reader_of address_of (parameter_owner p) ≡ cond p.private (only (address_of me_name)) anyone
reader_of_parameter address_of p = go p.private
  where
    go : (private : Bool) → reader_of address_of (parameter_owner (record { type = p.type; private = private })) ≡ cond private (only (address_of me_name)) anyone
    go true = refl
    go false = refl

-- The same public arguments, and the same private ones if the party is the caller.
pub arguments_agree : (party : ℕ) (address_of : Name → ℕ) (scope : Scope) (caller : ℕ) (arguments arguments' : List ℕ) → address_of me_name ≡ caller
    → ((k : ℕ) → (not (parameter_at scope.parameters k).private || eqb caller party) ≡ true → get_or arguments k 0 ≡ get_or arguments' k 0)
    → ArgumentsAgree party address_of scope arguments arguments'
arguments_agree party address_of scope caller arguments arguments' is alike =
    record { each = λ k may. alike k (go (parameter_at scope.parameters k).private (rw (reader_of_parameter address_of (parameter_at scope.parameters k), is) at may)) }
  where
    go : (private : Bool) → may_read party (cond private (only caller) anyone) ≡ true → (not private || eqb caller party) ≡ true
    go true h = h
    go false h = refl

module _ (party : ℕ) (address_of : Name → ℕ) (scope : Scope) (caller call : ℕ) (arguments arguments' : List ℕ) (extent : length arguments ≡ length arguments')
    (agree : ArgumentsAgree party address_of scope arguments arguments') where
  pub alike_parameters : address_of me_name ≡ caller
      → AlikeContents party (honest_parameters caller call 0 scope.parameters arguments) (honest_parameters caller call 0 scope.parameters arguments')
  alike_parameters is =
      alike_from party caller call 0 scope.parameters arguments arguments' extent
      (λ j may. agree.each j (rw (reader_of_parameter address_of (parameter_at scope.parameters j), is) may))

  pub same_public_parameters : public_of scope.parameters (honest_parameters caller call 0 scope.parameters arguments)
      ≡ public_of scope.parameters (honest_parameters caller call 0 scope.parameters arguments')
  same_public_parameters =
      public_from party caller call 0 scope.parameters arguments arguments' extent
      (λ j public. agree.each j (rw (reader_of_parameter address_of (parameter_at scope.parameters j), public)))
