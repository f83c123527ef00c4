-- What two runs have in common of an expression, for a party: its value if the party may read it, and all that is supplied for it.
use Rattle.std.specs.Prelude.{◌≡◌, ◌+◌}
use Rattle.kit.specs.Names.{refl, List, [], ℕ, suc}
use Rattle.definitions.specs.ContractFile.{Name, Owner, everyone, owned_by, Expression, Scope}
use Rattle.definitions.specs.Owners.{owner_of, is_public}
use Rattle.definitions.specs.Original.{reader_of, value}
use Rattle.definitions.specs.Rewriting.{Variable, in_body, in_circuit, in_place}
use Rattle.definitions.specs.Ledger.{honest_contents}
use Rattle.theory_secrecy.proofs.AlikeContents.{AlikeContents, alike_itself, alike_cons, alike_made}
use Rattle.theory_secrecy.proofs.Reading.{Reads}
use Rattle.theory_secrecy.proofs.Supplied.{AllSupplied, no_variable, supplied_holds, read_passed, Supplies, supplies_supplying, supplies_cond}

module _ (scope : Scope) (address_of : Name → ℕ) (party : ℕ) (arguments arguments' places places' : List ℕ) where
  -- One value in both runs, if the party may read what this owner owns.
  abbrev pub SameFor : Owner → Expression → Type 0
  SameFor o e = Reads address_of party o → value scope.fields address_of arguments places e ≡ value scope.fields address_of arguments' places' e

  pub record AlikeExpression (e : Expression) : Type 0 where
    pub same : SameFor (owner_of scope e) e
    pub body : Supplies SameFor (in_body (owner_of scope) e)
    pub circuit : Supplies SameFor (in_circuit (owner_of scope) e)

  pub alike_in_place : (o : Owner) (e : Expression) → SameFor o e → AlikeExpression e → Supplies SameFor (in_place (owner_of scope) o e)
  alike_in_place everyone e same h = h.body
  alike_in_place (owned_by n) e same h = supplies_cond (is_public scope e) (supplies_supplying (owned_by n) e same h.circuit) h.body

  -- The honest contents look alike, whatever the call and the first number.
  pub alike_honest : {variables : List Variable} (call i : ℕ) → AllSupplied SameFor variables
      → AlikeContents party (honest_contents scope address_of call arguments places i variables) (honest_contents scope address_of call arguments' places' i variables)
  unfolding honest_contents
  alike_honest call i no_variable = alike_itself party []
  alike_honest call i (supplied_holds {o} {e} same h) =
      alike_cons (alike_made party (reader_of address_of o) call (8 + i) _ _ same) (alike_honest call (suc i) h)
  alike_honest call i (read_passed h) = alike_cons refl (alike_honest call (suc i) h)
