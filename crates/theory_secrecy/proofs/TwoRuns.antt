-- Two runs of one body that agree on what a party may read, and disclose the same to it: they look the same to it to the end.
use Rattle.std.specs.Prelude.{◌≡◌, ◌∷◌, ◌++◌}
use Rattle.kit.specs.Names.{ap, true, List, [], ℕ, suc, length}
use Rattle.definitions.specs.ContractFile.{Name, Owner, Expression, Statement, Scope}
use Rattle.definitions.specs.Owners.{no_links}
use Rattle.definitions.specs.Original.{completes, disclosed_by}
use Rattle.definitions.specs.Rewriting.{Guard, always, openings, private_parameters}
use Rattle.definitions.specs.Ledger.{honest_contents, honest_variables}
use Rattle.theory_relations.specs.Acceptance.{AcceptedBody}
use Rattle.theory_relations.specs.Environment.{Environment}
use Rattle.theory_relations.specs.Secrecy.{Agree, ArgumentsAgree}
use Rattle.theory_secrecy.proofs.AlikeContents.{AlikeContents, alike_append}
use Rattle.theory_typing.proofs.Links.{no_links_sound}
use Rattle.theory_secrecy.proofs.Supplied.{AllSupplied, no_variable, read_passed}
use Rattle.theory_secrecy.proofs.AlikeExpressions.{alike_honest}
use Rattle.theory_secrecy.proofs.TwoStatements.{AlikeStatement, two_statements}

-- Nothing is supplied for the openings of the private parameters.
pub openings_supply : {Holds : Owner → Expression → Type 0} (parameters : List ℕ) (i : ℕ) → AllSupplied Holds (openings parameters i).variables
unfolding openings
openings_supply [] i = no_variable
openings_supply (k ∷ parameters) i = read_passed (openings_supply parameters (suc i))

module _ (scope : Scope) (body : Statement) (address_of : Name → ℕ) (party : ℕ) (arguments arguments' places places' : List ℕ) (accepted : AcceptedBody scope body)
    (environment : Environment scope address_of arguments places) (environment' : Environment scope address_of arguments' places')
    (agree : Agree party address_of scope.fields places places') (agree_arguments : ArgumentsAgree party address_of scope arguments arguments')
    (same_disclosed : disclosed_by scope.fields address_of arguments party places body ≡ disclosed_by scope.fields address_of arguments' party places' body) where
  outcome : (completes scope.fields address_of arguments places body ≡ completes scope.fields address_of arguments' places' body)
      × (completes scope.fields address_of arguments places body ≡ true
      → (◌≡◌ {A = List ℕ} [] []) × AlikeStatement scope address_of party arguments arguments' no_links body places places')
  outcome =
      (two_statements scope address_of party arguments arguments' accepted.fields agree_arguments no_links body places places' environment environment' agree
      (no_links_sound address_of) accepted.faultless accepted.constants).by [] [] (ap (λ l. l ++ []) same_disclosed)

  pub same_completion : completes scope.fields address_of arguments places body ≡ completes scope.fields address_of arguments' places' body
  same_completion = outcome.0

  module _ (is_complete : completes scope.fields address_of arguments places body ≡ true) where
    pub alike_body : (call : ℕ) (g : Guard) (i : ℕ)
        → AlikeContents party (honest_variables scope address_of call arguments body places g i) (honest_variables scope address_of call arguments' body places' g i)
    alike_body = (outcome.1 is_complete).1.variables

    -- All variables of the function: the openings of its private parameters, then those of its body.
    pub alike_variables : (call : ℕ) →
        let opening = openings (private_parameters 0 scope.parameters) 0 in
        AlikeContents party
        (honest_contents scope address_of call arguments places 0 opening.variables
        ++ honest_variables scope address_of call arguments body places always (length opening.variables))
        (honest_contents scope address_of call arguments' places' 0 opening.variables
        ++ honest_variables scope address_of call arguments' body places' always (length opening.variables))
    alike_variables call =
        let private = private_parameters 0 scope.parameters in
        alike_append (alike_honest scope address_of party arguments arguments' places places' call 0 (openings_supply private 0))
        (alike_body call always (length (openings private 0).variables))
