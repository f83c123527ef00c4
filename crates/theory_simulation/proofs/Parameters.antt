-- The honest parameters of a call stand for its arguments.
use Rattle.std.specs.Prelude.{◌≡◌, ◌∷◌, ◌<◌}
use Rattle.kit.specs.Names.{refl, Bool, true, false, cond, List, [], ℕ, zero, suc, arith, length, get_or}
use Rattle.definitions.specs.ContractFile.{Name, me_name, everyone, owned_by, Parameter, Scope, parameter_at}
use Rattle.definitions.specs.Owners.{parameter_owner}
use Rattle.definitions.specs.Original.{anyone, only, reader_of}
use Rattle.definitions.specs.Ledger.{content_for, content_at, honest_parameters}
use Rattle.theory_relations.specs.Standing.{Stands}
use Rattle.theory_relations.specs.Standing.{ParametersStand}

module _ (address_of : Name → ℕ) (caller call : ℕ) (me_calls : address_of me_name ≡ caller) where
  argument_stands : (private : Bool) (index v : ℕ)
      → Stands (reader_of address_of (cond private (owned_by me_name) everyone)) (content_for (cond private (only caller) anyone) call index v) v
  argument_stands true index v = record { call = call; index = index; is = rw me_calls }
  argument_stands false index v = record { call = call; index = index; is = refl }

  -- The parameters from number `index` on.
  each_stands : (index : ℕ) (ps : List Parameter) (arguments : List ℕ) → length arguments ≡ length ps → (k : ℕ) → k < length ps
      → Stands (reader_of address_of (parameter_owner (parameter_at ps k))) (content_at (honest_parameters caller call index ps arguments) k)
      (get_or arguments k 0)
  unfolding honest_parameters
  each_stands index [] arguments e k h = absurd (omega arith)
  each_stands index (p ∷ ps) [] e k h = absurd (omega arith)
  each_stands index (p ∷ ps) (v ∷ arguments) e zero h = argument_stands p.private index v
  each_stands index (p ∷ ps) (v ∷ arguments) e (suc k) h = each_stands (suc index) ps arguments (omega arith) k (omega arith)

  pub honest_parameters_stand : (scope : Scope) (arguments : List ℕ) → length arguments ≡ length scope.parameters
      → ParametersStand scope address_of (honest_parameters caller call 0 scope.parameters arguments) arguments
  honest_parameters_stand scope arguments e = record { each = λ k h. each_stands 0 scope.parameters arguments e k h }
