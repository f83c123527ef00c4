-- The codes of / and % are 3 and 4.
use Rattle.std.specs.Prelude.{◌≡◌, ◌&&◌}
use Rattle.kit.specs.Names.{refl, Bool, true, false, ℕ}
use Rattle.definitions.specs.ContractFile.{Expression, Scope, is_division, operator_of}
use Rattle.definitions.specs.Owners.{is_public}
use Rattle.theory_laws.proofs.Codes.{other_operator}

-- A public division, by the operator's code.
module _ (public : Bool) (code : ℕ) where
  pub divides : (flag : Bool) → flag ≡ public → code ≡ 3 → flag ≡ (public && is_division (operator_of code))
  divides flag h e = rw (e, h) (go public)
    where
      go : (b : Bool) → b ≡ (b && true)
      go true = refl
      go false = refl

  pub leaves_rest : (flag : Bool) → flag ≡ public → code ≡ 4 → flag ≡ (public && is_division (operator_of code))
  leaves_rest flag h e = rw (e, h) (go public)
    where
      go : (b : Bool) → b ≡ (b && true)
      go true = refl
      go false = refl

pub neither : (scope : Scope) (e : Expression) (code : ℕ) → (code ≡ 3 → ⊥) → (code ≡ 4 → ⊥) → false ≡ (is_public scope e && is_division (operator_of code))
neither scope e code h k = rw (other_operator code h k) (go (is_public scope e))
  where
    go : (b : Bool) → false ≡ (b && false)
    go true = refl
    go false = refl
