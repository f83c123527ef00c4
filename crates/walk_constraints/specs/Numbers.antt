-- A function's constraints as flat numbers: guard, variable, owner code and root of each.
use Rattle.std.specs.Prelude.{◌∷◌, ◌<◌}
use Rattle.kit.specs.Names.{List, []}
use Rattle.definitions.specs.ContractFile.{Owner, everyone, owned_by, me_name, final_name, parameter_name}
use Rattle.definitions.specs.Rewriting.{Claim, equals, opens_for_caller, Constraint}

-- A name that has an owner code: of a final, a field below 64.
abbrev pub HasCode : Owner → Type 0
HasCode everyone = Unit {0}
HasCode (owned_by me_name) = Unit {0}
HasCode (owned_by (final_name f)) = f < 64
HasCode (owned_by (parameter_name k)) = Unit {0}

abbrev pub ClaimHasCode : Claim → Type 0
ClaimHasCode (equals i o circuit) = HasCode o
ClaimHasCode (opens_for_caller i) = Unit {0}

pub data AllHaveCodes : List Constraint → Type 0 where
  none : AllHaveCodes []
  more : (c : Constraint) (cs : List Constraint) → ClaimHasCode c.claim → AllHaveCodes cs → AllHaveCodes (c ∷ cs)
