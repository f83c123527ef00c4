-- What the judgement of an expression says, and how it comes from those of its parts.
use Rattle.std.specs.Prelude.{◌≡◌, ◌&&◌, ◌||◌, ◌+◌, ◌<◌}
use Rattle.kit.specs.Names.{not, cond, ℕ, min, eqb, leb}
use Rattle.definitions.specs.ContractFile.{Expression, Scope, data_type_code, type_of}
use Rattle.definitions.specs.Owners.{Links, owner_of, name_of, is_reader}
use Rattle.definitions.specs.Numbers.{expression_faults, fault}
use Rattle.rules_faults.specs.Faults.{least_fault}
use Rattle.rules_owners.specs.Numbering.{name_with, owner_with}
use Rattle.rules_scopes.specs.declared.Declared.{Declared}
use Rattle.rules_scopes.specs.declared.Given.{Given}
use Rattle.rules_codes.specs.Codes.{place_number}
use Rattle.rules_judgements.specs.declared.Judged.{Judged}

-- Owner and name are numbers below a count, that of the classes.
pub record JudgedAs (scope : Scope) (linked : Links) (count : ℕ) (e : Expression) (r : Judged) : Type 0 where
  pub type : data_type_code (type_of scope e) ≡ r.kind
  pub owner : owner_of scope e ≡ owner_with r.owner
  pub name : name_of scope e ≡ name_with r.name
  pub fault : least_fault (expression_faults scope linked e) ≡ r.fault
  pub owner_listed : r.owner < count
  pub name_listed : r.name < count

abbrev pub constant_judged : ℕ → Judged
constant_judged code = record { kind = code; owner = 0; name = 0; fault = 16 }

abbrev pub me_judged : Judged
me_judged = record { kind = 2; owner = 0; name = 1; fault = 16 }

-- A key: its mapping's shape, its data type, and that it is public and, for a tag, a name.
abbrev pub entry_fault : Declared → Judged → ℕ
entry_fault d key =
    min (min (cond (not (eqb d.shape 2)) 8 16) (cond (not (eqb key.kind 2)) 9 16))
    (cond (not (eqb key.owner 0) || (d.tagged && eqb key.name 0)) 10 16)

abbrev pub final_name_number : ℕ → Declared → ℕ
final_name_number f d = cond (eqb d.shape 1) (10 + f) 0

abbrev pub argument_name : ℕ → Given → ℕ
argument_name k p = cond (eqb p.owner 0) (cond (eqb p.kind 2) (2 + k) 0) 0

module _ (linked : Links) where
  abbrev pub unread_fault : ℕ → ℕ
  unread_fault owner = least_fault (fault (not (is_reader linked (owner_with owner))) 11)

  abbrev pub field_judged : ℕ → Declared → Judged
  field_judged f d =
      record {
        kind = d.kind;
        owner = place_number d 0;
        name = final_name_number f d;
        fault = min (cond (eqb d.shape 2) 8 16) (unread_fault (place_number d 0));
      }

  abbrev pub entry_judged : Declared → Judged → Judged
  entry_judged d key =
      record {
        kind = d.kind;
        owner = place_number d key.name;
        name = 0;
        fault = min (min key.fault (entry_fault d key)) (unread_fault (place_number d key.name));
      }

  abbrev pub parameter_judged : ℕ → ℕ → Given → Judged
  parameter_judged k count p =
      record {
        kind = p.kind;
        owner = cond (not (eqb p.owner 0)) 1 0;
        name = argument_name k p;
        fault = min (cond (leb count k) 8 16) (unread_fault (cond (not (eqb p.owner 0)) 1 0));
      }
