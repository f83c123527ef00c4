-- The judgements of operators, not and reveal, from those of their operands.
use Rattle.std.specs.Prelude.{◌&&◌, ◌||◌}
use Rattle.kit.specs.Names.{Bool, not, cond, ℕ, min, eqb}
use Rattle.definitions.specs.ContractFile.{data_type_code, is_division, operator_of, result_type}
use Rattle.definitions.specs.Owners.{Links}
use Rattle.rules_codes.specs.Codes.{fit_codes, parts_number}
use Rattle.rules_judgements.specs.Judging.{unread_fault}
use Rattle.rules_judgements.specs.declared.Judged.{Judged}

module _ (linked : Links) where
  abbrev pub operator_judged : ℕ → Judged → Judged → Judged
  operator_judged code left right =
      record {
        kind = data_type_code (result_type (operator_of code));
        owner = parts_number left.owner right.owner;
        name = 0;
        fault = min (min (min (min (min left.fault right.fault)
            (cond (not (fit_codes (operator_of code) left.kind right.kind)) 9 16))
            (unread_fault linked left.owner))
            (unread_fault linked right.owner))
            (cond (is_division (operator_of code) && (not (eqb left.owner 0) || not (eqb right.owner 0))) 12 16);
      }

  abbrev pub negation_judged : Judged → Judged
  negation_judged part =
      record {
        kind = 0;
        owner = parts_number part.owner 0;
        name = 0;
        fault = min (min part.fault (cond (not (eqb part.kind 0)) 9 16)) (unread_fault linked part.owner);
      }

  abbrev pub reveal_judged : ℕ → Bool → Judged → Judged
  reveal_judged target fits part =
      record {
        kind = part.kind;
        owner = target;
        name = 0;
        fault = min (min (min part.fault (cond (not fits) 8 16)) (unread_fault linked part.owner)) (cond (eqb part.owner 0) 13 16);
      }
