-- The judgement that code makes of an operator, not or reveal is right if those of its operands are.
use Rattle.std.specs.Prelude.{◌≡◌, ◌&&◌, ◌||◌, ◌≤◌, ◌<◌}
use Rattle.kit.specs.Names.{refl, Bool, not, ℕ, arith, eqb}
use Rattle.definitions.specs.ContractFile.{Expression, operator, negation, reveal, Scope, is_division, operator_of, type_of}
use Rattle.definitions.specs.Owners.{Links, owner_of, name_of}
use Rattle.definitions.specs.Numbers.{expression_faults, owner_fits}
use Rattle.rules_faults.proofs.Faults.{least_append, least_one, counted_8, counted_9, counted_12, counted_13}
use Rattle.rules_owners.specs.Numbering.{owner_with}
use Rattle.rules_codes.specs.Codes.{fit_codes}
use Rattle.rules_codes.proofs.Codes.{public_code, parts_code_law, parts_listed}
use Rattle.rules_judgements.specs.Judging.{JudgedAs}
use Rattle.rules_judgements.specs.declared.Judged.{Judged}
use Rattle.rules_operators.specs.Operating.{operator_judged, negation_judged, reveal_judged}

module _ (scope : Scope) (linked : Links) (count : ℕ) (enough : 10 ≤ count) where
  pub operator_is : (code : ℕ) (e f : Expression) (left right : Judged) → JudgedAs scope linked count e left → JudgedAs scope linked count f right
      → JudgedAs scope linked count (operator (operator_of code) e f) (operator_judged linked code left right)
  unfolding type_of owner_of name_of expression_faults
  operator_is code e f left right h k =
      record {
        type = refl;
        owner = rw (h.owner, k.owner) (parts_code_law left.owner right.owner);
        name = refl;
        fault = simp least_append
            (rw (h.type, k.type, h.owner, k.owner, h.fault, k.fault, public_code left.owner, public_code right.owner)
            (rw (
              least_one (not (fit_codes (operator_of code) left.kind right.kind)) 9 counted_9,
              least_one (is_division (operator_of code) && (not (eqb left.owner 0) || not (eqb right.owner 0))) 12 counted_12,
            )));
        owner_listed = parts_listed count enough left.owner right.owner;
        name_listed = omega arith;
      }

  pub negation_is : (e : Expression) (part : Judged) → JudgedAs scope linked count e part → JudgedAs scope linked count (negation e) (negation_judged linked part)
  unfolding type_of owner_of name_of expression_faults
  negation_is e part h =
      record {
        type = refl;
        owner = rw h.owner (parts_code_law part.owner 0);
        name = refl;
        fault = simp least_append
            (rw (h.type, h.owner, h.fault, least_one (not (eqb part.kind 0)) 9 counted_9));
        owner_listed = parts_listed count enough part.owner 0;
        name_listed = omega arith;
      }

  pub reveal_is : (target : ℕ) (fits : Bool) (e : Expression) (part : Judged) → target < count → owner_fits scope (owner_with target) ≡ fits
      → JudgedAs scope linked count e part → JudgedAs scope linked count (reveal e (owner_with target)) (reveal_judged linked target fits part)
  unfolding type_of owner_of name_of expression_faults
  reveal_is target fits e part t o h =
      record {
        type = h.type;
        owner = refl;
        name = refl;
        fault = simp least_append
            (rw (o, h.owner, h.fault, public_code part.owner, least_one (not fits) 8 counted_8, least_one (eqb part.owner 0) 13 counted_13));
        owner_listed = t;
        name_listed = omega arith;
      }
