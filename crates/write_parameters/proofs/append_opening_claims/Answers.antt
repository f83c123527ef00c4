use Rattle.kit.specs.Names.{refl, arith, rules}
use Rattle.write_parameters.proofs.Openings.{claims_start, claim_room, claim_appended, claims_done}
use Rattle.write_parameters.proofs.append_opening_claims.Goals as goal

pub loop-variable-init : goal.loop-variable-init
loop-variable-init c = let args = c.args in (claims_start args.out.now args.from args.count c.requires, refl)

pub append_opening_claim-at-requires : goal.append_opening_claim-at-requires
append_opening_claim-at-requires c = let args = c.args in
    claim_room args.out.now args.from args.count c.requires _ _ c.loop-variable.variable (omega arith) c.loop-variable.invariant.0

pub loop-variable-preserved : goal.loop-variable-preserved
loop-variable-preserved c = let args = c.args in (
  claim_appended args.out.now args.from args.count c.requires _ _ c.loop-variable.variable (omega arith) c.loop-variable.invariant.0 _ _
      c.append_opening_claim-at.ensures,
  search rules,
)

pub returns : goal.returns
returns c = let args = c.args in
    claims_done args.out.now args.from args.count c.requires _ _ c.loop-variable.variable (omega arith) c.loop-variable.invariant.0
