-- The parts that a script has, and its deployment.
use Rattle.kit.specs.Names.{arith}
use Rattle.test_ledgers.proofs.Reading.{begun_is}
use Rattle.test_ledgers.proofs.recorded.begun.Goals as goal

pub returns : goal.returns
returns c = begun_is _ _ _ _ _ c.read_script-script.ensures c.part-file.ensures c.part-addresses.ensures
    c.deploy-deployment.ensures (omega (arith, c.struct_known-2-1.given))
