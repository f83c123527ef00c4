-- The node that stands there, whose kind and arg are bytes.
use Rattle.kit.specs.Names.{ap, arith}
use Rattle.definitions.specs.ContractFile.{NodeRecord}
use Rattle.file_decoded.proofs.node_at.Goals as goal

pub returns : goal.returns
returns c = let (narrow, there) = c.requires in let read = c.node_from.ensures in
    let kind = ap (λ (r : NodeRecord). r.kind) read.same in let arg = ap (λ (r : NodeRecord). r.arg) read.same in record {
      same = read.same;
      small_kind = omega (arith, kind, narrow.kind _ there);
      small_arg = omega (arith, arg, narrow.arg _ there);
      small_first = read.small_first;
      small_second = read.small_second;
      small_third = read.small_third;
    }
