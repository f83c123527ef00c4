use Rattle.kit.specs.Names.{rules}
use Rattle.file_decoded.proofs.node_from.Goals as goal

pub returns : goal.returns
returns c = record {
  same = cc;
  small_kind = search rules;
  small_arg = search rules;
  small_first = search rules;
  small_second = search rules;
  small_third = search rules;
}
