use Rattle.kit.specs.Names.{eq-eqb, ne_eqb}
use Rattle.file_bytes.specs.Node.{record_of}
use Rattle.check_04_nodes.proofs.Naming.{arg_asked}
use Rattle.check_04_nodes.proofs.arg_names_nothing.Goals as goal

pub returns-then-kind-eq-REVEAL : goal.returns-then-kind-eq-REVEAL
returns-then-kind-eq-REVEAL c = rw (c.is_final_code.ensures, c.final_number.ensures)
    (rw (eq-eqb _ _ c.if-kind-eq-REVEAL.true) at (arg_asked c.args.fields (record_of c.args.node)))

pub returns : goal.returns
returns c = rw (ne_eqb _ _ c.if-kind-eq-REVEAL.false) at (arg_asked c.args.fields (record_of c.args.node))
