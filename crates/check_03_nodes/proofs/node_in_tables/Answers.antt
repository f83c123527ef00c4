use Rattle.kit.specs.Names.{⊎_elim, rules}
use Rattle.definitions.specs.ContractFile.{kind_of}
use Rattle.definitions.specs.Numbers.{kind_in_tables}
use Rattle.file_bytes.specs.Node.{record_of}
use Rattle.check_03_nodes.proofs.NodesByKind.{of_kind, of_no_kind}
use Rattle.check_03_nodes.proofs.node_in_tables.Goals as goal

pub constant_in_tables-requires : goal.constant_in_tables-requires
unfolding kind_of kind_in_tables
constant_in_tables-requires c = search rules

pub target_in_tables-requires : goal.target_in_tables-requires
unfolding kind_of kind_in_tables
target_in_tables-requires c = search rules

pub returns-in-1 : goal.returns-in-1
unfolding kind_of kind_in_tables
returns-in-1 c = rw c.constant_in_tables.ensures (of_kind _ 1 c.in-1.is)

pub returns-in-2 : goal.returns-in-2
unfolding kind_of kind_in_tables
returns-in-2 c = ⊎_elim (of_kind _ 2) (of_kind _ 16) c.in-2.is

pub returns-in-3 : goal.returns-in-3
unfolding kind_of kind_in_tables
returns-in-3 c = ⊎_elim (of_kind _ 3) (of_kind _ 5) c.in-3.is

pub returns-in-4 : goal.returns-in-4
unfolding kind_of kind_in_tables
returns-in-4 c = ⊎_elim (of_kind _ 4) (of_kind _ 18) c.in-4.is

pub returns-in-6 : goal.returns-in-6
unfolding kind_of kind_in_tables
returns-in-6 c = of_kind _ 6 c.in-6.is

pub returns-in-7 : goal.returns-in-7
unfolding kind_of kind_in_tables
returns-in-7 c = ⊎_elim (of_kind _ 7) (of_kind _ 20) c.in-7.is

pub returns-in-8 : goal.returns-in-8
unfolding kind_of kind_in_tables
returns-in-8 c = rw c.target_in_tables.ensures (of_kind _ 8 c.in-8.is)

pub returns-in-17 : goal.returns-in-17
unfolding kind_of kind_in_tables
returns-in-17 c = of_kind _ 17 c.in-17.is

pub returns-in-19 : goal.returns-in-19
unfolding kind_of kind_in_tables
returns-in-19 c = of_kind _ 19 c.in-19.is

pub returns-in-21 : goal.returns-in-21
unfolding kind_of kind_in_tables
returns-in-21 c = of_kind _ 21 c.in-21.is

pub returns-in_default : goal.returns-in_default
unfolding kind_of kind_in_tables
returns-in_default c = of_no_kind (record_of c.args.node) (search rules) (search rules)
    (search rules) (search rules) (search rules) (search rules) (search rules)
    (search rules) (search rules) (search rules)
