-- The target of a reveal in an accepted file is an owner code of the tables.
use Rattle.std.specs.Prelude.{◌≡◌, ◌&&◌, ◌<◌}
use Rattle.kit.specs.Names.{true, List, ℕ}
use Rattle.definitions.specs.Basics.{is_zero}
use Rattle.definitions.specs.ContractFile.{NodeRecord, node_count, reveal_kind, kind_of}
use Rattle.definitions.specs.Numbers.{kind_in_tables, target_in_tables}
use Rattle.theory_laws.proofs.TruthValues.{and_left}
use Rattle.file_accepted.specs.Context.{Context}
use Rattle.file_accepted.proofs.Nodes.{listed_is}
use Rattle.file_decoded.specs.Slices.{record_at}

pub target_listed : (file : List ℕ) (function_start : ℕ) (source : List ℕ) (context : Context file function_start source) (n : ℕ) (inside : n < node_count file) (r : NodeRecord)
    (same : r ≡ record_at source n) → r.kind ≡ 8 → target_in_tables r.arg ≡ true
unfolding kind_in_tables kind_of
target_listed file function_start source context n inside r same e =
    let h = listed_is file function_start source context n inside r same reveal_kind (rw e) in
    and_left (target_in_tables r.arg) (is_zero r.second) (and_left (target_in_tables r.arg && is_zero r.second) (is_zero r.third) h)
