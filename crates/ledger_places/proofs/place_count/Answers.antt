use Rattle.kit.specs.Names.{arith}
use Rattle.ledger_places.proofs.Positions.{one_place, many_places}
use Rattle.ledger_places.proofs.place_count.Goals as goal

pub returns-then-byte_at-lt-MAPPING : goal.returns-then-byte_at-lt-MAPPING
returns-then-byte_at-lt-MAPPING c = let (f-bound, _) = c.requires in record { value = one_place _ _ f-bound (omega arith); upper_bound = omega arith }

pub returns-else-byte_at-lt-MAPPING : goal.returns-else-byte_at-lt-MAPPING
returns-else-byte_at-lt-MAPPING c = let (f-bound, _) = c.requires in record { value = many_places _ _ f-bound (omega arith); upper_bound = omega arith }
