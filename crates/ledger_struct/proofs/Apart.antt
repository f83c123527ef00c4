-- The parts that a ledger was taken into: how long they may be, and that they make it again.
use Rattle.std.specs.Prelude.{◌≡◌, ◌*◌, ◌≤◌}
use Rattle.kit.specs.Names.{List, ℕ, min, arith, length, take}
use Rattle.definitions.specs.Ledger as ledger
use Rattle.ledger_contents.specs.Contents.{contents_of}
use Rattle.ledger_struct.specs.declared.LastCall.{LastCall}
use Rattle.ledger_struct.specs.declared.Ledger.{Ledger}
use Rattle.ledger_struct.specs.Ledgers.{ledger_of, ledger_from, Flat}
use Rattle.ledger_struct.proofs.Flat.{take_many, flat_cut}

pub flat_few : (contents : List ledger.Content) (flat : List ℕ) (room count : ℕ) → Flat contents flat room count → length (take count flat) ≤ 5 * room
flat_few contents flat room count f = omega (arith, flat_cut contents flat room count f, f.fits)

pub parts_make : (l : Ledger) (last : LastCall) (many i j k : ℕ) (p v q : List ℕ) → length l.file ≡ 4596 → many ≡ min l.file_length 4596
    → last ≡ record { call = l.call; function = l.function; caller = l.caller; outcome = l.outcome }
    → Flat (ledger_of l).parameters p 8 i → Flat (ledger_of l).variables v 1024 j → Flat (ledger_of l).places q 1024 k
    → ledger_from (take many l.file) last (take i p) (take j v) (contents_of (take k q)) ≡ ledger_of l
unfolding ledger_from ledger_of
parts_make l last many i j k p v q long all told parameters variables places =
    rw (take_many l.file_length many l.file (omega arith), told, parameters.stand, variables.stand, places.stand)
