-- Names that have a class of their own, and their numbers.
use Rattle.std.specs.Prelude.{◌≡◌, ◌+◌, ◌≤◌, ◌<◌}
use Rattle.kit.specs.Names.{true, ℕ, arith, ltb-true, lt-ltb}
use Rattle.definitions.specs.ContractFile.{Name, me_name, final_name, parameter_name}
use Rattle.rules_owners.specs.Numbering.{name_numbered, number_of_name}
use Rattle.rules_owners.proofs.Numbering.{Numbered, caller, argument, final, numbered, argument_numbered, final_numbered}
use Rattle.rules_links.specs.Classes.{known}

pub known_number : (count n : ℕ) → n < count → (n ≡ 0 → ⊥) → known count (name_numbered n) ≡ true
known_number count n h some_name = go (numbered n some_name)
  where
    go : Numbered n → known count (name_numbered n) ≡ true
    go (caller e) = rw e
    go (argument k p e) = rw (e, argument_numbered k p) (lt-ltb k 8 p)
    go (final f e) = rw (e, final_numbered f) (lt-ltb (10 + f) count (omega arith))

pub known_below : (count : ℕ) → 10 ≤ count → (name : Name) → known count name ≡ true → number_of_name name < count
known_below count enough me_name h = omega arith
known_below count enough (final_name f) h = ltb-true (10 + f) count h
known_below count enough (parameter_name k) h = let x = ltb-true k 8 h in omega arith
