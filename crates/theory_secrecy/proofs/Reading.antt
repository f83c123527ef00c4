-- What a party may read of a value, by the value's owner and the owners of its parts.
use Rattle.std.specs.Prelude.{◌≡◌}
use Rattle.kit.specs.Names.{refl, true, false≢true, ℕ}
use Rattle.definitions.specs.ContractFile.{Name, me_name, Owner, everyone, owned_by, is_everyone}
use Rattle.definitions.specs.Owners.{Links, is_reader, owner_of_parts}
use Rattle.definitions.specs.Numbers.{may_be_put}
use Rattle.definitions.specs.Original.{may_read, reader_of}
use Rattle.theory_typing.proofs.Links.{LinksSound}

module _ (address_of : Name → ℕ) (party : ℕ) where
  abbrev pub Reads : Owner → Type 0
  Reads o = may_read party (reader_of address_of o) ≡ true

  pub reads_public : (o : Owner) → is_everyone o ≡ true → Reads o
  reads_public everyone h = refl
  reads_public (owned_by n) h = absurd (false≢true h)

  module _ (linked : Links) (sound : LinksSound address_of linked) where
    -- The caller reads what it may work with.
    pub reads_caller : (o : Owner) → is_reader linked o ≡ true → Reads (owned_by me_name) → Reads o
    reads_caller everyone h may = refl
    reads_caller (owned_by n) h may = rw (sound.same n me_name h) may

    -- Who reads a place reads what may be put there.
    pub reads_put : (o place : Owner) → may_be_put linked o place ≡ true → Reads place → Reads o
    reads_put everyone place h may = refl
    reads_put (owned_by n) everyone h may = absurd (false≢true h)
    reads_put (owned_by n) (owned_by m) h may = rw (sound.same n m h) may

    -- Who reads an operator's value reads its operands.
    pub reads_parts : (left right : Owner) → is_reader linked left ≡ true → is_reader linked right ≡ true → Reads (owner_of_parts left right) → Reads left × Reads right
    reads_parts everyone everyone h k may = (refl, refl)
    reads_parts everyone (owned_by n) h k may = (refl, reads_caller (owned_by n) k may)
    reads_parts (owned_by n) right h k may = (reads_caller (owned_by n) h may, reads_caller right k may)
