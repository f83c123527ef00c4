-- The item that a mark and a cell of the code make, and the bytes that contents show a party.
use Rattle.kit.specs.Names.{List, map, ℕ}
use Rattle.definitions.specs.Basics.{flat_map}
use Rattle.definitions.specs.Ledger as ledger
use Rattle.definitions.specs.View.{Item, item_for, item_bytes}
use Rattle.ledger_contents.specs.declared.Cell.{Cell}

abbrev pub item_of : ℕ → Cell → Item
item_of mark k = record { mark = mark; owner = k.owner; call = k.call; index = k.index; value = k.value }

unfoldable pub shown : ℕ → List ledger.Content → List ℕ
shown party contents = flat_map item_bytes (map (item_for party) contents)
