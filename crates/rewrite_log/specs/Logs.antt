-- A log that holds events from a position on.
use Rattle.std.specs.Prelude.{◌≡◌, ◌+◌, ◌*◌, ◌<◌, ◌≤◌}
use Rattle.kit.specs.Names.{List, ℕ, length}
use Rattle.definitions.specs.ContractFile.{Node}
use Rattle.memory_buffer.specs.Buffer.{stored}
use Rattle.rewrite_events.specs.Events.{Event, variable_count}
use Rattle.rewrite_log.specs.declared.Position.{Position}
use Rattle.rewrite_log.specs.declared.Entry.{Entry}
use Rattle.rewrite_log.specs.Entries.{five, Entries}

abbrev pub numbers_of : Entry → List ℕ
numbers_of entry = five entry.tag entry.variable entry.owner entry.node entry.last

-- An entry's numbers are numbers of two bytes.
pub record SmallEntry (entry : Entry) : Type 0 where
  pub tag : entry.tag < 65536
  pub variable : entry.variable < 65536
  pub owner : entry.owner < 65536
  pub node : entry.node < 65536
  pub last : entry.last < 65536

-- A log has room for one entry that makes so many variables, and for its variables' numbers.
pub record Slot (log : List ℕ) (p : Position) (made : ℕ) : Type 0 where
  pub space : p.at + 5 ≤ length log
  pub few : p.variable + made < 65535

-- One entry's numbers stand in the log from position p on, nothing else of it is changed, and r is the position behind them.
pub record Wrote (before after : List ℕ) (p r : Position) (numbers : List ℕ) (made : ℕ) : Type 0 where
  pub held : after ≡ stored before p.at numbers
  pub next : r.at ≡ p.at + 5
  pub variable : r.variable ≡ p.variable + made

-- A log has room for events from a position on, and the numbers of their variables and guards are numbers of two bytes.
pub record Room (log : List ℕ) (p : Position) (events : List Event) : Type 0 where
  pub space : p.at + 5 * length events ≤ length log
  pub few : p.variable + variable_count events < 65535

-- The events stand in the log from position p on, nothing else of it is changed, and r is the position behind them.
pub record Logged (nodes : List Node) (before after : List ℕ) (p r : Position) (events : List Event) : Type 0 where
  pub numbers : List ℕ
  pub entries : Entries nodes events numbers
  pub held : after ≡ stored before p.at numbers
  pub next : r.at ≡ p.at + 5 * length events
  pub variable : r.variable ≡ p.variable + variable_count events
