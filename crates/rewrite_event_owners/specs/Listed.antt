-- Owners whose codes document 01's tables hold: "16+f final field f (f 0 to 63), 128+k parameter k (k 0 to 7)".
use Rattle.std.specs.Prelude.{◌∷◌, ◌<◌}
use Rattle.kit.specs.Names.{List, []}
use Rattle.definitions.specs.ContractFile.{Owner, everyone, owned_by, me_name, final_name, parameter_name}
use Rattle.rewrite_events.specs.Events.{Event, supplied_event, claimed_event, read_event, guard_event, end_event}

abbrev pub Listed : Owner → Type 0
Listed everyone = Unit {0}
Listed (owned_by me_name) = Unit {0}
Listed (owned_by (final_name f)) = f < 64
Listed (owned_by (parameter_name k)) = k < 8

-- Every owner of a variable or a claim.
unfoldable pub owners_listed : List Event → Type 0
owners_listed [] = Unit {0}
owners_listed (supplied_event i o e ∷ events) = Listed o × owners_listed events
owners_listed (claimed_event g i o e ∷ events) = Listed o × owners_listed events
owners_listed (read_event s j o e ∷ events) = Listed o × owners_listed events
owners_listed (guard_event i ∷ events) = owners_listed events
owners_listed (end_event i ∷ events) = owners_listed events
