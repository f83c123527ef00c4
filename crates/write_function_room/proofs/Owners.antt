-- Listed owners have codes that are bytes.
use Rattle.std.specs.Prelude.{◌∷◌, ◌<◌}
use Rattle.kit.specs.Names.{List, [], arith}
use Rattle.definitions.specs.ContractFile.{me_name, final_name, parameter_name, Owner, everyone, owned_by, owner_code}
use Rattle.rewrite_events.specs.Events.{Event, supplied_event, claimed_event, read_event, guard_event, end_event}
use Rattle.rewrite_event_owners.specs.Listed.{Listed, owners_listed}
use Rattle.write_variables.specs.Variables.{owners_fit}

code_small : (o : Owner) → Listed o → owner_code o < 256
code_small everyone h = omega arith
code_small (owned_by me_name) h = omega arith
code_small (owned_by (final_name f)) h = omega arith
code_small (owned_by (parameter_name k)) h = omega arith

pub owners_fit_law : (events : List Event) → owners_listed events → owners_fit events
unfolding owners_listed owners_fit
owners_fit_law [] h = tt
owners_fit_law (supplied_event i o e ∷ events) h = (code_small o h.0, owners_fit_law events h.1)
owners_fit_law (claimed_event g i o e ∷ events) h = owners_fit_law events h.1
owners_fit_law (read_event s j o e ∷ events) h = (code_small o h.0, owners_fit_law events h.1)
owners_fit_law (guard_event i ∷ events) h = owners_fit_law events h
owners_fit_law (end_event i ∷ events) h = owners_fit_law events h
