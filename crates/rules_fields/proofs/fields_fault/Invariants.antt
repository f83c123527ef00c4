-- The least so far, and the faults of the fields ahead, make the least of all.
use Rattle.std.specs.Prelude.{◌≡◌, ◌≤◌}
use Rattle.rules_fields.specs.Fields.{fields_in, all_fields_fault}
use Rattle.rules_faults.specs.Faults.{least_fault}
use Rattle.definitions.specs.Numbers.{field_faults}
use Rattle.definitions.specs.Basics.{flat_map}
use Rattle.kit.specs.Names.{min, drop}
use Rattle.rules_fields.proofs.fields_fault.Given as goal

abbrev pub invariant-loop-f : goal.invariant-loop-f
invariant-loop-f l = (l.fault ≤ 16) ×
    (min l.fault (least_fault (flat_map (field_faults (fields_in l.fields)) (drop l.f (fields_in l.fields)))) ≡ all_fields_fault l.fields)
