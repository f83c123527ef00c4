-- What an accepted file gives to the test.
use Rattle.std.specs.Prelude.{◌≡◌, ◌<◌, ◌≤◌}
use Rattle.kit.specs.Names.{List, ℕ}
use Rattle.definitions.specs.ContractFile.{byte_at, field_count, function_count}
use Rattle.definitions.specs.Numbers.{check_number}
use Rattle.theory_accepted.proofs.Sentences.{accepted_settled}
use Rattle.file_accepted.specs.Functions.{function_start}
use Rattle.file_accepted.proofs.Accepted.{few_fields_law}
use Rattle.write_function_room.specs.Functions.{FunctionRoom}
use Rattle.write_function_room.proofs.Room.{function_room_alone}

module _ (file : List ℕ) (accepted : check_number file ≡ 0) where
  pub fields_few : field_count file ≤ 64
  fields_few = few_fields_law file (accepted_settled file accepted).counts

  pub room_at : (f at : ℕ) → f < function_count file → at ≡ function_start file f → FunctionRoom file at 0 0
  room_at f at h e = rw e (function_room_alone file accepted f h)

  pub parameters_few : (f at : ℕ) → f < function_count file → at ≡ function_start file f → byte_at file at ≤ 8
  parameters_few f at h e = (room_at f at h e).context.few_parameters
