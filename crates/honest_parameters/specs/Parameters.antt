-- What putting down a call's parameters asks, and what picking the public ones leaves.
use Rattle.std.specs.Prelude.{◌≡◌, ◌∷◌, ◌++◌, ◌+◌, ◌*◌, ◌≤◌}
use Rattle.kit.specs.Names.{Bool, cond, List, [], ℕ, length, take}
use Rattle.definitions.specs.ContractFile.{parameter_at, byte_at}
use Rattle.definitions.specs.Original.{Reader, anyone, only}
use Rattle.definitions.specs.Ledger.{Content, public_of}
use Rattle.ledger_contents.specs.Contents.{contents_of}
use Rattle.file_accepted.specs.Context.{parameters_in}

-- The function that begins at a place has few parameters.
pub record ParametersNear (file : List ℕ) (function_start : ℕ) : Type 0 where
  pub near : function_start ≤ 200000
  pub few : byte_at file function_start ≤ 8

-- One argument a parameter, and room for as many contents.
pub record ParametersRoom (file : List ℕ) (function_start : ℕ) (arguments flat : List ℕ) : Type 0 where
  pub place : ParametersNear file function_start
  pub count : length arguments ≡ byte_at file function_start
  pub room : length flat ≡ 5 * length arguments

pub record PublicRoom (file : List ℕ) (function_start : ℕ) (parameters flat : List ℕ) : Type 0 where
  pub place : ParametersNear file function_start
  pub count : length parameters ≡ 5 * byte_at file function_start
  pub room : length parameters ≤ length flat

-- The first r contents are the public parameters.
pub record PublicPut (file : List ℕ) (function_start : ℕ) (parameters flat : List ℕ) (r : ℕ) : Type 0 where
  pub contents : contents_of (take (5 * r) flat) ≡ public_of (parameters_in file function_start) (contents_of parameters)
  pub fits : 5 * r ≤ length flat

abbrev pub is_private : List ℕ → ℕ → ℕ → Bool
is_private file function_start k = (parameter_at (parameters_in file function_start) k).private

-- "a private argument's is the call and parameter": parameter k's reader.
abbrev pub reader_for : List ℕ → ℕ → ℕ → ℕ → Reader
reader_for file function_start k caller = cond (is_private file function_start k) (only caller) anyone

-- Parameter k is put behind the r public ones before it, where it is public.
pub record Picked (private : Bool) (item : Content) (before after : List ℕ) (r next : ℕ) : Type 0 where
  pub contents : take next (contents_of after) ≡ take r (contents_of before) ++ cond private [] (item ∷ [])
  pub few : next ≤ r + 1
