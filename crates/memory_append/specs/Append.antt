-- What a lent buffer holds once some values are appended from a place on, and the place behind them.
use Rattle.std.specs.Prelude.{◌≡◌, ◌++◌, ◌+◌}
use Rattle.kit.specs.Names.{List, ℕ, length}
use Rattle.memory_buffer.specs.Buffer.{stored}

pub record Appended (held after : List ℕ) (at : ℕ) (values : List ℕ) (end : ℕ) : Type 0 where
  pub contents : after ≡ stored held at values
  pub place : end ≡ at + length values

-- Some of the values are appended, and the rest is left to append.
pub record Appending (held now : List ℕ) (from at : ℕ) (whole rest : List ℕ) : Type 0 where
  pub done : List ℕ
  pub so_far : Appended held now from done at
  pub left : done ++ rest ≡ whole
