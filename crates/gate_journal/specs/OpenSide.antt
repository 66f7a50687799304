-- How contracts see a journal.
use Rattle.std.specs.Prelude.{ℕ}
use Rattle.host_model.specs.declared.side.Side.{Side}

-- a side that is open, its generation, and the place of the gate that ends its records
pub record OpenSide : Type 0 where
  pub side : Side
  pub generation : ℕ
  pub place : ℕ
