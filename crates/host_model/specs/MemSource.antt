-- A source in memory.
use Rattle.std.specs.Prelude.{ℕ, ◌+◌, ◌-◌, ◌^◌, min, List, drop}
use Rattle.host_model.specs.FailingCalls.{FailingCalls, counted}

-- the bytes that are left, how many of them a read gives at most, which reads fail, and how many have failed
pub record MemSource : Type 0 where
  pub left : List ℕ
  pub piece : ℕ
  pub calls : FailingCalls
  pub faults : ℕ

-- a read that placed n bytes
abbrev pub with_read : MemSource → ℕ → MemSource
with_read source n = record { left = drop n source.left; piece = source.piece; calls = counted source.calls; faults = source.faults }

-- a read that failed
abbrev pub with_fault : MemSource → MemSource
with_fault source = record { left = source.left; piece = source.piece; calls = counted source.calls; faults = min (source.faults + 1) (2 ^ 64 - 1) }
