use Rattle.std.proofs.Common.{◌≡◌, ◌++◌, drop, take}
use Rattle.state_codec.specs.Reading.{before_id, from_id}
use Rattle.state_codec.proofs.row_reading.parts_of.Given as goal

abbrev pub invariant-loop-place : goal.invariant-loop-place
invariant-loop-place l = record {
  first : take l.place l.rows ++ before_id (drop l.place l.rows) ≡ before_id l.rows;
  later : from_id (drop l.place l.rows) ≡ from_id l.rows;
}
