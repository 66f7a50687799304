use Rattle.std.proofs.Common.{◌≡◌, take}
use Rattle.std.specs.List.{AllByRecursion}
use Rattle.event_counts.specs.Rows.{rows_of}
use Rattle.event_counts.specs.Sound.{IsSoundName}
use Rattle.event_counts.proofs.reading.names_of.Given as goal

abbrev pub invariant-loop-row : goal.invariant-loop-row
invariant-loop-row l = record {
  rows : rows_of l.names.items ≡ take l.row-index l.rows;
  sound : AllByRecursion IsSoundName l.names.items;
}
