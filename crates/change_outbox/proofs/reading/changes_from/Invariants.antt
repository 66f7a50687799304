use Rattle.std.proofs.Common.{◌≡◌, ◌+◌, map, take}
use Rattle.change_outbox.specs.Contents.{AreNumberedFrom, HaveSlugs}
use Rattle.change_outbox.specs.Rows.{change_row}
use Rattle.change_outbox.proofs.reading.changes_from.Given as goal

abbrev pub invariant-loop-row : goal.invariant-loop-row
invariant-loop-row l = record {
  rows : map change_row l.changes.items ≡ take l.row-index l.rows;
  numbers : AreNumberedFrom l.first l.changes.items;
  slugs : HaveSlugs l.changes.items;
  number : l.number ≡ l.first + l.row-index;
}
