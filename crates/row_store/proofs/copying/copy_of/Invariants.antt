use Rattle.std.proofs.Common.{◌≡◌, take}
use Rattle.row_store.proofs.copying.copy_of.Given as goal

abbrev pub invariant-loop-change : goal.invariant-loop-change
invariant-loop-change l = record {
  clear : l.copy.clear ≡ l.batch.clear;
  changes : l.copy.changes ≡ take l.change-index l.changes;
}
