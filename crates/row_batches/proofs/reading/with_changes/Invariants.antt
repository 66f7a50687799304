use Rattle.std.proofs.Common.{◌≡◌, ◌++◌, length}
use Rattle.row_batches.specs.Batch.{IsBatch, changes_text}
use Rattle.row_batches.proofs.reading.with_changes.Given as goal

abbrev pub invariant-loop-batch : goal.invariant-loop-batch
invariant-loop-batch l = record {
  clear : l.batch.clear ≡ l.fn.batch.clear;
  read : l.bytes ≡ changes_text l.batch.changes ++ l.rest;
  rules : IsBatch l.batch;
}

abbrev pub decreases-loop-batch : goal.decreases-loop-batch
decreases-loop-batch l = length l.rest
