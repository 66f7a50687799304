use Rattle.std.proofs.Common.{◌≡◌, ◌++◌, take}
use Rattle.row_batches.specs.Batch.{changes_text}
use Rattle.row_batches.proofs.writing.put_changes.Given as goal

abbrev pub invariant-loop-change : goal.invariant-loop-change
invariant-loop-change l = l.bytes.items ≡ l.fn.bytes.items ++ changes_text (take l.change-index l.changes)
