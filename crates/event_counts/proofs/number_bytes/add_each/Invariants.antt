use Rattle.std.proofs.Common.{◌≡◌, ◌++◌, take}
use Rattle.event_counts.specs.Rows.{list_bytes}
use Rattle.event_counts.proofs.number_bytes.add_each.Given as goal

abbrev pub invariant-loop-number : goal.invariant-loop-number
invariant-loop-number l = l.bytes.items ≡ l.initial.bytes.items ++ list_bytes (take l.number-index l.numbers)
