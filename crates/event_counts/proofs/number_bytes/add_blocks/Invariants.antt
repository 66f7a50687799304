use Rattle.std.proofs.Common.{◌≡◌, ◌++◌, take}
use Rattle.std.specs.List.{flat_map}
use Rattle.event_counts.specs.Rows.{list_bytes}
use Rattle.event_counts.proofs.number_bytes.add_blocks.Given as goal

abbrev pub invariant-loop-block : goal.invariant-loop-block
invariant-loop-block l = l.bytes.items ≡ l.initial.bytes.items ++ flat_map list_bytes (take l.block-index l.blocks)
