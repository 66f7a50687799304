use Rattle.std.proofs.Common.{◌≡◌, ◌+◌, length}
use Rattle.version_compare.specs.Versions.{version_order}
use Rattle.version_compare.proofs.comparing.compare_bytes.Given as goal

abbrev pub invariant-loop-left : goal.invariant-loop-left
invariant-loop-left l = record { same : version_order l.a l.b ≡ version_order l.left l.right }

abbrev pub decreases-loop-left : goal.decreases-loop-left
decreases-loop-left l = length l.left + length l.right
