use Rattle.std.proofs.Common.{◌≡◌, ◌≤◌, length, take}
use Rattle.fml_types.specs.TypeTexts.{without_end}
use Rattle.fml_types.proofs.type_text.without_end.Given as goal

abbrev pub invariant-loop-len : goal.invariant-loop-len
invariant-loop-len l = (l.len ≤ length l.bytes) × (without_end (take l.len l.bytes) ≡ without_end l.bytes)

abbrev pub decreases-loop-len : goal.decreases-loop-len
decreases-loop-len l = l.len
