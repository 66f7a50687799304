use Rattle.std.proofs.Common.{◌≡◌, length}
use Rattle.fml_types.specs.TypeTexts.{without_front}
use Rattle.fml_types.proofs.type_text.without_front.Given as goal

abbrev pub invariant-loop-rest : goal.invariant-loop-rest
invariant-loop-rest l = without_front l.rest ≡ without_front l.bytes

abbrev pub decreases-loop-rest : goal.decreases-loop-rest
decreases-loop-rest l = length l.rest
